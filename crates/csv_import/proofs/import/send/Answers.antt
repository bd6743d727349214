use Rattle.std.proofs.Common.{ap, ◌∙◌}
use Rattle.desk_core.proofs.ForAbove.{is_fault}
use Rattle.csv_import.specs.Imports.{renumbered}
use Rattle.csv_import.proofs.EndLemmas.{GroupEnds-sent}
use Rattle.csv_import.proofs.import.send.Goals as goal

pub returns-in_err-reply-clause-ends : goal.returns-in_err-reply-clause-ends
returns-in_err-reply-clause-ends g c =
    let sent = c.renumbered-request.ensures
    ∙ ap (λ number. renumbered number c.args.request) c.batch_number.ensures in
    rw (is_fault c.from_residual.result _ c.from_residual.ensures)
    (GroupEnds-sent c.args.desk.now _ _ _ g.D.Disk.state _ _ _ _ _
    c.requires.holds.stands.stands.sure sent c.requires.going
    c.in_err-reply.ensures.ends c.in_err-reply.ensures.untouched)
