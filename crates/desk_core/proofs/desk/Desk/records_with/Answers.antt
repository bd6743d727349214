use Rattle.std.proofs.Common.{◌+◌, ◌∙◌}
use Rattle.desk_core.proofs.KeptLemmas.{records-put}
use Rattle.desk_core.proofs.desk.Desk.records_with.Goals as goal

pub returns-clause-value : goal.returns-clause-value
returns-clause-value c =
    (λ i. c.records_without.ensures.value i + c.record_count.ensures.value i)
    ∙ records-put c.args.document.now c.args.self.now.desk.serial.documents
