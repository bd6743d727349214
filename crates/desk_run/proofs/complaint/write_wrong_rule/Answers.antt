use Rattle.std.proofs.Common.{ap, ◌∙◌}
use Rattle.reg_base.specs.Numbers.{number_text}
use Rattle.desk_run.proofs.PieceLemmas.{WritesLine-is, rule_line}
use Rattle.desk_run.proofs.complaint.write_wrong_rule.Goals as goal

pub returns : goal.returns
returns g c = WritesLine-is
    (rule_line c.args.kind.now c.digits-place.result.now c.digits-reason.result.now c.args.place
    c.args.reason c.digits-place.ensures
    (c.digits-reason.ensures ∙ ap (λ n. number_text n) c.from.ensures))
    c.write_line.ensures
