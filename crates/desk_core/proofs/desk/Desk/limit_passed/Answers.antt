use Rattle.std.proofs.Common.{◌∙◌}
use Rattle.reg_base.specs.Results.{◌>>=◌}
use Rattle.desk_core.specs.Ways.{entry_test}
use Rattle.desk_core.proofs.desk.Desk.limit_passed.Goals as goal

pub returns-in-Some : goal.returns-in-Some
returns-in-Some c = λ plan made lines records.
    λ i. c.in-Some.ensures plan made lines records i
    >>= λ _. entry_test c.args.way.now c.args.self.now.desk

pub returns-in-None : goal.returns-in-None
returns-in-None c = λ plan made lines records.
    c.entry_refused.ensures
    ∙ (λ i. c.in-None.ensures plan made lines records i
    >>= λ _. entry_test c.args.way.now c.args.self.now.desk)
