use Rattle.std.proofs.Common.{◌≡◌, drop, None}
use Rattle.cfg_model.proofs.ForAbove.{result_front}
use Rattle.rule_lang.specs.Rules.{statements_from}
use Rattle.rule_lang.proofs.rules.statements_of_kind.Given as goal

abbrev pub invariant-plains : goal.invariant-plains
invariant-plains l =
    result_front l.statements.items
    (statements_from l.config l.kind l.costs l.before (drop l.before l.plains))
    ≡ statements_from l.config l.kind (record { once = None; each = None }) 0 l.plains
