use Rattle.std.proofs.Common.{◌≡◌, drop}
use Rattle.rule_lang.specs.Conditions.{first_scale}
use Rattle.rule_lang.proofs.conditions.first_scale.Given as goal

abbrev pub invariant-terms : goal.invariant-terms
invariant-terms l =
    first_scale l.kind l.round l.other (drop l.term-index l.terms)
    ≡ first_scale l.kind l.round l.other l.terms
