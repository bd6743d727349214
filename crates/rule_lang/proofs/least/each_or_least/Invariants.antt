use Rattle.std.proofs.Common.{◌≡◌, drop}
use Rattle.rule_lang.specs.Least.{each_or_least}
use Rattle.rule_lang.proofs.LeastLemmas.{settled}
use Rattle.rule_lang.proofs.least.each_or_least.Given as goal

abbrev pub invariant-items : goal.invariant-items
invariant-items g l =
    settled l.found.items l.against (each_or_least (g.K.Check.checks l.context)
    (drop l.item-index l.items))
    ≡ each_or_least (g.K.Check.checks l.context) l.items
