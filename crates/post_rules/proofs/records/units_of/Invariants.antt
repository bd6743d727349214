use Rattle.std.proofs.Common.{◌≡◌, take}
use Rattle.post_rules.proofs.records.units_of.Given as goal

abbrev pub invariant-numbers : goal.invariant-numbers
invariant-numbers l = l.units.items ≡ take l.number-index l.numbers
