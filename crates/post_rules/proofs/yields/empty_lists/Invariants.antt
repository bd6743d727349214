use Rattle.std.proofs.Common.{◌≡◌, [], replicate}
use Rattle.post_rules.proofs.yields.empty_lists.Given as goal

abbrev pub invariant-places : goal.invariant-places
invariant-places g l = l.lists.items ≡ replicate l.counter []
