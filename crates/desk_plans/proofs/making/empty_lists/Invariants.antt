use Rattle.std.proofs.Common.{◌≡◌, [], map, take}
use Rattle.desk_plans.proofs.making.empty_lists.Given as goal

abbrev pub invariant-others : goal.invariant-others
invariant-others g l = l.lists.items ≡ map (λ _. []) (take l.index l.others)
