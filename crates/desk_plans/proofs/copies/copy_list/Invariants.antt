use Rattle.std.proofs.Common.{◌≡◌, take}
use Rattle.desk_plans.proofs.copies.copy_list.Given as goal

abbrev pub invariant-items : goal.invariant-items
invariant-items g l = l.copies.items ≡ take l.item-index l.items
