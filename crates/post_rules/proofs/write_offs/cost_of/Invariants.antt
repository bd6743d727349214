use Rattle.std.proofs.Common.{◌≡◌, ◌*◌, ◌≤◌, unsigned_abs, ◌+ℤ◌, drop}
use Rattle.post_model.specs.WriteOffs.{cost_of as cost_of_all}
use Rattle.post_rules.specs.Bounds.{largest_sum}
use Rattle.post_rules.proofs.write_offs.cost_of.Given as goal

-- the amounts so far and those of the rest are all, and no part is too large
abbrev pub invariant-takes : goal.invariant-takes
invariant-takes l =
    (l.sum +ℤ cost_of_all (drop l.take-index l.takes) ≡ cost_of_all l.takes)
    × (unsigned_abs l.sum ≤ l.take-index * largest_sum)
