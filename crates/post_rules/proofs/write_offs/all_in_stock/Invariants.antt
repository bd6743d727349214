use Rattle.std.proofs.Common.{◌≡◌, ◌*◌, ◌≤ℤ◌, pos, ◌+ℤ◌, drop}
use Rattle.post_model.specs.WriteOffs.{all_in_stock as stock_of}
use Rattle.post_rules.specs.Bounds.{largest_sum}
use Rattle.post_rules.proofs.write_offs.all_in_stock.Given as goal

-- what there is so far and in the rest is what there is in all, and no part is too large
abbrev pub invariant-holdings : goal.invariant-holdings
invariant-holdings l =
    (l.stock +ℤ stock_of (drop l.holding-index l.holdings) ≡ stock_of l.holdings)
    × (pos 0 ≤ℤ l.stock) × (l.stock ≤ℤ pos (l.holding-index * largest_sum))
