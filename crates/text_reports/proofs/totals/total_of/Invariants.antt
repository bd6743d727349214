-- what was added so far and what is left is the sum, and each row adds a moderate number
use Rattle.std.proofs.Common.{◌≡◌, ◌≤ℤ◌, ◌+ℤ◌, neg_ℤ, pos, ◌*◌, ◌^◌, drop, map}
use Rattle.reg_base.specs.Sums.{sum_over}
use Rattle.text_reports.specs.Amounts.{amount_of}
use Rattle.text_reports.proofs.totals.total_of.Given as goal

abbrev pub invariant-rows : goal.invariant-rows
invariant-rows l =
    (l.total +ℤ sum_over (amount_of l.amount) (map (λ row. row.now) (drop l.row-index l.rows))
    ≡ sum_over (amount_of l.amount) (map (λ row. row.now) l.rows))
    × (neg_ℤ (pos (l.row-index * 10 ^ 32)) ≤ℤ l.total)
    × (l.total ≤ℤ pos (l.row-index * 10 ^ 32))
