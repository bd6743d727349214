-- The rows so far and those of the sums that are left are all rows.
use Rattle.std.proofs.Common.{◌≡◌, ◌≤◌, ◌++◌, length, drop}
use Rattle.std.specs.List.{flat_map}
use Rattle.reg_base.specs.Turnovers.{row_limit}
use Rattle.ledger_reg.specs.Balances.{place_row}
use Rattle.ledger_reg.proofs.balances.place_rows.Given as goal

abbrev pub invariant-loop-sum : goal.invariant-loop-sum
invariant-loop-sum l = record {
  rows : l.rows ++ flat_map (place_row l.chart l.asked) (drop l.sum-index l.sums)
      ≡ flat_map (place_row l.chart l.asked) l.sums;
  few : length l.rows ≤ row_limit;
}
