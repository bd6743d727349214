-- The rows so far and those that are left are all rows.
use Rattle.std.proofs.Common.{◌≡◌, ◌≤◌, ◌++◌, length}
use Rattle.std.specs.List.{flat_map}
use Rattle.reg_base.specs.Turnovers.{row_limit}
use Rattle.ledger_reg.specs.Pairs.{pairs_in, shown_pair}
use Rattle.ledger_reg.proofs.pairs.pair_rows.Given as goal

abbrev pub invariant-loop-pair : goal.invariant-loop-pair
invariant-loop-pair l = record {
  rows : l.rows ++ flat_map (shown_pair l.chart l.asked) (pairs_in l.pair-iterator)
      ≡ flat_map (shown_pair l.chart l.asked) (pairs_in l.sums.sums.entries);
  few : length l.rows ≤ row_limit;
}
