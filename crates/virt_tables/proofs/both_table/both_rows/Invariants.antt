-- The rows so far, with those of the sums that are left, are those of all sums.
use Rattle.std.proofs.Common.{◌≡◌, ◌≤◌, ◌++◌, [], length}
use Rattle.std.specs.List.{filter}
use Rattle.std.specs.Vec.Iter.{into_iter_items}
use Rattle.reg_base.specs.Turnovers.{stands, row_limit}
use Rattle.virt_tables.specs.Both.{rows_after, zeros, IsCarried}
use Rattle.virt_tables.proofs.both_table.both_rows.Given as goal

abbrev pub invariant-loop-unit : goal.invariant-loop-unit
invariant-loop-unit l = record {
  rows : l.rows ++ filter (stands l.ends) (rows_after l.resources l.carried.group
      l.carried.balance (into_iter_items l.unit-iterator))
      ≡ filter (stands l.ends) (rows_after l.resources [] (zeros l.resources) l.fn.sums);
  room : length l.rows ≤ row_limit;
  carried : IsCarried l.resources l.carried.balance (into_iter_items l.unit-iterator);
}
