-- The rows so far, with those of the sums that are left, are those of all sums.
use Rattle.std.proofs.Common.{◌≡◌, ◌≤◌, ◌++◌, map, length}
use Rattle.std.specs.List.{filter}
use Rattle.std.specs.Vec.Iter.{into_iter_items}
use Rattle.reg_base.specs.Turnovers.{has_movement, row_limit}
use Rattle.virt_tables.specs.Columns.{row_from}
use Rattle.virt_tables.proofs.turnover_table.moved_rows.Given as goal

abbrev pub invariant-loop-unit : goal.invariant-loop-unit
invariant-loop-unit l = record {
  rows : l.rows ++ filter has_movement (map (row_from l.moves.balances l.moves.resources)
      (into_iter_items l.unit-iterator))
      ≡ filter has_movement (map (row_from l.moves.balances l.moves.resources) l.fn.sums);
  room : length l.rows ≤ row_limit;
}
