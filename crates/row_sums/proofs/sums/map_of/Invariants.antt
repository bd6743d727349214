-- The rows so far, and those that are left.
use Rattle.std.proofs.Common.{◌≡◌, ◌++◌}
use Rattle.std.specs.Vec.Iter.{into_iter_items}
use Rattle.row_sums.specs.Sums.{groups_in, IsRising}
use Rattle.row_sums.specs.Rows.{rows_of}
use Rattle.row_sums.proofs.sums.map_of.Given as goal

abbrev pub invariant-loop-row : goal.invariant-loop-row
invariant-loop-row l = IsRising (groups_in l.fn.rows)
    → rows_of l.sums.entries ++ into_iter_items l.row-iterator ≡ l.fn.rows
