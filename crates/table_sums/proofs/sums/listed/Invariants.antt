use Rattle.std.proofs.Common.{◌≡◌}
use Rattle.table_sums.specs.Rows.{rows_of}
use Rattle.table_sums.proofs.sums.listed.Given as goal

abbrev pub invariant-loop-group : goal.invariant-loop-group
invariant-loop-group l = l.rows ≡ rows_of l.yielded
