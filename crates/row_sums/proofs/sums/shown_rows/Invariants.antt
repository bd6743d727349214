use Rattle.std.proofs.Common.{◌≡◌}
use Rattle.std.specs.List.{filter}
use Rattle.reg_base.specs.Balances.{is_shown}
use Rattle.row_sums.specs.Rows.{rows_of}
use Rattle.row_sums.proofs.sums.shown_rows.Given as goal

abbrev pub invariant-loop-group : goal.invariant-loop-group
invariant-loop-group l = l.rows ≡ filter is_shown (rows_of l.yielded)
