use Rattle.std.proofs.Common.{◌≡◌, map}
use Rattle.std.specs.List.{filter}
use Rattle.ledger_reg.specs.Sides.{is_moved, account_sum, sides_in}
use Rattle.ledger_reg.proofs.sides.SideSums.into_moved.Given as goal

abbrev pub invariant-loop-key : goal.invariant-loop-key
invariant-loop-key l = l.rows ≡ filter is_moved (map account_sum (sides_in l.yielded))
