use Rattle.std.proofs.Common.{◌≡◌}
use Rattle.virt_tables.specs.Both.{zeros}
use Rattle.virt_tables.proofs.carried.zeros.Given as goal

abbrev pub invariant-loop-column : goal.invariant-loop-column
invariant-loop-column l = l.numbers.items ≡ zeros l.column
