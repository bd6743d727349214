use Rattle.std.proofs.Common.{◌≡◌, ◌+ℤ◌, map}
use Rattle.std.specs.List.{range_with_len}
use Rattle.table_sums.specs.Additions.{number_at}
use Rattle.table_sums.proofs.column_sums.added.Given as goal

abbrev pub invariant-loop-column : goal.invariant-loop-column
invariant-loop-column l =
    l.totals.items ≡ map (λ j. number_at l.numbers j +ℤ number_at l.sums j)
    (range_with_len 0 l.column)
