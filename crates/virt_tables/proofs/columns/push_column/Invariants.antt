-- The numbers so far.
use Rattle.std.proofs.Common.{◌≡◌, ◌++◌, map}
use Rattle.std.specs.List.{range_with_len}
use Rattle.virt_tables.specs.Columns.{column_at, AreSmall}
use Rattle.virt_tables.proofs.columns.push_column.Given as goal

abbrev pub invariant-loop-resource : goal.invariant-loop-resource
invariant-loop-resource l = record {
  value : l.numbers.items ≡ l.initial.numbers.items
      ++ map (λ j. column_at l.column j l.rec) (range_with_len 0 l.resource);
  small : AreSmall l.numbers.items;
}
