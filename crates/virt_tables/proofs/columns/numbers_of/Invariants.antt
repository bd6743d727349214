-- The columns so far.
use Rattle.std.proofs.Common.{◌≡◌, map, take}
use Rattle.std.specs.List.{flat_map, range_with_len}
use Rattle.virt_tables.specs.Columns.{column_at, AreSmall}
use Rattle.virt_tables.proofs.columns.numbers_of.Given as goal

abbrev pub invariant-loop-column : goal.invariant-loop-column
invariant-loop-column l = record {
  value : l.numbers.items ≡ flat_map
      (λ c. map (λ j. column_at c j l.rec) (range_with_len 0 l.resources))
      (take l.column-index l.columns);
  small : AreSmall l.numbers.items;
}
