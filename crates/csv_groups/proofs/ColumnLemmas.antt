-- The steps of the walk through a header.
use Rattle.std.proofs.Common.{◌≡◌, ℕ, ◌+◌, ◌<◌, true, false, List, [], ◌∷◌, ◌++◌, drop, length}
use Rattle.std.proofs.Common.{Some}
use Rattle.std.proofs.Common.{None, Err, refl}
use Rattle.std.specs.List.{list_any}
use Rattle.cfg_model.specs.declared.config.Config.{Config}
use Rattle.csv_groups.specs.Cells.{Cells, cell_at}
use Rattle.csv_groups.specs.Columns.{column_of, columns_behind, same_column}
use Rattle.csv_groups.specs.declared.column.Column.{Column}
use Rattle.csv_groups.specs.declared.fault.RowFault.TheVariants.{Refused}
use Rattle.csv_groups.specs.declared.fault.RowWhy.TheVariants.{UnknownColumn}
use Rattle.csv_groups.proofs.CellLemmas.{cell-first}

module _ (config : Config) (seen : List Column) (header : Cells) (i : ℕ)
    (below : i < length header) where
  -- a text that names no column
  pub columns-unknown : column_of config (cell_at header i) ≡ None
      → columns_behind config seen (drop i header)
      ≡ Err (Refused 1 (UnknownColumn (cell_at header i)))
  unfolding columns_behind
  columns-unknown none = rw (cell-first header i below, none) refl

  -- a column that was there
  pub columns-twice : (column : Column) → column_of config (cell_at header i) ≡ Some column
      → list_any (same_column column) seen ≡ true
      → columns_behind config seen (drop i header)
      ≡ Err (Refused 1 (UnknownColumn (cell_at header i)))
  unfolding columns_behind
  columns-twice column one twice = rw (cell-first header i below, one, twice) refl

  -- a new column
  pub columns-more : (column : Column) → column_of config (cell_at header i) ≡ Some column
      → list_any (same_column column) seen ≡ false
      → columns_behind config seen (drop i header)
      ≡ columns_behind config (seen ++ column ∷ []) (drop (i + 1) header)
  unfolding columns_behind
  columns-more column one new = rw (cell-first header i below, one, new) refl
