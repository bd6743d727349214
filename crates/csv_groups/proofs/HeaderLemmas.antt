-- The header as a reader gives it.
use Rattle.std.proofs.Common.{◌≡◌, true, false, List, [], ◌∷◌, Err, refl}
use Rattle.cfg_model.specs.declared.config.Config.{Config}
use Rattle.csv_groups.specs.Cells.{Cells, are_utf8}
use Rattle.csv_groups.specs.Columns.{columns_of, columns_behind, column_text}
use Rattle.csv_groups.specs.Files.{header_of, first_row}
use Rattle.csv_groups.specs.declared.column.Column.TheVariants.{Key}
use Rattle.csv_groups.specs.declared.fault.RowFault.TheVariants.{Refused}
use Rattle.csv_groups.specs.declared.fault.RowWhy.TheVariants.{Shape, MissingColumn}

-- a header that is no UTF-8
pub header-refused : (config : Config) (rows : List Cells) (cells : Cells) (more : List Cells)
    → rows ≡ cells ∷ more → are_utf8 cells ≡ false
    → header_of config (first_row rows) ≡ Err (Refused 1 Shape)
unfolding header_of
header-refused config rows cells more are other = rw (are, other) refl

-- one that is
pub header-read : (config : Config) (rows : List Cells) (cells : Cells) (more : List Cells)
    → rows ≡ cells ∷ more → are_utf8 cells ≡ true
    → header_of config (first_row rows) ≡ columns_of config cells
unfolding header_of
header-read config rows cells more are texts = rw (are, texts) refl

-- no header
pub header-missing : (config : Config) (rows : List Cells) → rows ≡ []
    → header_of config (first_row rows) ≡ Err (Refused 1 (MissingColumn (column_text Key)))
unfolding header_of columns_of columns_behind
header-missing config rows none = rw none refl
