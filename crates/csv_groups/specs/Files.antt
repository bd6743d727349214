-- The groups that a file holds, or the first fault of its first row that has one.
use Rattle.std.specs.Prelude.{ℕ, List, [], ◌∷◌, drop, map, reverse, Result, Ok}
use Rattle.csv.specs.Reading.{default_config, records, strip_bom}
use Rattle.reg_base.specs.Results.{◌>>=◌, unless}
use Rattle.cfg_model.specs.declared.config.Config.{Config}
use Rattle.csv_groups.specs.Cells.{Cells, are_utf8}
use Rattle.csv_groups.specs.Columns.{columns_of}
use Rattle.csv_groups.specs.Groups.{groups_behind, group_in}
use Rattle.csv_groups.specs.declared.columns.Columns.{Columns}
use Rattle.csv_groups.specs.declared.fault.RowFault.{RowFault}
use Rattle.csv_groups.specs.declared.fault.RowFault.TheVariants.{Refused}
use Rattle.csv_groups.specs.declared.fault.RowWhy.TheVariants.{Shape}
use Rattle.csv_groups.specs.declared.group.Group.{Group}

-- the columns of the header, row 1
unfoldable pub header_of : Config → Cells → Result Columns RowFault
header_of config header = do
  _ ← unless (are_utf8 header) (Refused 1 Shape)
  columns_of config header

-- the groups of the rows behind a header, in the order of the file
unfoldable pub groups_under : Columns → List Cells → Result (List Group) RowFault
groups_under columns rows = do
  groups ← groups_behind columns [] 2 rows
  Ok (reverse (map (group_in columns) groups))

-- the cells of the first of some rows, and none where there is none
abbrev pub first_row : List Cells → Cells
first_row [] = []
first_row (cells ∷ rows) = cells

-- the groups of the records of a file, of which the first is the header; with no records it is
-- empty
unfoldable pub groups_of_rows : Config → List Cells → Result (List Group) RowFault
groups_of_rows config rows = do
  columns ← header_of config (first_row rows)
  groups_under columns (drop 1 rows)

-- the groups that the bytes of a file hold: a byte order mark at their start is passed over
unfoldable pub read_file : Config → List ℕ → Result (List Group) RowFault
read_file config bytes = groups_of_rows config (records default_config (strip_bom bytes))
