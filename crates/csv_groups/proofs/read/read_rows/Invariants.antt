use Rattle.std.proofs.Common.{◌≡◌, ◌+◌, ◌≤◌, [], List, length}
use Rattle.csv_groups.specs.Cells.{Cells}
use Rattle.csv_groups.specs.Groups.{RowGroup, groups_behind}
use Rattle.csv_groups.specs.Reading.{HasLeft}
use Rattle.csv_groups.specs.Standing.{StandsFor}
use Rattle.csv_groups.proofs.read.read_rows.Given as goal

abbrev pub invariant-rows : goal.invariant-rows
invariant-rows l = (rows : List Cells) → HasLeft l.fn.reader rows
    → (more : List Cells) × (groups : List RowGroup) × HasLeft l.reader more
    × StandsFor l.columns l.groups groups
    × (groups_behind l.columns groups l.row more ≡ groups_behind l.columns [] 2 rows)
    × (length groups + 2 ≤ l.row)
