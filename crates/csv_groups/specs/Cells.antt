-- The cells of a row, and how they read.
use Rattle.std.specs.Prelude.{ℕ, ◌+◌, ◌==◌, not, Bool, true, false, List, [], ◌∷◌}
use Rattle.std.specs.Prelude.{Option, Some, None, unwrap_or, Result, Ok, Err, if◌then◌else◌}
use Rattle.std.specs.List.{list_all}
use Rattle.std.specs.Result.{is_ok}
use Rattle.std.specs.Str.{bytes_eq, is_utf8}
use Rattle.csv.specs.Records.{field_at}
use Rattle.reg_base.specs.Codes.{is_code, is_name}
use Rattle.reg_base.specs.Comments.{is_comment}
use Rattle.reg_base.specs.Dates.{parse_date}
use Rattle.reg_base.specs.declared.date.DateFault.{DateFault}
use Rattle.csv_groups.specs.declared.column.Column.{Column}
use Rattle.csv_groups.specs.declared.column.Column.TheVariants.{Key, Kind, Date, Comment}
use Rattle.csv_groups.specs.declared.column.Column.TheVariants.{Head, Line}

-- the cells of a row, each its bytes
abbrev pub Cells : Type 0
Cells = List (List ℕ)

-- the cell at a place, counted from 0, and an empty one where the row is shorter
abbrev pub cell_at : Cells → ℕ → List ℕ
cell_at cells index = unwrap_or (field_at cells index) []

-- each cell is UTF-8
abbrev pub are_utf8 : Cells → Bool
are_utf8 cells = list_all is_utf8 cells

abbrev date_or_first : Result ℕ DateFault → ℕ
date_or_first (Ok date) = date
date_or_first (Err fault) = 0

-- the date that a cell spells, and the first date where it spells none
abbrev pub date_in : List ℕ → ℕ
date_in cell = date_or_first (parse_date cell)

-- a cell reads as what its column holds
abbrev pub reads_as : Column → List ℕ → Bool
reads_as Key cell = is_code cell
reads_as Kind cell = is_name cell
reads_as Date cell = is_ok (parse_date cell)
reads_as Comment cell = is_comment cell
reads_as (Head name) cell = true
reads_as (Line name) cell = true

-- of columns, of which the first has this index, the first whose cell does not read
abbrev pub first_unread : Cells → ℕ → List Column → Option Column
first_unread cells index [] = None
first_unread cells index (c ∷ cs) =
    if reads_as c (cell_at cells index) then first_unread cells (index + 1) cs else Some c

-- two rows of one document may not have these two cells in a column: dates that are not the same,
-- or other texts of its type, its comment or its head
abbrev pub differs_in : Column → List ℕ → List ℕ → Bool
differs_in Key a b = false
differs_in Kind a b = not (bytes_eq a b)
differs_in Date a b = not (date_in a == date_in b)
differs_in Comment a b = not (bytes_eq a b)
differs_in (Head name) a b = not (bytes_eq a b)
differs_in (Line name) a b = false

-- of columns, of which the first has this index, the first in which two rows may not differ so
abbrev pub first_difference : Cells → Cells → ℕ → List Column → Option Column
first_difference first cells index [] = None
first_difference first cells index (c ∷ cs) =
    if differs_in c (cell_at first index) (cell_at cells index) then Some c
    else first_difference first cells (index + 1) cs
