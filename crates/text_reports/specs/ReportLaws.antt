-- A law of reports: their lines are of one length.
use Rattle.std.specs.Prelude.{◌≡◌, ◌≢◌, ℕ, ◌+◌, List, [], ◌∷◌, length, All}
use Rattle.text_reports.specs.declared.table.Align.TheVariants.{Bare}
use Rattle.text_reports.specs.declared.table.Column.{Column}
use Rattle.text_reports.specs.Tables.{fit_lines, cells_text}

-- the bytes of columns with a space between two
abbrev pub columns_width : List Column → ℕ
columns_width [] = 0
columns_width (column ∷ []) = column.width
columns_width (column ∷ next ∷ columns) = column.width + 1 + columns_width (next ∷ columns)

-- where each line has a cell for each column and no column is bare, each line has as many bytes as
-- the columns that are wide enough for all lines, and a line feed
abbrev pub LinesAlign : Type 0
LinesAlign = (columns : List Column) (lines : List (List (List ℕ)))
    → All (λ (column : Column). column.align ≢ Bare) columns
    → All (λ (line : List (List ℕ)). length line ≡ length columns) lines
    → All (λ line. length (cells_text (fit_lines columns lines) line)
    ≡ columns_width (fit_lines columns lines) + 1) lines
