-- Reports as text: lines of cells, each cell in its column.
use Rattle.std.specs.Prelude.{ℕ, ◌-◌, max, List, [], ◌∷◌, ◌++◌, length, fold, replicate}
use Rattle.std.specs.List.{flat_map, join_with_byte}
use Rattle.text_reports.specs.declared.table.Align.{Align}
use Rattle.text_reports.specs.declared.table.Align.TheVariants.{Left, Right, Bare}
use Rattle.text_reports.specs.declared.table.Column.{Column}

-- a column of texts that begin at its left end, with its least width in bytes
abbrev pub left_in : ℕ → Column
left_in width = record { width = width; align = Left }

-- a column of texts that end at its right end
abbrev pub right_in : ℕ → Column
right_in width = record { width = width; align = Right }

-- a last column of texts that nothing follows
abbrev pub bare_column : Column
bare_column = record { width = 0; align = Bare }

-- the columns, each at least as wide as its cell of a line
abbrev pub fit_line : List Column → List (List ℕ) → List Column
fit_line [] cells = []
fit_line (column ∷ columns) [] = []
fit_line (column ∷ columns) (cell ∷ cells) =
    record column { width = max column.width (length cell) } ∷ fit_line columns cells

-- the columns, each at least as wide as each of its cells
abbrev pub fit_lines : List Column → List (List (List ℕ)) → List Column
fit_lines columns lines = fold fit_line columns lines

-- a text in a column: with spaces behind it or in front of it up to the width, or as it stands
abbrev pub placed_text : Column → List ℕ → List ℕ
placed_text column text = at column.align
  where
    at : Align → List ℕ
    at Left = text ++ replicate (column.width - length text) 32
    at Right = replicate (column.width - length text) 32 ++ text
    at Bare = text

-- each cell of a line in its column
abbrev pub placed_texts : List Column → List (List ℕ) → List (List ℕ)
placed_texts [] cells = []
placed_texts (column ∷ columns) [] = []
placed_texts (column ∷ columns) (cell ∷ cells) =
    placed_text column cell ∷ placed_texts columns cells

-- the text of a line: its cells with a space between two, and a line feed
abbrev pub cells_text : List Column → List (List ℕ) → List ℕ
cells_text columns cells = join_with_byte 32 (placed_texts columns cells) ++ (10 ∷ [])

-- the text of a report: its lines, in columns that are wide enough for all of them
abbrev pub report_text : List Column → List (List (List ℕ)) → List ℕ
report_text columns lines = flat_map (cells_text (fit_lines columns lines)) lines
