-- The lines of a report are of one length: each cell is within its column.
use Rattle.std.proofs.Common.{◌≡◌, ◌≢◌, ℕ, ◌+◌, ◌-◌, ◌≤◌, List, [], ◌∷◌, length, refl}
use Rattle.std.proofs.Common.{replicate, arith, length-append, ◌∙◌, sym}
use Rattle.std.specs.List.{AllByRecursion, join_with_byte}
use Rattle.std.proofs.Math.Nat.{le-max_left, le-max_right}
use Rattle.std.proofs.lemmas.List.{length-replicate}
use Rattle.std.proofs.lemmas.List.Elements.{All-from_recursion, recursion_from_All}
use Rattle.text_reports.specs.declared.table.Align.{Align}
use Rattle.text_reports.specs.declared.table.Align.TheVariants.{Left, Right, Bare}
use Rattle.text_reports.specs.declared.table.Column.{Column}
use Rattle.text_reports.specs.Tables.{fit_line, fit_lines, placed_text, placed_texts, cells_text}
use Rattle.text_reports.specs.ReportLaws.{LinesAlign, columns_width}

-- a line has a cell for each column, and each is within its column
abbrev Fits : List Column → List (List ℕ) → Type 0
Fits [] [] = Unit {0}
Fits [] (cell ∷ cells) = ⊥
Fits (column ∷ columns) [] = ⊥
Fits (column ∷ columns) (cell ∷ cells) = (length cell ≤ column.width) × Fits columns cells

-- no column is bare
abbrev AreAligned : List Column → Type 0
AreAligned columns = AllByRecursion (λ (column : Column). column.align ≢ Bare) columns

-- each line has so many cells
abbrev HaveCells : ℕ → List (List (List ℕ)) → Type 0
HaveCells n lines = AllByRecursion (λ (line : List (List ℕ)). length line ≡ n) lines

-- a line is within the columns that were fitted to it
Fits-fit_line : (columns : List Column) (cells : List (List ℕ)) → length cells ≡ length columns
    → Fits (fit_line columns cells) cells
Fits-fit_line [] [] same = tt
Fits-fit_line [] (cell ∷ cells) same = absurd (omega (arith, same))
Fits-fit_line (column ∷ columns) [] same = absurd (omega (arith, same))
Fits-fit_line (column ∷ columns) (cell ∷ cells) same = (
  le-max_right column.width (length cell),
  Fits-fit_line columns cells (omega (arith, same)),
)

-- and stays so when they are fitted to another
Fits-other : (columns : List Column) (cells other : List (List ℕ)) → Fits columns cells
    → length other ≡ length columns → Fits (fit_line columns other) cells
Fits-other [] [] [] fits same = tt
Fits-other [] [] (cell ∷ more) fits same = absurd (omega (arith, same))
Fits-other [] (cell ∷ cells) other fits same = absurd fits
Fits-other (column ∷ columns) [] other fits same = absurd fits
Fits-other (column ∷ columns) (cell ∷ cells) [] fits same = absurd (omega (arith, same))
Fits-other (column ∷ columns) (cell ∷ cells) (more ∷ other) fits same = (
  omega (arith, fits.0, le-max_left column.width (length more)),
  Fits-other columns cells other fits.1 (omega (arith, same)),
)

-- no column is lost
length-fit_line : (columns : List Column) (cells : List (List ℕ))
    → length cells ≡ length columns → length (fit_line columns cells) ≡ length columns
length-fit_line [] cells same = refl
length-fit_line (column ∷ columns) [] same = absurd (omega (arith, same))
length-fit_line (column ∷ columns) (cell ∷ cells) same =
    omega (arith, length-fit_line columns cells (omega (arith, same)))

-- so it is of many lines
Fits-others : (n : ℕ) (columns : List Column) (cells : List (List ℕ))
    (lines : List (List (List ℕ))) → length columns ≡ n → Fits columns cells → HaveCells n lines
    → Fits (fit_lines columns lines) cells
Fits-others n columns cells [] many fits all = fits
Fits-others n columns cells (line ∷ lines) many fits all =
    let same : length line ≡ length columns = all.0 ∙ sym many in
    Fits-others n (fit_line columns line) cells lines (length-fit_line columns line same ∙ many)
    (Fits-other columns cells line fits same) all.1

-- each line is within the columns that were fitted to all
Fits-fit_lines : (n : ℕ) (columns : List Column) (lines : List (List (List ℕ)))
    → length columns ≡ n → HaveCells n lines
    → AllByRecursion (Fits (fit_lines columns lines)) lines
Fits-fit_lines n columns [] many all = tt
Fits-fit_lines n columns (line ∷ lines) many all =
    let same : length line ≡ length columns = all.0 ∙ sym many in
    let kept = length-fit_line columns line same ∙ many in (
      Fits-others n (fit_line columns line) line lines kept (Fits-fit_line columns line same) all.1,
      Fits-fit_lines n (fit_line columns line) lines kept all.1,
    )

-- columns that are fitted stand as before
AreAligned-fit_line : (columns : List Column) (cells : List (List ℕ)) → AreAligned columns
    → AreAligned (fit_line columns cells)
AreAligned-fit_line [] cells aligned = tt
AreAligned-fit_line (column ∷ columns) [] aligned = tt
AreAligned-fit_line (column ∷ columns) (cell ∷ cells) aligned =
    (aligned.0, AreAligned-fit_line columns cells aligned.1)

AreAligned-fit_lines : (columns : List Column) (lines : List (List (List ℕ)))
    → AreAligned columns → AreAligned (fit_lines columns lines)
AreAligned-fit_lines columns [] aligned = aligned
AreAligned-fit_lines columns (line ∷ lines) aligned =
    AreAligned-fit_lines (fit_line columns line) lines (AreAligned-fit_line columns line aligned)

-- a text within its column fills it
length-placed_text : (width : ℕ) (align : Align) (text : List ℕ) → align ≢ Bare
    → length text ≤ width
    → length (placed_text (record { width = width; align = align }) text) ≡ width
length-placed_text width Left text aligned fits = omega (
  arith,
  fits,
  length-append text (replicate (width - length text) 32),
  length-replicate {A = ℕ} (width - length text) 32,
)
length-placed_text width Right text aligned fits = omega (
  arith,
  fits,
  length-append (replicate (width - length text) 32) text,
  length-replicate {A = ℕ} (width - length text) 32,
)
length-placed_text width Bare text aligned fits = absurd (aligned refl)

-- cells within their columns are as long as these
length-placed_texts : (columns : List Column) (cells : List (List ℕ)) → AreAligned columns
    → Fits columns cells
    → length (join_with_byte 32 (placed_texts columns cells)) ≡ columns_width columns
length-placed_texts [] [] aligned fits = refl
length-placed_texts [] (cell ∷ cells) aligned fits = absurd fits
length-placed_texts (column ∷ []) [] aligned fits = absurd fits
length-placed_texts (column ∷ next ∷ columns) [] aligned fits = absurd fits
length-placed_texts (column ∷ []) (cell ∷ []) aligned fits =
    length-placed_text column.width column.align cell aligned.0 fits.0
length-placed_texts (column ∷ []) (cell ∷ more ∷ cells) aligned fits = absurd fits.1
length-placed_texts (column ∷ next ∷ columns) (cell ∷ []) aligned fits = absurd fits.1
length-placed_texts (column ∷ next ∷ columns) (cell ∷ more ∷ cells) aligned fits = omega (
  arith,
  length-append (placed_text column cell)
      (32 ∷ join_with_byte 32 (placed_texts (next ∷ columns) (more ∷ cells))),
  length-placed_text column.width column.align cell aligned.0 fits.0,
  length-placed_texts (next ∷ columns) (more ∷ cells) aligned.1 fits.1,
)

-- a line within its columns is as long as these, with its line feed
length-cells_text : (columns : List Column) → AreAligned columns
    → (lines : List (List (List ℕ))) → AllByRecursion (Fits columns) lines
    → AllByRecursion (λ (line : List (List ℕ)).
    length (cells_text columns line) ≡ columns_width columns + 1) lines
length-cells_text columns aligned [] all = tt
length-cells_text columns aligned (line ∷ lines) all = (
  omega (
    arith,
    length-append (join_with_byte 32 (placed_texts columns line)) (10 ∷ []),
    length-placed_texts columns line aligned all.0,
  ),
  length-cells_text columns aligned lines all.1,
)

-- the law
pub lines-align : LinesAlign
lines-align columns lines aligned many =
    let fitted = fit_lines columns lines in
    All-from_recursion _ lines (length-cells_text fitted
    (AreAligned-fit_lines columns lines
    (recursion_from_All (λ (column : Column). column.align ≢ Bare) columns aligned))
    lines (Fits-fit_lines (length columns) columns lines refl
    (recursion_from_All (λ (line : List (List ℕ)). length line ≡ length columns) lines many)))
