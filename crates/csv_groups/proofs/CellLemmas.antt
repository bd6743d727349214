-- Cells by their places, and what is known of those of a row that reads.
use Rattle.std.proofs.Common.{◌≡◌, ℕ, zero, suc, ◌+◌, ◌<◌, ◌&&◌, Bool, true, false, cond, List}
use Rattle.std.proofs.Common.{[], ◌∷◌, drop, length, get_or, Some, None, Ok, Err, refl, ap, sym}
use Rattle.std.proofs.Common.{◌∙◌, arith, codes, IfOk, Result}
use Rattle.std.specs.Str.{is_utf8, IsUtf8}
use Rattle.std.proofs.lemmas.List.{drop_more}
use Rattle.std.proofs.lemmas.Option.{same_Some}
use Rattle.std.proofs.lemmas.Str.{IsUtf8-from_is_utf8, is_utf8-from_IsUtf8}
use Rattle.csv.specs.Records.{AllText, field_at}
use Rattle.reg_base.specs.Codes.{is_name}
use Rattle.reg_base.specs.Dates.{parse_date}
use Rattle.reg_base.specs.declared.date.DateFault.{DateFault}
use Rattle.reg_base.proofs.ForAbove.{parse_date-within}
use Rattle.csv_groups.specs.Cells.{Cells, cell_at, are_utf8, reads_as, first_unread, date_in}
use Rattle.csv_groups.specs.Columns.{same_column, place_from}
use Rattle.csv_groups.specs.declared.column.Column.{Column}
use Rattle.csv_groups.specs.declared.column.Column.TheVariants.{Key, Kind, Date, Comment}
use Rattle.csv_groups.specs.declared.column.Column.TheVariants.{Head, Line}

-- a cell is that of the list at its place
cell-get_or : (cells : Cells) (i : ℕ) → i < length cells → cell_at cells i ≡ get_or cells i []
unfolding field_at
cell-get_or [] i below = absurd (omega (arith, below))
cell-get_or (x ∷ xs) zero below = refl
cell-get_or (x ∷ xs) (suc i) below = cell-get_or xs i (omega (arith, below))

-- the cells from a place on are the one there, and those behind it
pub cell-first : (cells : Cells) (i : ℕ) → i < length cells
    → drop i cells ≡ cell_at cells i ∷ drop (i + 1) cells
cell-first cells i below =
    drop_more cells i [] below ∙ ap (λ x. x ∷ drop (i + 1) cells) (sym (cell-get_or cells i below))

-- what is text is UTF-8 by the test
pub are_utf8-text : (cells : Cells) → AllText cells → are_utf8 cells ≡ true
unfolding AllText
are_utf8-text [] h = refl
are_utf8-text (x ∷ xs) h = rw (is_utf8-from_IsUtf8 x h.0) (are_utf8-text xs h.1)

-- what is UTF-8 by the test is text
text-are_utf8 : (cells : Cells) → are_utf8 cells ≡ true → AllText cells
unfolding AllText
text-are_utf8 [] e = tt
text-are_utf8 (x ∷ xs) e = at (is_utf8 x) refl (text-are_utf8 xs) e
  where
    at : (b : Bool) → is_utf8 x ≡ b → (are_utf8 xs ≡ true → AllText xs)
        → (b && are_utf8 xs) ≡ true → IsUtf8 x × AllText xs
    at true is others e = (IsUtf8-from_is_utf8 x is, others e)
    at false is others e = absurd (cc)

-- what is no text is not
pub are_utf8-no_text : (cells : Cells) → ¬ (AllText cells) → are_utf8 cells ≡ false
are_utf8-no_text cells no_text = at (are_utf8 cells) refl
  where
    at : (b : Bool) → are_utf8 cells ≡ b → are_utf8 cells ≡ false
    at true is = absurd (no_text (text-are_utf8 cells is))
    at false is = is

-- the same columns read the same
reads-same : (a b : Column) (cell : List ℕ) → same_column a b ≡ true
    → reads_as b cell ≡ reads_as a cell
reads-same Key Key cell e = refl
reads-same Kind Kind cell e = refl
reads-same Date Date cell e = refl
reads-same Comment Comment cell e = refl
reads-same (Head a) (Head b) cell e = refl
reads-same (Line a) (Line b) cell e = refl
reads-same Key Kind cell e = absurd (cc)
reads-same Key Date cell e = absurd (cc)
reads-same Key Comment cell e = absurd (cc)
reads-same Key (Head b) cell e = absurd (cc)
reads-same Key (Line b) cell e = absurd (cc)
reads-same Kind Key cell e = absurd (cc)
reads-same Kind Date cell e = absurd (cc)
reads-same Kind Comment cell e = absurd (cc)
reads-same Kind (Head b) cell e = absurd (cc)
reads-same Kind (Line b) cell e = absurd (cc)
reads-same Date Key cell e = absurd (cc)
reads-same Date Kind cell e = absurd (cc)
reads-same Date Comment cell e = absurd (cc)
reads-same Date (Head b) cell e = absurd (cc)
reads-same Date (Line b) cell e = absurd (cc)
reads-same Comment Key cell e = absurd (cc)
reads-same Comment Kind cell e = absurd (cc)
reads-same Comment Date cell e = absurd (cc)
reads-same Comment (Head b) cell e = absurd (cc)
reads-same Comment (Line b) cell e = absurd (cc)
reads-same (Head a) Key cell e = absurd (cc)
reads-same (Head a) Kind cell e = absurd (cc)
reads-same (Head a) Date cell e = absurd (cc)
reads-same (Head a) Comment cell e = absurd (cc)
reads-same (Head a) (Line b) cell e = absurd (cc)
reads-same (Line a) Key cell e = absurd (cc)
reads-same (Line a) Kind cell e = absurd (cc)
reads-same (Line a) Date cell e = absurd (cc)
reads-same (Line a) Comment cell e = absurd (cc)
reads-same (Line a) (Head b) cell e = absurd (cc)

-- where no cell does not read, that of a column at its place does
reads-from : (cells : Cells) (column : Column) (index place : ℕ) (columns : List Column)
    → first_unread cells index columns ≡ None → place_from column index columns ≡ Some place
    → reads_as column (cell_at cells place) ≡ true
reads-from cells column index place [] e found = absurd (cc)
reads-from cells column index place (c ∷ cs) e found =
    at (reads_as c (cell_at cells index)) (same_column column c) refl refl
    (reads-from cells column (index + 1) place cs) e found
  where
    at : (b s : Bool) → reads_as c (cell_at cells index) ≡ b → same_column column c ≡ s
        → (first_unread cells (index + 1) cs ≡ None
        → place_from column (index + 1) cs ≡ Some place
        → reads_as column (cell_at cells place) ≡ true)
        → cond b (first_unread cells (index + 1) cs) (Some c) ≡ None
        → cond s (Some index) (place_from column (index + 1) cs) ≡ Some place
        → reads_as column (cell_at cells place) ≡ true
    at true true reads same more e found =
        ap (λ i. reads_as column (cell_at cells i)) (sym (same_Some _ _ found))
        ∙ sym (reads-same column c (cell_at cells index) same) ∙ reads
    at true false reads same more e found = more e found
    at false s reads same more e found = absurd (cc)

pub reads-at : (cells : Cells) (column : Column) (place : ℕ) (columns : List Column)
    → first_unread cells 0 columns ≡ None → place_from column 0 columns ≡ Some place
    → reads_as column (cell_at cells place) ≡ true
reads-at cells column place columns = reads-from cells column 0 place columns

-- the date of any cell lies in the century
pub date_in-within : (cell : List ℕ) → date_in cell < 3_155_760_000
date_in-within cell = at (parse_date cell) refl (parse_date-within cell)
  where
    at : (r : Result ℕ DateFault) → parse_date cell ≡ r → IfOk r (λ date. date < 3_155_760_000)
        → date_in cell < 3_155_760_000
    at (Ok date) is h = rw is h
    at (Err fault) is h = rw is (omega arith)

-- the clerk that posts by itself has a name
pub batch-name : is_name (codes "batch") ≡ true
unfolding is_name
batch-name = refl
