-- The list of documents.
use Rattle.std.specs.Prelude.{ℕ, List, [], ◌∷◌, map, codes}
use Rattle.reg_base.specs.declared.records.DocRow.{DocRow}
use Rattle.reg_base.specs.Dates.{date_text}
use Rattle.reg_base.specs.Numbers.{number_text}
use Rattle.text_reports.specs.declared.table.Column.{Column}
use Rattle.text_reports.specs.Tables.{left_in, right_in, bare_column, report_text}
use Rattle.text_reports.specs.ShownValues.{shown_state, shown_or}

-- number, date, kind, state, and the key, which nothing follows
abbrev pub list_columns : List Column
list_columns = right_in 10 ∷ left_in 19 ∷ left_in 24 ∷ left_in 8 ∷ bare_column ∷ []

-- the words over them
abbrev pub list_header : List (List ℕ)
list_header =
    codes "number" ∷ codes "date" ∷ codes "kind" ∷ codes "state" ∷ codes "key" ∷ []

-- the line of a document: one without a type is a manual one, one without a key has a dash
abbrev pub list_line : DocRow → List (List ℕ)
list_line row = number_text row.number ∷ date_text row.date ∷ shown_or (codes "manual") row.kind
    ∷ shown_state row.state ∷ shown_or (codes "-") row.key ∷ []

-- the text of a list of documents
unfoldable pub document_list_text : List DocRow → List ℕ
document_list_text rows = report_text list_columns (list_header ∷ map list_line rows)
