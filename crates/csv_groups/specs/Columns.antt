-- The columns that a file may have, and those that its header has.
use Rattle.std.specs.Prelude.{◌≡◌, ℕ, ◌+◌, ◌==◌, ◌&&◌, not, nat_lt, codes, Bool, true, false}
use Rattle.std.specs.Prelude.{length}
use Rattle.std.specs.Prelude.{List, [], ◌∷◌, ◌++◌, Option, Some, None, option_and_then}
use Rattle.std.specs.Prelude.{Result, Ok, if◌then◌else◌}
use Rattle.std.specs.List.{list_any, position_or_len, before_first, after_first}
use Rattle.std.specs.Str.{bytes_eq}
use Rattle.reg_base.specs.Codes.{is_name}
use Rattle.reg_base.specs.Results.{◌>>=◌, unless, some_or}
use Rattle.cfg_model.specs.declared.config.Config.{Config}
use Rattle.cfg_model.specs.declared.kind.Field.{Field}
use Rattle.cfg_model.specs.declared.kind.Kind.{Kind}
use Rattle.csv_groups.specs.Cells.{Cells}
use Rattle.csv_groups.specs.declared.column.Column.{Column}
use Rattle.csv_groups.specs.declared.column.Column.TheVariants.{Key, Kind as Sort, Date, Comment}
use Rattle.csv_groups.specs.declared.column.Column.TheVariants.{Head, Line}
use Rattle.csv_groups.specs.declared.column.Part.{Part}
use Rattle.csv_groups.specs.declared.column.Part.TheVariants.{Head as Head_part, Line as Line_part}
use Rattle.csv_groups.specs.declared.columns.Columns.{Columns}
use Rattle.csv_groups.specs.declared.fault.RowFault.{RowFault}
use Rattle.csv_groups.specs.declared.fault.RowFault.TheVariants.{Refused}
use Rattle.csv_groups.specs.declared.fault.RowWhy.TheVariants.{UnknownColumn, MissingColumn}

-- the text of a column in a header
abbrev pub column_text : Column → List ℕ
column_text Key = codes "key"
column_text Sort = codes "kind"
column_text Date = codes "date"
column_text Comment = codes "comment"
column_text (Head name) = codes "head." ++ name
column_text (Line name) = codes "line." ++ name

-- both are one column
abbrev pub same_column : Column → Column → Bool
same_column Key Key = true
same_column Sort Sort = true
same_column Date Date = true
same_column Comment Comment = true
same_column (Head a) (Head b) = bytes_eq a b
same_column (Line a) (Line b) = bytes_eq a b
same_column _ _ = false

-- the field that a column holds of heads, or of lines
abbrev pub field_named : Part → Column → Option (List ℕ)
field_named Head_part (Head name) = Some name
field_named Line_part (Line name) = Some name
field_named _ _ = None

-- one of the fields has this name
abbrev pub has_field_of : List Field → List ℕ → Bool
has_field_of fields name = list_any (λ field. bytes_eq field.name name) fields

-- the fields of a document type's head, or of its lines
abbrev pub part_fields : Part → Kind → List Field
part_fields Head_part kind = kind.head
part_fields Line_part kind = kind.lines

-- some document type has a field of this name in this part
abbrev pub is_part_field : Config → Part → List ℕ → Bool
is_part_field config part name =
    list_any (λ kind. has_field_of (part_fields part kind) name) config.kinds

-- the part of a word
abbrev pub part_of : List ℕ → Option Part
part_of word =
    if bytes_eq word (codes "head") then Some Head_part
    else if bytes_eq word (codes "line") then Some Line_part
    else None

-- the column of a field of a part
abbrev pub part_column : Part → List ℕ → Column
part_column Head_part name = Head name
part_column Line_part name = Line name

-- what stands before and after the first full stop, whose byte is 46
abbrev pub at_stop : List ℕ → Option (List ℕ × List ℕ)
at_stop text =
    if nat_lt (position_or_len (λ b. b == 46) text) (length text)
    then Some (before_first (λ b. b == 46) text, after_first (λ b. b == 46) text)
    else None

-- the column of a text such as `head.customer`: a part, a full stop, and the name of a field of it
unfoldable pub field_column : Config → List ℕ → Option Column
field_column config text =
    option_and_then (λ parts.
    option_and_then (λ part.
    if is_name parts.1 && is_part_field config part parts.1
    then Some (part_column part parts.1) else None)
    (part_of parts.0))
    (at_stop text)

-- the column that a text of the header names
unfoldable pub column_of : Config → List ℕ → Option Column
column_of config text =
    if bytes_eq text (codes "key") then Some Key
    else if bytes_eq text (codes "kind") then Some Sort
    else if bytes_eq text (codes "date") then Some Date
    else if bytes_eq text (codes "comment") then Some Comment
    else field_column config text

-- the columns that a header names behind these: each is one, and not one of those before it
unfoldable pub columns_behind : Config → List Column → Cells → Result (List Column) RowFault
columns_behind config seen [] = Ok seen
columns_behind config seen (text ∷ texts) = do
  column ← some_or (column_of config text) (Refused 1 (UnknownColumn text))
  _ ← unless (not (list_any (same_column column) seen)) (Refused 1 (UnknownColumn text))
  columns_behind config (seen ++ column ∷ []) texts

-- the place of a column among these, of which the first has this index
abbrev pub place_from : Column → ℕ → List Column → Option ℕ
place_from column index [] = None
place_from column index (c ∷ cs) =
    if same_column column c then Some index else place_from column (index + 1) cs

-- the place of a column that must be there
abbrev pub place_of : Column → List Column → Result ℕ RowFault
place_of column columns =
    some_or (place_from column 0 columns) (Refused 1 (MissingColumn (column_text column)))

-- the columns of a header, all of which are asked before one is missed
unfoldable pub columns_of : Config → Cells → Result Columns RowFault
columns_of config header = do
  all ← columns_behind config [] header
  key ← place_of Key all
  kind ← place_of Sort all
  date ← place_of Date all
  let comment = place_from Comment 0 all
  Ok (record { all = all; key = key; kind = kind; date = date; comment = comment })

-- the columns that each row needs stand at their places
pub record HasPlaces (columns : Columns) : Type 0 where
  pub key : place_from Key 0 columns.all ≡ Some columns.key
  pub kind : place_from Sort 0 columns.all ≡ Some columns.kind
  pub comment : place_from Comment 0 columns.all ≡ columns.comment
