-- Rows of one key: how they follow one another, and the document that they are.
use Rattle.std.specs.Prelude.{ℕ, ◌+◌, ◌==◌, not, Bool, length, codes, List, [], ◌∷◌, ◌++◌, map}
use Rattle.std.specs.Prelude.{Option, Some, None, option_map, Result, Ok, if◌then◌else◌}
use Rattle.std.specs.Cmp.Lexicographic.{slice_cmp}
use Rattle.std.specs.List.{list_any}
use Rattle.std.specs.Ordering.{nat_cmp}
use Rattle.std.specs.Str.{bytes_eq}
use Rattle.std.specs.declared.cmp.Ordering.{Ordering}
use Rattle.reg_base.specs.Records.{put_once}
use Rattle.reg_base.specs.Results.{◌>>=◌, unless, none_or}
use Rattle.desk_words.specs.declared.request.FieldText.{FieldText}
use Rattle.desk_words.specs.declared.request.Post.TheVariants.{Content}
use Rattle.desk_words.specs.declared.request.Request.TheVariants.{Post}
use Rattle.desk_words.specs.declared.request.Write.{Write}
use Rattle.csv_groups.specs.Cells.{Cells, cell_at, are_utf8, date_in, first_unread}
use Rattle.csv_groups.specs.Cells.{first_difference}
use Rattle.csv_groups.specs.Columns.{column_text, field_named}
use Rattle.csv_groups.specs.declared.column.Column.{Column}
use Rattle.csv_groups.specs.declared.column.Part.{Part}
use Rattle.csv_groups.specs.declared.column.Part.TheVariants.{Head, Line}
use Rattle.csv_groups.specs.declared.columns.Columns.{Columns}
use Rattle.csv_groups.specs.declared.fault.RowFault.{RowFault}
use Rattle.csv_groups.specs.declared.fault.RowFault.TheVariants.{Refused}
use Rattle.csv_groups.specs.declared.fault.RowWhy.TheVariants.{Shape, BadValue, Scattered}
use Rattle.csv_groups.specs.declared.fault.RowWhy.TheVariants.{HeadDiffers}
use Rattle.csv_groups.specs.declared.group.Group.{Group}

-- ---- rows in groups

-- rows of one key: the first, and those that follow it
pub record RowGroup : Type 0 where
  pub first : Cells
  pub others : List Cells

-- the key of a row
abbrev pub row_key : Columns → Cells → List ℕ
row_key columns cells = cell_at cells columns.key

-- whether a row has the key of a group
abbrev pub is_of_group : Columns → RowGroup → Cells → Bool
is_of_group columns group cells = bytes_eq (row_key columns group.first) (row_key columns cells)

-- groups of which the last comes first, with a row more: it joins the last one where it has its
-- key, and else it begins a new one
abbrev pub with_row : Columns → Cells → List RowGroup → List RowGroup
with_row columns cells [] = (record { first = cells; others = [] }) ∷ []
with_row columns cells (group ∷ groups) =
    if is_of_group columns group cells
    then (record group { others = group.others ++ cells ∷ [] }) ∷ groups
    else (record { first = cells; others = [] }) ∷ group ∷ groups

-- ---- what is wrong with a row

-- a row has the header's number of cells, each is UTF-8, and each reads
unfoldable pub check_cells : Columns → ℕ → Cells → Result (Unit {0}) RowFault
check_cells columns row cells = do
  _ ← unless (are_utf8 cells) (Refused row Shape)
  _ ← unless (length cells == length columns.all) (Refused row Shape)
  let unread = first_unread cells 0 columns.all
  none_or (option_map (λ column. Refused row (BadValue (column_text column))) unread)

-- a row agrees with the first row of its group
unfoldable pub check_head : Columns → ℕ → Cells → Cells → Result (Unit {0}) RowFault
check_head columns row first cells =
    none_or (option_map (λ column. Refused row (HeadDiffers (column_text column)))
    (first_difference first cells 0 columns.all))

-- a row of the last group agrees with its first row; one that begins a group has a new key
unfoldable pub check_place : Columns → List RowGroup → ℕ → Cells → Result (Unit {0}) RowFault
check_place columns [] row cells = Ok tt
check_place columns (group ∷ groups) row cells =
    if is_of_group columns group cells then check_head columns row group.first cells
    else unless (not (list_any (λ g. is_of_group columns g cells) groups)) (Refused row Scattered)

-- a row, behind rows in these groups, is one of a document, or has a first fault
unfoldable pub check_row : Columns → List RowGroup → ℕ → Cells → Result (Unit {0}) RowFault
check_row columns groups row cells = do
  _ ← check_cells columns row cells
  check_place columns groups row cells

-- the rows in groups, of which the last comes first, behind these groups; or the first fault of
-- the first row that has one
unfoldable pub groups_behind : Columns → List RowGroup → ℕ → List Cells
    → Result (List RowGroup) RowFault
groups_behind columns groups row [] = Ok groups
groups_behind columns groups row (cells ∷ rows) = do
  _ ← check_row columns groups row cells
  groups_behind columns (with_row columns cells groups) (row + 1) rows

-- ---- what a group asks for

-- fields by the byte order of their names
abbrev pub field_cmp : FieldText → FieldText → Ordering
field_cmp a b = slice_cmp nat_cmp a.name b.name

-- fields in order with a cell that is not empty among them, where its column holds one
abbrev pub with_cell : Option (List ℕ) → List ℕ → List FieldText → List FieldText
with_cell None cell fields = fields
with_cell (Some name) [] fields = fields
with_cell (Some name) (b ∷ bs) fields =
    put_once field_cmp (record { name = name; text = b ∷ bs }) fields

-- the cells of columns, of which the first has this index, as fields with those that are there
abbrev pub fields_from : Part → Cells → ℕ → List Column → List FieldText → List FieldText
fields_from part cells index [] fields = fields
fields_from part cells index (c ∷ cs) fields =
    let more = with_cell (field_named part c) (cell_at cells index) fields in
    fields_from part cells (index + 1) cs more

-- the fields that a row gives a head, or a line: those of the cells that are not empty, in byte
-- order of names
abbrev pub fields_in : Part → Columns → Cells → List FieldText
fields_in part columns cells = fields_from part cells 0 columns.all []

-- a cell, or none where it is empty
abbrev pub filled : List ℕ → Option (List ℕ)
filled [] = None
filled (b ∷ bs) = Some (b ∷ bs)

-- the comment of a row
abbrev pub comment_in : Option ℕ → Cells → Option (List ℕ)
comment_in None cells = None
comment_in (Some index) cells = filled (cell_at cells index)

-- the content of the document of a group
abbrev pub content_in : Columns → RowGroup → Write
content_in columns group = record {
  clerk = codes "batch";
  no = 1;
  doc = None;
  key = Some (row_key columns group.first);
  kind = cell_at group.first columns.kind;
  date = date_in (cell_at group.first columns.date);
  head = fields_in Head columns group.first;
  lines = map (fields_in Line columns) (group.first ∷ group.others);
  comment = comment_in columns.comment group.first;
  tx = None;
}

-- the key of a group, and the request that posts it
abbrev pub group_in : Columns → RowGroup → Group
group_in columns group = record {
  key = row_key columns group.first;
  request = Post (Content (content_in columns group));
}
