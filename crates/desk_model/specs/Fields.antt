-- The fields of a document's head and of its lines, as texts and as values.
use Rattle.std.specs.Prelude.{ℕ, ℤ, Bool, Option, Some, None, option_map, option_and_then}
use Rattle.std.specs.Prelude.{List, [], ◌∷◌, Result, Ok, if◌then◌else◌}
use Rattle.std.specs.List.{list_any}
use Rattle.std.specs.Str.{bytes_eq}
use Rattle.reg_base.specs.declared.value.Cell.{Cell}
use Rattle.reg_base.specs.declared.value.Cell.TheVariants.{Code as CodeCell, Num as NumCell}
use Rattle.reg_base.specs.Codes.{is_code}
use Rattle.reg_base.specs.Numbers.{sum_text}
use Rattle.reg_base.specs.Results.{◌>>=◌, some_or, none_or, each}
use Rattle.cfg_model.specs.declared.kind.Field.{Field}
use Rattle.desk_words.specs.declared.request.FieldText.{FieldText}
use Rattle.desk_words.specs.declared.reply.Refusal.{Refusal}
use Rattle.desk_words.specs.declared.reply.Refusal.TheVariants.{BadField}
use Rattle.desk_words.specs.declared.reply.Field.TheVariants.{Named}
use Rattle.desk_model.specs.GivenRecords.{units_in}

-- ---- from texts to values

-- the text that is given for a field of this name
abbrev pub text_for : List ℕ → List FieldText → Option (List ℕ)
text_for name [] = None
text_for name (t ∷ ts) = if bytes_eq t.name name then Some t.text else text_for name ts

-- what a text spells in a field of this scale: a number, or a code where there is no scale
abbrev pub cell_in : Option ℕ → List ℕ → Option Cell
cell_in None text = if is_code text then Some (CodeCell text) else None
cell_in (Some scale) text = option_map NumCell (units_in scale text)

-- the value of a field: its text is given, and is read
abbrev pub cell_of : List FieldText → Field → Result Cell Refusal
cell_of texts field = some_or
    (option_and_then (cell_in field.scale) (text_for field.name texts))
    (BadField (Named field.name))

-- whether there is a field of this name
abbrev pub is_field : List Field → List ℕ → Bool
is_field fields name = list_any (λ f. bytes_eq f.name name) fields

-- the first name that is given and is no field's; the names stand in order of their bytes
abbrev pub unknown_field : List Field → List FieldText → Option Refusal
unknown_field fields [] = None
unknown_field fields (t ∷ ts) =
    if is_field fields t.name then unknown_field fields ts else Some (BadField (Named t.name))

-- the values of all fields, in the order of the configuration; nothing else is given
unfoldable pub cells_of : List Field → List FieldText → Result (List Cell) Refusal
cells_of fields texts = do
  cells ← each (cell_of texts) fields
  _ ← none_or (unknown_field fields texts)
  Ok cells

-- ---- from values to texts

-- the text of a number at the scale of its field
abbrev pub number_text_at : Option ℕ → ℤ → List ℕ
number_text_at None units = sum_text units 0
number_text_at (Some scale) units = sum_text units scale

-- the text of a field's value
abbrev pub cell_text : Option ℕ → Cell → List ℕ
cell_text scale (CodeCell code) = code
cell_text scale (NumCell units) = number_text_at scale units

-- the texts of the fields with their names, in the order of the configuration
abbrev pub field_texts : List Field → List Cell → List FieldText
field_texts [] cells = []
field_texts (field ∷ fields) [] = []
field_texts (field ∷ fields) (cell ∷ cells) = record {
  name = field.name;
  text = cell_text field.scale cell;
} ∷ field_texts fields cells
