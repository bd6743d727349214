-- The fields of a head and of lines as a request gives them; the fault names the member that they
-- stand in.
use Rattle.std.specs.Prelude.{ℕ, List, Ok}
use Rattle.serde_json.specs.Data.{Data}
use Rattle.reg_base.specs.Results.{◌>>=◌, unless}
use Rattle.reg_base.specs.Codes.{is_name}
use Rattle.desk_words.specs.declared.fault.Member.{Member}
use Rattle.desk_words.specs.declared.fault.WordFault.TheVariants.{BadMember}
use Rattle.desk_words.specs.declared.request.FieldText.{FieldText}
use Rattle.desk_words.specs.Shapes.{OrFault, json_object, json_text, json_list, each_named}

-- a field: its name is one, and its value a text
unfoldable pub json_field : Member → List ℕ → Data → OrFault FieldText
json_field m name d = do
  _ ← unless (is_name name) (BadMember m)
  text ← json_text m d
  Ok (record { name = name; text = text })

-- an object of fields
unfoldable pub json_fields : Member → Data → OrFault (List FieldText)
json_fields m d = json_object m d >>= each_named (json_field m)

-- a list of such objects
unfoldable pub json_lines : Member → Data → OrFault (List (List FieldText))
json_lines m d = json_list (json_fields m) m d
