-- The fields of a head and of lines as JSON; requests and replies both have them.
use Rattle.std.specs.Prelude.{List, map}
use Rattle.serde_json.specs.Data.{Data, string, array, object, no_members}
use Rattle.serde_json.specs.View.{items_of}
use Rattle.desk_words.specs.declared.request.FieldText.{FieldText}
use Rattle.desk_words.specs.JsonValues.{put_named}

-- the fields of a head or of a line: their texts by their names
abbrev pub fields_data : List FieldText → Data
fields_data fields =
    object (put_named (λ field. field.name) (λ field. string field.text) no_members fields)

-- the fields of each line
unfoldable pub lines_data : List (List FieldText) → Data
lines_data lines = array (items_of (map fields_data lines))
