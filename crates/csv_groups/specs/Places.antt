-- Private: where a field goes among others in order.
use Rattle.std.specs.Prelude.{◌≡◌, ◌≤◌, ℕ, length, take, drop, List, ◌∷◌, ◌++◌, Option, Some, None}
use Rattle.reg_base.specs.Records.{put_once}
use Rattle.desk_words.specs.declared.request.FieldText.{FieldText}
use Rattle.csv_groups.specs.Groups.{field_cmp}

-- the field of this name and text
abbrev pub field_of : List ℕ → List ℕ → FieldText
field_of name text = record { name = name; text = text }

-- a field of this name goes to this place, whatever its text; or one is there
abbrev pub GoesTo : List FieldText → List ℕ → Option ℕ → Type 0
GoesTo fields name None =
    (text : List ℕ) → put_once field_cmp (field_of name text) fields ≡ fields
GoesTo fields name (Some place) = (place ≤ length fields)
    × ((text : List ℕ) → put_once field_cmp (field_of name text) fields
    ≡ take place fields ++ field_of name text ∷ drop place fields)
