-- The shapes of members; the fault of a wrong one names the member that it stands in.
use Rattle.std.specs.Prelude.{ℕ, Bool, ◌&&◌, List, [], ◌∷◌, Option, Some, None, option_and_then}
use Rattle.std.specs.Prelude.{Result, Ok, nat_le}
use Rattle.std.specs.Result.{result_ok}
use Rattle.serde_json.specs.Data.{Data, Items, no_items, item, Members, no_members, member}
use Rattle.serde_json.specs.Find.{get_member, as_object, as_array, as_str, as_number, as_u64}
use Rattle.serde_json.specs.Find.{as_bool}
use Rattle.reg_base.specs.Results.{◌>>=◌, some_or, unless}
use Rattle.reg_base.specs.Codes.{is_name, is_code}
use Rattle.reg_base.specs.Comments.{is_comment}
use Rattle.reg_base.specs.Dates.{parse_date, parse_date_end}
use Rattle.reg_base.specs.Cuts.{parse_cut}
use Rattle.reg_base.specs.declared.cut.Cut.{Cut}
use Rattle.desk_words.specs.declared.fault.Member.{Member}
use Rattle.desk_words.specs.declared.fault.WordFault.{WordFault}
use Rattle.desk_words.specs.declared.fault.WordFault.TheVariants.{BadMember}
use Rattle.desk_words.specs.Members.{member_name}

-- a value, or why a line is no request
abbrev pub OrFault : Type 0 → Type 0
OrFault X = Result X WordFault

-- what an object has under a name
unfoldable pub value_at : Member → List ℕ → Members → OrFault Data
value_at m name object = some_or (get_member name object) (BadMember m)

-- what an object has under a name, by its shape
abbrev pub shape_at : {X : Type 0} → (Data → OrFault X) → Member → List ℕ → Members → OrFault X
shape_at shape m name object = value_at m name object >>= shape

-- what stands at a member that is asked for, by its shape
abbrev pub required_at : {X : Type 0} → (Member → Data → OrFault X) → Member → Members → OrFault X
required_at shape m object = shape_at (shape m) m (member_name m) object

-- what stands there, if anything does
abbrev pub shape_if : {X : Type 0} → (Data → OrFault X) → Option Data → OrFault (Option X)
shape_if shape None = Ok None
shape_if shape (Some d) = shape d >>= λ x. Ok (Some x)

-- what stands at a member that may be absent, by its shape; null is not absent
abbrev pub optional_at : {X : Type 0} → (Member → Data → OrFault X) → Member → Members
    → OrFault (Option X)
optional_at shape m object = shape_if (shape m) (get_member (member_name m) object)

-- an object
unfoldable pub json_object : Member → Data → OrFault Members
json_object m d = some_or (as_object d) (BadMember m)

-- a list
unfoldable pub json_items : Member → Data → OrFault Items
json_items m d = some_or (as_array d) (BadMember m)

-- a text
unfoldable pub json_text : Member → Data → OrFault (List ℕ)
json_text m d = some_or (as_str d) (BadMember m)

-- a text that is a name
unfoldable pub json_name : Member → Data → OrFault (List ℕ)
json_name m d = do
  text ← json_text m d
  _ ← unless (is_name text) (BadMember m)
  Ok text

-- a text that is a code
unfoldable pub json_code : Member → Data → OrFault (List ℕ)
json_code m d = do
  text ← json_text m d
  _ ← unless (is_code text) (BadMember m)
  Ok text

-- a text that is a comment
unfoldable pub json_comment : Member → Data → OrFault (List ℕ)
json_comment m d = do
  text ← json_text m d
  _ ← unless (is_comment text) (BadMember m)
  Ok text

-- true or false
unfoldable pub json_boolean : Member → Data → OrFault Bool
json_boolean m d = some_or (as_bool d) (BadMember m)

-- a text that is a date; a day alone is its first second
unfoldable pub json_date : Member → Data → OrFault ℕ
json_date m d = do
  text ← json_text m d
  some_or (result_ok (parse_date text)) (BadMember m)

-- a text that is a date; a day alone is its last second
unfoldable pub json_date_end : Member → Data → OrFault ℕ
json_date_end m d = do
  text ← json_text m d
  some_or (result_ok (parse_date_end text)) (BadMember m)

-- a text that is a cut
unfoldable pub json_cut : Member → Data → OrFault Cut
json_cut m d = do
  text ← json_text m d
  some_or (result_ok (parse_cut text)) (BadMember m)

-- a number from 1 to 4,294,967,295, written without a point and an exponent
unfoldable pub json_number : Member → Data → OrFault ℕ
json_number m d = do
  n ← some_or (option_and_then as_u64 (as_number d)) (BadMember m)
  _ ← unless (nat_le 1 n && nat_le n 4_294_967_295) (BadMember m)
  Ok n

-- each item of a list, by its shape
abbrev pub json_each : {X : Type 0} → (Data → OrFault X) → Items → OrFault (List X)
json_each shape no_items = Ok []
json_each shape (item d ds) = shape d >>= λ x. json_each shape ds >>= λ xs. Ok (x ∷ xs)

-- a list, each item by its shape
abbrev pub json_list : {X : Type 0} → (Data → OrFault X) → Member → Data → OrFault (List X)
json_list shape m d = json_items m d >>= json_each shape

-- a list of texts
unfoldable pub json_texts : Member → Data → OrFault (List (List ℕ))
json_texts m d = json_list (json_text m) m d

-- a list of codes
unfoldable pub json_codes : Member → Data → OrFault (List (List ℕ))
json_codes m d = json_list (json_code m) m d

-- a list of names
unfoldable pub json_names : Member → Data → OrFault (List (List ℕ))
json_names m d = json_list (json_name m) m d

-- each member of an object, by its name and its shape
abbrev pub each_named : {X : Type 0} → (List ℕ → Data → OrFault X) → Members → OrFault (List X)
each_named shape no_members = Ok []
each_named shape (member name d ds) =
    shape name d >>= λ x. each_named shape ds >>= λ xs. Ok (x ∷ xs)
