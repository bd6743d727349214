-- JSON that requests and replies are both made of has no float.
use Rattle.std.proofs.Common.{◌≡◌, ℕ, false, List, [], ◌∷◌, map, refl}
use Rattle.std.proofs.lemmas.Bool.{or_parts}
use Rattle.std.specs.Ordering.{nat_cmp, match_ordering}
use Rattle.std.specs.declared.cmp.Ordering.{Ordering}
use Rattle.std.specs.declared.cmp.Ordering.TheVariants.{Less, Equal, Greater}
use Rattle.std.specs.Cmp.Lexicographic.{slice_cmp}
use Rattle.serde_json.specs.Data.{Data, string, Members, no_members, member, put}
use Rattle.serde_json.specs.View.{items_of}
use Rattle.serde_json.specs.Written.{has_float, items_have_float, members_have_float}
use Rattle.desk_words.specs.declared.request.FieldText.{FieldText}
use Rattle.desk_words.specs.JsonValues.{texts_data, put_named}
use Rattle.desk_words.specs.FieldTexts.{fields_data, lines_data}

-- texts are no floats
items_have_float-texts : (texts : List (List ℕ))
    → items_have_float (items_of (map string texts)) ≡ false
items_have_float-texts [] = refl
items_have_float-texts (t ∷ ts) = items_have_float-texts ts

-- a list of texts has none
pub has_float-texts_data : (texts : List (List ℕ)) → has_float (texts_data texts) ≡ false
unfolding texts_data
has_float-texts_data texts = items_have_float-texts texts

-- where what stands for each element has no float, the list has none
pub items_have_float-each : {X : Type 0} (data_of : X → Data)
    → ((x : X) → has_float (data_of x) ≡ false) → (xs : List X)
    → items_have_float (items_of (map data_of xs)) ≡ false
items_have_float-each data_of none [] = refl
items_have_float-each data_of none (x ∷ xs) = rw (none x) (items_have_float-each data_of none xs)

at_ordering : (o : Ordering) (a b c : Members) → members_have_float a ≡ false
    → members_have_float b ≡ false → members_have_float c ≡ false
    → members_have_float (match_ordering o a b c) ≡ false
at_ordering Less a b c p q r = p
at_ordering Equal a b c p q r = q
at_ordering Greater a b c p q r = r

-- members with one more that has none have none
pub members_have_float-put : (name : List ℕ) (value : Data) (ms : Members) → has_float value ≡ false
    → members_have_float ms ≡ false → members_have_float (put name value ms) ≡ false
members_have_float-put name value no_members v h = rw v
members_have_float-put name value (member l e ms) v h =
    let parts = or_parts (has_float e) (members_have_float ms) h in
    let all : members_have_float (member name value (member l e ms)) ≡ false = rw v h in
    let here : members_have_float (member l value ms) ≡ false = rw v parts.1 in
    let later : members_have_float (member l e (put name value ms)) ≡ false =
    rw parts.0 (members_have_float-put name value ms v parts.1) in
    at_ordering (slice_cmp nat_cmp name l) _ _ _ all here later

-- members with those of a list that have none have none
pub members_have_float-named : {X : Type 0} (name_of : X → List ℕ) (data_of : X → Data)
    → ((x : X) → has_float (data_of x) ≡ false) → (ms : Members) (xs : List X)
    → members_have_float ms ≡ false
    → members_have_float (put_named name_of data_of ms xs) ≡ false
members_have_float-named name_of data_of none ms [] h = h
members_have_float-named name_of data_of none ms (x ∷ xs) h =
    members_have_float-named name_of data_of none (put (name_of x) (data_of x) ms) xs
    (members_have_float-put (name_of x) (data_of x) ms (none x) h)

-- the fields of a head or of a line have none
pub has_float-fields_data : (fields : List FieldText) → has_float (fields_data fields) ≡ false
has_float-fields_data fields =
    members_have_float-named (λ (field : FieldText). field.name)
    (λ (field : FieldText). string field.text) (λ field. refl) no_members fields refl

-- the fields of all lines have none
pub has_float-lines_data : (lines : List (List FieldText)) → has_float (lines_data lines) ≡ false
unfolding lines_data
has_float-lines_data lines = items_have_float-each fields_data has_float-fields_data lines
