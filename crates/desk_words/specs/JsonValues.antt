-- JSON that requests and replies are both made of.
use Rattle.std.specs.Prelude.{ℕ, Option, None, Some, List, [], ◌∷◌, map}
use Rattle.serde_json.specs.Data.{Data, number, unsigned, string, array, Members, put}
use Rattle.serde_json.specs.View.{items_of}

-- a whole number
abbrev pub whole : ℕ → Data
whole n = number (unsigned n)

-- a list of texts
unfoldable pub texts_data : List (List ℕ) → Data
texts_data texts = array (items_of (map string texts))

-- the members with one more in its place by name, where it is there
abbrev pub put_if : List ℕ → Option Data → Members → Members
put_if name None ms = ms
put_if name (Some value) ms = put name value ms

-- the members with those of a list among them, each under its name
abbrev pub put_named : {X : Type 0} → (X → List ℕ) → (X → Data) → Members → List X → Members
put_named name_of data_of ms [] = ms
put_named name_of data_of ms (x ∷ xs) =
    put_named name_of data_of (put (name_of x) (data_of x) ms) xs
