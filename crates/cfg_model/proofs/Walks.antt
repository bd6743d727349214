-- What the loops of the walk keep, and the lemmas on it.
use Rattle.std.proofs.Common.{◌≡◌, List, [], ◌∷◌, ◌++◌, Option, Some, None, option_map, Result, Ok}
use Rattle.std.proofs.Common.{Err, option_and_then, refl, ap, ◌∙◌, append_assoc, append-nil}
use Rattle.std.proofs.Common.{ℕ, ◌+◌, ◌<◌, length, drop, get_or, arith, sym}
use Rattle.std.proofs.lemmas.List.{at_drop_more}
use Rattle.toml.specs.View.{view, items_view, members_view}
use Rattle.toml.specs.declared.value.Value.{Value}
use Rattle.toml.proofs.Views.{Entry}
use Rattle.toml.specs.Data.{Data, Members, no_members, member}
use Rattle.reg_base.specs.Results.{◌>>=◌}
use Rattle.std.proofs.Common.{String, string_bytes, nat_cmp, Less, Global, map}
use Rattle.std.specs.String.{string_cmp}
use Rattle.std.specs.Map.{keys_of}
use Rattle.std.specs.Cmp.Lexicographic.{slice_cmp}
use Rattle.std.specs.List.{AllByRecursion}
use Rattle.std.specs.List.Sorted.{IsStrictlySortedBy}
use Rattle.cfg_model.specs.Resolving.{AreAscending}
use Rattle.cfg_model.specs.Walk.{member_count, member_keys, toml_each, each_entry}
use Rattle.cfg_model.specs.declared.fault.CfgFault.{CfgFault}
use Rattle.cfg_model.proofs.ForAbove.{result_front}

-- the elements in front of those that are left, where these are some
abbrev pub with_front : {X : Type 0} → List X → Option (List X) → Option (List X)
with_front front rest = option_map (λ xs. front ++ xs) rest

-- the items from a place on are the one there, and those behind it
toml_each-at : {X : Type 0} (shape : Data → Option X) (vs : List Value) (i : ℕ) (v : Value)
    → i < length vs → v ≡ get_or vs i v
    → toml_each shape (items_view (drop i vs))
    ≡ option_and_then (λ x. option_map (λ xs. x ∷ xs)
    (toml_each shape (items_view (drop (i + 1) vs))))
    (shape (view v))
toml_each-at shape vs i v more is =
    at_drop_more (λ us. toml_each shape (items_view us)) vs i v more
    ∙ ap (λ u. toml_each shape (items_view (u ∷ drop (i + 1) vs))) (sym is)

front_with-none : {X : Type 0} (front : List X) (first : Option X) (rest : Option (List X))
    → first ≡ None
    → with_front front (option_and_then (λ x. option_map (λ xs. x ∷ xs) rest) first) ≡ None
front_with-none front first rest none = rw none refl

front_with-more : {X : Type 0} (front : List X) (x : X) (rest : Option (List X))
    → with_front (front ++ x ∷ []) rest ≡ with_front front (option_map (λ xs. x ∷ xs) rest)
front_with-more front x (Some xs) = ap Some (append_assoc front (x ∷ []) xs)
front_with-more front x None = refl

-- an item of the wrong shape ends the walk
pub items-none : {X : Type 0} (shape : Data → Option X) (front : List X) (vs : List Value) (i : ℕ)
    → (v : Value) → i < length vs → v ≡ get_or vs i v → shape (view v) ≡ None
    → with_front front (toml_each shape (items_view (drop i vs))) ≡ None
items-none shape front vs i v more is none =
    ap (with_front front) (toml_each-at shape vs i v more is)
    ∙ front_with-none front (shape (view v)) (toml_each shape (items_view (drop (i + 1) vs))) none

-- an item of the right shape goes from those that are left to those in front
pub items-more : {X : Type 0} (shape : Data → Option X) (front grown : List X) (vs : List Value)
    → (i : ℕ) (v : Value) (x : X) → i < length vs → v ≡ get_or vs i v → shape (view v) ≡ Some x
    → grown ≡ front ++ x ∷ []
    → with_front grown (toml_each shape (items_view (drop (i + 1) vs)))
    ≡ with_front front (toml_each shape (items_view (drop i vs)))
items-more {X = X} shape front grown vs i v x more is some grows =
    let rest = toml_each shape (items_view (drop (i + 1) vs)) in
    let step : Option X → Option (List X)
    = λ first. with_front front (option_and_then (λ y. option_map (λ xs. y ∷ xs) rest) first) in
    ap (λ xs. with_front xs rest) grows
    ∙ front_with-more front x rest
    ∙ ap step (sym some)
    ∙ ap (with_front front) (sym (toml_each-at shape vs i v more is))

-- a table has as many members as entries
pub member_count-view : (es : List Entry) → member_count (members_view es) ≡ length es
member_count-view [] = refl
member_count-view (e ∷ es) = let ih = member_count-view es in grind (arith, ih)

one_more : {X F : Type 0} (front : List X) (x : X) (rest : Result (List X) F)
    → result_front front (rest >>= (λ xs. Ok (x ∷ xs))) ≡ result_front (front ++ x ∷ []) rest
one_more front x (Ok xs) = ap Ok (sym (append_assoc front (x ∷ []) xs))
one_more front x (Err fault) = refl

first_of_more : {X F : Type 0} (front : List X) (first : Result X F) (rest : Result (List X) F)
    → result_front front (first >>= (λ x. rest >>= (λ xs. Ok (x ∷ xs))))
    ≡ (first >>= (λ x. result_front (front ++ x ∷ []) rest))
first_of_more front (Ok x) rest = one_more front x rest
first_of_more front (Err fault) rest = refl

-- an entry that is read goes from those that are left to those in front; its fault ends the walk
pub each_entry-member : {X : Type 0} (read : List ℕ → Data → Result X CfgFault)
    → (front : List X) (name : List ℕ) (d : Data) (ms : Members)
    → result_front front (each_entry read (member name d ms))
    ≡ (read name d >>= (λ x. result_front (front ++ x ∷ []) (each_entry read ms)))
unfolding each_entry
each_entry-member read front name d ms = first_of_more front (read name d) (each_entry read ms)

-- where none is left, those in front are all
pub each_entry-none : {X : Type 0} (read : List ℕ → Data → Result X CfgFault) (front : List X)
    → result_front front (each_entry read no_members) ≡ Ok front
unfolding each_entry
each_entry-none read front = ap Ok (append-nil front)

-- what all entries come to, where an entry and those behind it are left
pub entries-next : {X : Type 0} (read : List ℕ → Data → Result X CfgFault) (front : List X)
    → (left : List Entry) (e : Entry) (behind : List Entry) (all : Result (List X) CfgFault)
    → result_front front (each_entry read (members_view left)) ≡ all → left ≡ e ∷ behind
    → all ≡ (read (string_bytes e.0) (view e.1)
    >>= (λ x. result_front (front ++ x ∷ []) (each_entry read (members_view behind))))
entries-next read front left e behind all told is =
    sym told ∙ ap (λ es. result_front front (each_entry read (members_view es))) is
    ∙ each_entry-member read front (string_bytes e.0) (view e.1) (members_view behind)

-- what all entries come to, where none is left
pub entries-end : {X : Type 0} (read : List ℕ → Data → Result X CfgFault) (front : List X)
    → (left : List Entry) (all : Result (List X) CfgFault)
    → result_front front (each_entry read (members_view left)) ≡ all → left ≡ []
    → all ≡ Ok front
entries-end read front left all told is =
    sym told ∙ ap (λ es. result_front front (each_entry read (members_view es))) is
    ∙ each_entry-none read front

-- a name that was read goes from the keys that are left to the names in front
pub names-more : {X : Type 0} (entry_name : X
    → List ℕ) (front : List X) (x : X) (keys : List (List ℕ))
    → map entry_name (front ++ x ∷ []) ++ keys ≡ map entry_name front ++ entry_name x ∷ keys
names-more entry_name [] x keys = refl
names-more entry_name (y ∷ front) x keys =
    ap (λ names. entry_name y ∷ names) (names-more entry_name front x keys)

-- where no key is left, the names in front are all
pub names-all : (names : List (List ℕ)) → names ++ [] ≡ names
names-all names = append-nil names

below : (key : String Global) (es : List Entry)
    → AllByRecursion (λ k. string_cmp key k ≡ Less) (keys_of es)
    → AllByRecursion (λ k. slice_cmp nat_cmp (string_bytes key) k ≡ Less)
    (member_keys (members_view es))
below key [] h = tt
below key (e ∷ es) h = (h.0, below key es h.1)

-- the keys of a map ascend
pub keys-ascend : (es : List Entry) → IsStrictlySortedBy string_cmp (keys_of es)
    → AreAscending (member_keys (members_view es))
unfolding IsStrictlySortedBy
keys-ascend [] h = tt
keys-ascend (e ∷ es) h = (below e.0 es h.0, keys-ascend es h.1)

-- no text ascends
pub none-ascend : AreAscending []
unfolding IsStrictlySortedBy
none-ascend = tt

pub ruleset walks = (member_count-view, each_entry-member, each_entry-none, names-more)
