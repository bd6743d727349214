-- The texts and names in a value at hand are UTF-8.
use Rattle.std.proofs.Common.{List, [], ◌∷◌, map, String, Global, subst, sym}
use Rattle.std.proofs.lemmas.Str.{IsUtf8-string_bytes}
use Rattle.serde_json.specs.Data.{Data}
use Rattle.serde_json.specs.View.{view, view_step, items_of, members_of}
use Rattle.serde_json.specs.declared.value.Value.{Value, map-Value}
use Rattle.serde_json.specs.declared.value.Value.TheOpen.{Value-F}
use Rattle.serde_json.specs.declared.value.Value.TheFolds.{fold-roll-Value, ind-Value}
use Rattle.json_laws.specs.Plain.{HasUtf8, ItemsHaveUtf8, MembersHaveUtf8}

abbrev ViewHasUtf8 : Value → Type 0
ViewHasUtf8 v = HasUtf8 (view v)

-- a value with the proof beside it
abbrev Proved : Type 0
Proved = (v : Value) × ViewHasUtf8 v

items_have_utf8 : (vs : List Proved)
    → ItemsHaveUtf8 (items_of (map view (map (λ (e : Proved). e.0) vs)))
items_have_utf8 [] = tt
items_have_utf8 (e ∷ vs) = (e.1, items_have_utf8 vs)

members_have_utf8 : (ms : List (String Global × Proved))
    → MembersHaveUtf8
    (members_of (map (λ (m : String Global × Value). (m.0, view m.1))
    (map (λ (m : String Global × Proved). (m.0, m.1.0)) ms)))
members_have_utf8 [] = tt
members_have_utf8 (m ∷ ms) = (IsUtf8-string_bytes m.0, m.1.1, members_have_utf8 ms)

-- one level, where each value inside has the proof beside it
one_level : (y : Value-F Proved)
    → HasUtf8 (view_step (map-Value Value Data view (map-Value Proved Value (λ e. e.0) y)))
one_level Value-F.Null = tt
one_level (Value-F.Bool b) = tt
one_level (Value-F.Number n) = tt
one_level (Value-F.String s) = IsUtf8-string_bytes s
one_level (Value-F.Array v) = items_have_utf8 v.items
one_level (Value-F.Object m) = members_have_utf8 m.entries

pub HasUtf8-view : (v : Value) → HasUtf8 (view v)
HasUtf8-view = ind-Value ViewHasUtf8 (λ x y is.
    subst HasUtf8 (sym (fold-roll-Value Data view_step x))
    (subst (λ (z : Value-F Value). HasUtf8 (view_step (map-Value Value Data view z))) is
    (one_level y)))
