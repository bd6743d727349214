-- A walk over a list that has come some way.
use Rattle.std.proofs.Common.{◌≡◌, ℕ, ◌+◌, ◌<◌, List, [], ◌∷◌, ◌++◌, map, take, drop, length}
use Rattle.std.proofs.Common.{get_or, suc, add-one, drop-cons, Result, Ok, Err, refl, ap, ◌∙◌, sym}
use Rattle.std.proofs.Common.{append_assoc}
use Rattle.std.proofs.lemmas.List.{map-append, map_more}
use Rattle.serde_json.specs.declared.value.Value.{Value}
use Rattle.serde_json.specs.Data.{Data}
use Rattle.serde_json.specs.View.{view, items_view}
use Rattle.reg_base.specs.Results.{◌>>=◌}
use Rattle.desk_words.specs.declared.fault.WordFault.{WordFault}
use Rattle.desk_words.specs.Shapes.{json_each}

-- what was read so far, and then the rest
abbrev pub after : {X : Type 0} → List X → Result (List X) WordFault → Result (List X) WordFault
after front rest = rest >>= λ more. Ok (front ++ more)

-- one more item is read
pub after-more : {X : Type 0} (shape : Data
    → Result X WordFault) (vs : List Value) (i : ℕ) (v : Value) (front new : List X) (x : X)
    (all : Result (List X) WordFault) → i < length vs → v ≡ get_or vs i v → shape (view v) ≡ Ok x
    → new ≡ front ++ x ∷ [] → after front (json_each shape (items_view (drop i vs))) ≡ all
    → after new (json_each shape (items_view (drop (i + 1) vs))) ≡ all
after-more {X} shape vs i v front new x all below is read_is pushed so_far =
    let rest : Result (List X) WordFault = json_each shape (items_view (drop (i + 1) vs)) in
    ap (λ f. after f rest) pushed
    ∙ sym (after-one front x rest)
    ∙ ap (λ r. after front (r >>= λ y. rest >>= λ ys. Ok (y ∷ ys))) (sym read_is)
    ∙ ap (λ ds. after front (json_each shape (items_view ds))) (sym from_place)
    ∙ so_far
  where
    after-one : (front : List X) (x : X) (rest : Result (List X) WordFault)
        → after front (Ok x >>= λ y. rest >>= λ ys. Ok (y ∷ ys)) ≡ after (front ++ x ∷ []) rest
    after-one front x (Ok xs) = ap Ok (sym (append_assoc front (x ∷ []) xs))
    after-one front x (Err fault) = refl

    from_place : drop i vs ≡ v ∷ drop (i + 1) vs
    from_place = rw add-one (drop-cons vs i v below ∙ ap (λ y. y ∷ drop (suc i) vs) (sym is))

-- one more element's value stands behind those so far
pub values-more : {A V D : Type 0} (seen : V → D) (f : A
    → D) (front : List D) (values new : List V) (v : V) (xs : List A) (i : ℕ) (x : A)
    → i < length xs → x ≡ get_or xs i x → seen v ≡ f x → new ≡ values ++ v ∷ []
    → map seen values ≡ front ++ map f (take i xs) → map seen new ≡ front ++ map f (take (i + 1) xs)
values-more seen f front values new v xs i x below is value pushed so_far =
    ap (map seen) pushed
    ∙ map-append seen values (v ∷ [])
    ∙ (λ j. so_far j ++ value j ∷ [])
    ∙ append_assoc front (map f (take i xs)) (f x ∷ [])
    ∙ ap (λ ys. front ++ ys) (ap (λ y. map f (take i xs) ++ f y ∷ []) is
    ∙ sym (map_more f xs i x below))
