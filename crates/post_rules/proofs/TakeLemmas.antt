-- What is taken from holdings in order, step by step.
use Rattle.std.proofs.Common.{◌≡◌, ℕ, ◌+◌, ◌<◌, ℤ, pos, ◌-ℤ◌, List, [], ◌∷◌, ◌++◌, drop, length}
use Rattle.std.proofs.Common.{get_or, refl, ◌∙◌, sym, ap, append_assoc, int_lt, true, false}
use Rattle.std.proofs.lemmas.List.{drop_more}
use Rattle.std.specs.Int.{int_min}
use Rattle.post_model.specs.declared.holding.Holding.{Holding}
use Rattle.post_model.specs.WriteOffs.{in_stock, taken_from, with_taken, taken}

-- what is taken from a holding and from those behind it
taken-first : (rest part : ℤ) (h : Holding) (hs : List Holding) → part ≡ int_min rest (in_stock h)
    → with_taken part h (taken (rest -ℤ part) hs) ≡ taken rest (h ∷ hs)
unfolding taken
taken-first rest part h hs e = rw e refl

-- a step of the loop: what is taken so far and then for the rest stays what is taken in all
pub loop-step : (hs : List Holding) (i : ℕ) (h : Holding) (takes now all : List Holding)
    (rest part stock next : ℤ)
    → i < length hs → h ≡ get_or hs i h → part ≡ int_min rest stock → stock ≡ in_stock h
    → next ≡ rest -ℤ part → ((more : List Holding) → now ++ more ≡ takes ++ with_taken part h more)
    → takes ++ taken rest (drop i hs) ≡ all → now ++ taken next (drop (i + 1) hs) ≡ all
loop-step hs i h takes now all rest part stock next below item least stocked less put before =
    put (taken next (drop (i + 1) hs))
    ∙ ap (λ n. takes ++ with_taken part h (taken n (drop (i + 1) hs))) less
    ∙ ap (λ t. takes ++ t) (taken-first rest part h (drop (i + 1) hs)
    (least ∙ ap (int_min rest) stocked)
    ∙ ap (λ x. taken rest (x ∷ drop (i + 1) hs)) item
    ∙ ap (taken rest) (sym (drop_more hs i h below))) ∙ before

-- something is taken from a holding
pub some-step : (part : ℤ) (h : Holding) (takes now : List Holding) → int_lt (pos 0) part ≡ true
    → now ≡ takes ++ taken_from part h ∷ []
    → (more : List Holding) → now ++ more ≡ takes ++ with_taken part h more
some-step part h takes now above put more =
    ap (λ xs. xs ++ more) put ∙ rw above (append_assoc takes (taken_from part h ∷ []) more)

-- nothing is taken from a holding
pub none-step : (part : ℤ) (h : Holding) (takes now : List Holding) → int_lt (pos 0) part ≡ false
    → now ≡ takes → (more : List Holding) → now ++ more ≡ takes ++ with_taken part h more
none-step part h takes now above put more = ap (λ xs. xs ++ more) put ∙ rw above refl
