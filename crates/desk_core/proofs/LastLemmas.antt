-- A clerk's last request is put in the place where the one before it stood.
use Rattle.std.proofs.Common.{◌≡◌, ℕ, ◌+◌, ◌<◌, ◌≤◌, suc, Bool, true, false, cond, not, nat_lt}
use Rattle.std.proofs.Common.{Some, None, List, [], ◌∷◌, ◌++◌, length, slice_set, position}
use Rattle.std.proofs.Common.{refl, ap, subst, arith}
use Rattle.std.specs.List.{position_or_len}
use Rattle.std.specs.Str.{bytes_eq}
use Rattle.std.proofs.lemmas.Bool.Decides.{nat_tests}
use Rattle.desk_model.specs.declared.last.Last.{Last}
use Rattle.desk_model.specs.LastRequests.{with_last}

-- the place of a clerk's last request, and the count of all where there is none
abbrev place_of : List ℕ → List Last → ℕ
place_of clerk lasts = position_or_len (λ l. bytes_eq l.clerk clerk) lasts

set-place : (last : Last) (lasts : List Last) (k : ℕ) → place_of last.clerk lasts ≡ k →
    k < length lasts → slice_set lasts k last ≡ with_last last lasts
set-place last [] k is below = absurd (omega (arith, below))
set-place last (l ∷ ls) k is below =
    at (bytes_eq l.clerk last.clerk)
    (λ n place within. set-place last ls n place within) is
  where
    at : (own : Bool) →
        ((n : ℕ) → place_of last.clerk ls ≡ n → n < length ls →
        slice_set ls n last ≡ with_last last ls) →
        cond (not own) (1 + place_of last.clerk ls) 0 ≡ k →
        slice_set (l ∷ ls) k last ≡ cond own (last ∷ ls) (l ∷ with_last last ls)
    at true others e = subst (λ n. slice_set (l ∷ ls) n last ≡ last ∷ ls) e refl
    at false others e =
        let next : suc (place_of last.clerk ls) ≡ k = omega (arith, e) in
        subst (λ n. slice_set (l ∷ ls) n last ≡ l ∷ with_last last ls) next
        (ap (λ xs. l ∷ xs) (others (place_of last.clerk ls) refl (omega (arith, below, next))))

behind-all : (last : Last) (lasts : List Last) → length lasts ≤ place_of last.clerk lasts →
    lasts ++ last ∷ [] ≡ with_last last lasts
behind-all last [] all = refl
behind-all last (l ∷ ls) all = at (bytes_eq l.clerk last.clerk) (behind-all last ls) all
  where
    at : (own : Bool) →
        (length ls ≤ place_of last.clerk ls → ls ++ last ∷ [] ≡ with_last last ls) →
        length (l ∷ ls) ≤ cond (not own) (1 + place_of last.clerk ls) 0 →
        l ∷ (ls ++ last ∷ []) ≡ cond own (last ∷ ls) (l ∷ with_last last ls)
    at true others e = absurd (omega (arith, e))
    at false others e = ap (λ xs. l ∷ xs) (others (omega (arith, e)))

-- the one at the clerk's place is replaced
pub with_last-found : (last : Last) (lasts : List Last) (place : ℕ) →
    Some place ≡ position (λ l. bytes_eq l.clerk last.clerk) lasts →
    slice_set lasts place last ≡ with_last last lasts
with_last-found last lasts place found =
    at (nat_lt (place_of last.clerk lasts) (length lasts)) refl found
  where
    at : (within : Bool) → nat_lt (place_of last.clerk lasts) (length lasts) ≡ within →
        Some place ≡ cond within (Some (place_of last.clerk lasts)) None →
        slice_set lasts place last ≡ with_last last lasts
    at true is e =
        let same : place_of last.clerk lasts ≡ place = cc in
        let below : place_of last.clerk lasts < length lasts = grind (arith, nat_tests) in
        set-place last lasts place same (omega (arith, below, same))
    at false is e = cc

-- a first one stands behind the others
pub with_last-behind : (last : Last) (lasts : List Last) →
    None ≡ position (λ l. bytes_eq l.clerk last.clerk) lasts →
    lasts ++ last ∷ [] ≡ with_last last lasts
with_last-behind last lasts none =
    at (nat_lt (place_of last.clerk lasts) (length lasts)) refl none
  where
    at : (within : Bool) → nat_lt (place_of last.clerk lasts) (length lasts) ≡ within →
        None ≡ cond within (Some (place_of last.clerk lasts)) None →
        lasts ++ last ∷ [] ≡ with_last last lasts
    at true is e = cc
    at false is e =
        let all : length lasts ≤ place_of last.clerk lasts = grind (arith, nat_tests) in
        behind-all last lasts all
