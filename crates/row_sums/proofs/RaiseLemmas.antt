-- Sums raised in their place, one after another.
use Rattle.std.proofs.Common.{◌≡◌, ℕ, zero, suc, ◌+◌, ◌<◌, ℤ, pos, Some, List, [], ◌∷◌, ◌++◌, map}
use Rattle.std.proofs.Common.{length, refl, ap, ◌∙◌, sym, arith, take, drop, append_assoc}
use Rattle.std.specs.Prelude.{slice_get, slice_set, unwrap_or}
use Rattle.std.proofs.lemmas.List.FromFn.{map-range_with_len_more, length-range_with_len}
use Rattle.std.proofs.lemmas.List.FromFn.{length-map-range_with_len}
use Rattle.std.specs.List.{range_with_len}
use Rattle.std.proofs.lemmas.List.{length-map}
use Rattle.row_sums.specs.Sums.{sum_at}

set_mid : (front : List ℤ) (x v : ℤ) (rest : List ℤ) →
    slice_set (front ++ x ∷ rest) (length front) v ≡ front ++ v ∷ rest
set_mid [] x v rest = refl
set_mid (y ∷ front) x v rest = ap (λ t. y ∷ t) (set_mid front x v rest)

get_mid : (front : List ℤ) (x : ℤ) (rest : List ℤ) →
    slice_get (front ++ x ∷ rest) (length front) ≡ Some x
get_mid [] x rest = refl
get_mid (y ∷ front) x rest = get_mid front x rest

drop_split : (xs : List ℤ) (j : ℕ) → j < length xs →
    (x : ℤ) × (drop j xs ≡ x ∷ drop (suc j) xs) × (slice_get xs j ≡ Some x)
drop_split [] j h = absurd (omega arith)
drop_split (x ∷ xs) zero h = (x, refl, refl)
drop_split (x ∷ xs) (suc j) h = drop_split xs j (omega arith)

module _ (F : ℕ → ℤ) (old sums : List ℤ) (j : ℕ) (below : j < length old)
    (so_far : sums ≡ map F (range_with_len 0 j) ++ drop j old) where
  front-long : j ≡ length (map F (range_with_len 0 j))
  front-long = sym (length-map (range_with_len 0 j) F ∙ length-range_with_len 0 j)

  -- the sum in its turn is the old one
  pub raise-at : sum_at sums j ≡ sum_at old j
  raise-at =
      let (x, split, found) = drop_split old j below in
      ap (λ s. sum_at s j) (so_far ∙ ap (λ t. map F (range_with_len 0 j) ++ t) split)
      ∙ ap (λ i. unwrap_or (slice_get (map F (range_with_len 0 j) ++ x ∷ drop (suc j) old) i)
      (pos 0)) front-long
      ∙ ap (λ o. unwrap_or o (pos 0))
      (get_mid (map F (range_with_len 0 j)) x (drop (suc j) old) ∙ sym found)

  -- one sum more is raised
  pub raise-step : (v : ℤ) → v ≡ F j →
      slice_set sums j v ≡ map F (range_with_len 0 (j + 1)) ++ drop (j + 1) old
  raise-step v e =
      let next : suc j ≡ j + 1 = omega arith in
      let (x, split, found) = drop_split old j below in
      ap (λ s. slice_set s j v) (so_far ∙ ap (λ t. map F (range_with_len 0 j) ++ t) split)
      ∙ ap (λ i. slice_set (map F (range_with_len 0 j) ++ x ∷ drop (suc j) old) i v) front-long
      ∙ set_mid (map F (range_with_len 0 j)) x v (drop (suc j) old)
      ∙ ap (λ t. map F (range_with_len 0 j) ++ t ∷ drop (suc j) old) e
      ∙ sym (append_assoc (map F (range_with_len 0 j)) (F j ∷ []) (drop (suc j) old))
      ∙ ap (λ t. t ++ drop (suc j) old) (sym (map-range_with_len_more F 0 j j (omega arith)))
      ∙ ap (λ n. map F (range_with_len 0 (j + 1)) ++ drop n old) next

-- the front of a list, of the length of the whole, is the list
pub take-front : (xs ys : List ℤ) → length xs ≡ length ys →
    take (length ys) (xs ++ drop (length xs) ys) ≡ xs
take-front [] [] e = refl
take-front [] (y ∷ ys) e = absurd (omega (arith, e))
take-front (x ∷ xs) [] e = absurd (omega (arith, e))
take-front (x ∷ xs) (y ∷ ys) e = ap (λ t. x ∷ t) (take-front xs ys (omega (arith, e)))

-- what was raised in a slice of the whole, with its length
pub raised-whole : (F : List ℤ → ℕ → ℤ) (items given new : List ℤ) (len : ℕ) → given ≡ items →
    length given ≡ len
    → new ≡ map (F given) (range_with_len 0 (length given))
    → take len (new ++ drop (length new) items) ≡ map (F items) (range_with_len 0 (length items))
raised-whole F items given new len same long value =
    let raised : length new ≡ length items = ap length value
    ∙ length-map-range_with_len (F given) 0 (length given) ∙ ap length same in
    let all : len ≡ length items = sym long ∙ ap length same in
    ap (λ n. take n (new ++ drop (length new) items)) all
    ∙ take-front new items raised ∙ value
    ∙ ap (λ xs. map (F xs) (range_with_len 0 (length xs))) same
