-- Lists made of the places from 0 on, one place more.
use Rattle.std.proofs.Common.{◌≡◌, ℕ, zero, suc, ◌+◌, Option, Some, None, [], ◌∷◌, ◌++◌}
use Rattle.std.proofs.Common.{ap, ◌∙◌, arith, append-nil}
use Rattle.std.specs.List.{filter_map, cons_option, range_with_len}
use Rattle.std.proofs.lemmas.List.Elements.{filter_map-append}

last-place : (a n j : ℕ) → a + n ≡ j → range_with_len a (suc n) ≡ range_with_len a n ++ j ∷ []
last-place a zero j e = let same : a ≡ j = omega (arith, e) in ap (λ k. k ∷ []) same
last-place a (suc n) j e = ap (λ l. a ∷ l) (last-place (a + 1) n j (omega (arith, e)))

range-more : (j : ℕ) → range_with_len 0 (j + 1) ≡ range_with_len 0 j ++ j ∷ []
range-more j =
    let on : j + 1 ≡ suc j = omega arith in
    ap (range_with_len 0) on ∙ last-place 0 j j (omega arith)

module _ {X : Type 0} (f : ℕ → Option X) where
  filter_map-more : (j : ℕ) → filter_map f (range_with_len 0 (j + 1))
      ≡ filter_map f (range_with_len 0 j) ++ cons_option (f j) []
  filter_map-more j =
      ap (filter_map f) (range-more j) ∙ filter_map-append f (range_with_len 0 j) (j ∷ [])

  -- there is a value at the place
  pub some-more : (j : ℕ) (x : X) → f j ≡ Some x → filter_map f (range_with_len 0 (j + 1))
      ≡ filter_map f (range_with_len 0 j) ++ x ∷ []
  some-more j x is = filter_map-more j
      ∙ ap (λ o. filter_map f (range_with_len 0 j) ++ cons_option o []) is

  -- there is none
  pub none-more : (j : ℕ) → f j ≡ None → filter_map f (range_with_len 0 (j + 1))
      ≡ filter_map f (range_with_len 0 j)
  none-more j is = filter_map-more j
      ∙ ap (λ o. filter_map f (range_with_len 0 j) ++ cons_option o []) is
      ∙ append-nil (filter_map f (range_with_len 0 j))
