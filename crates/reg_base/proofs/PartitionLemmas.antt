-- Sums at the distinct keys of a list, in order, come to the sum over the list.
use Rattle.std.proofs.Common.{◌≡◌, ℤ, pos, ◌+ℤ◌, Bool, true, false, cond, ◌||◌, List, [], ◌∷◌, map}
use Rattle.std.proofs.Common.{refl, ap, ◌∙◌, sym, arith}
use Rattle.std.proofs.lemmas.Int.{ints}
use Rattle.std.specs.Prelude.{IsPermutation}
use Rattle.std.specs.Cmp.{IsTotalOrder}
use Rattle.std.specs.List.{list_any, AllByRecursion}
use Rattle.std.specs.List.Sorted.{IsStrictlySortedBy}
use Rattle.std.specs.Ordering.{match_ordering, ordering_reverse, is_eq}
use Rattle.std.specs.declared.cmp.Ordering.{Ordering}
use Rattle.std.specs.declared.cmp.Ordering.TheVariants.{Less, Equal, Greater}
use Rattle.std.proofs.lemmas.Map.Lookups.{CmpEqualImpliesEq}
use Rattle.std.proofs.lemmas.Bool.{or_right}
use Rattle.reg_base.specs.Records.{put_once}
use Rattle.reg_base.specs.Sums.{sum_over, in_order_once}
use Rattle.reg_base.proofs.OnceLemmas.{put_once-put_once, put_once-rising}
use Rattle.reg_base.proofs.PermutationLemmas.{value-permutation}
use Rattle.reg_base.proofs.SumLemmas.{zero_first, sum_over-swap, sum_over-same, sum_over-all}
use Rattle.reg_base.proofs.SumLemmas.{sum_over-zero}

or-swap : (a b c : Bool) → (b || (a || c)) ≡ (a || (b || c))
or-swap true true c = refl
or-swap true false c = refl
or-swap false true c = refl
or-swap false false c = refl

or-twice : (a c : Bool) → (a || c) ≡ (a || (a || c))
or-twice true c = refl
or-twice false c = refl

reversed-Equal : (r : Ordering) → r ≡ ordering_reverse r → r ≡ Equal
reversed-Equal Less h = cc
reversed-Equal Equal h = refl
reversed-Equal Greater h = cc

module _ {K : Type 0} {R : K → K → Ordering} (o : IsTotalOrder R)
    (exact : CmpEqualImpliesEq R) where
  -- an element is equal to itself
  pub same-Equal : (k : K) → R k k ≡ Equal
  same-Equal k = reversed-Equal (R k k) (o.antisymm k k)

  -- some element passes a test where the new one or one of the others does
  pub any-put_once : (test : K → Bool) (k : K) (ks : List K)
      → list_any test (put_once R k ks) ≡ (test k || list_any test ks)
  any-put_once test k [] = refl
  any-put_once test k (h ∷ hs) = at (R k h) refl (any-put_once test k hs)
    where
      at : (r : Ordering) → R k h ≡ r
          → list_any test (put_once R k hs) ≡ (test k || list_any test hs)
          → list_any test (match_ordering r (k ∷ h ∷ hs) (h ∷ hs) (h ∷ put_once R k hs))
          ≡ (test k || (test h || list_any test hs))
      at Less e ih = refl
      at Equal e ih =
          let same = exact k h e in
          or-twice (test h) (list_any test hs)
          ∙ ap (λ x. test x || (test h || list_any test hs)) (sym same)
      at Greater e ih =
          ap (λ b. test h || b) ih ∙ or-swap (test k) (test h) (list_any test hs)

  pub any-in_order_once : (test : K → Bool) (ks : List K)
      → list_any test (in_order_once R ks) ≡ list_any test ks
  any-in_order_once test [] = refl
  any-in_order_once test (k ∷ ks) =
      any-put_once test k (in_order_once R ks)
      ∙ ap (λ b. test k || b) (any-in_order_once test ks)

  -- the distinct elements in order rise
  pub in_order_once-rising : (ks : List K) → IsStrictlySortedBy R (in_order_once R ks)
  unfolding IsStrictlySortedBy
  in_order_once-rising [] = tt
  in_order_once-rising (k ∷ ks) =
      put_once-rising o exact k (in_order_once R ks) (in_order_once-rising ks)

  -- they are those of the list in any order
  pub in_order_once-permutation : (xs ys : List K) → IsPermutation xs ys
      → in_order_once R xs ≡ in_order_once R ys
  in_order_once-permutation =
      value-permutation (in_order_once R) (λ x xs ys h. ap (put_once R x) h)
      (λ x y xs. put_once-put_once o exact x y (in_order_once R xs))

  -- what is at a key adds its number, and all else nothing
  at_key : (K → ℤ) → K → K → ℤ
  at_key f q k = cond (is_eq (R q k)) (f k) (pos 0)

  none-above : (f : K → ℤ) (q y : K) (ks : List K) → R q y ≡ Equal
      → AllByRecursion (λ z. R y z ≡ Less) ks → sum_over (at_key f q) ks ≡ pos 0
  unfolding at_key
  none-above f q y ks same all =
      sum_over-all (at_key f q) (λ k. pos 0) ks (each ks all) ∙ sum_over-zero ks
    where
      each : (zs : List K) → AllByRecursion (λ z. R y z ≡ Less) zs
          → AllByRecursion (λ k. cond (is_eq (R q k)) (f k) (pos 0) ≡ pos 0) zs
      each [] h = tt
      each (z ∷ zs) h =
          (ap (λ r. cond (is_eq r) (f z) (pos 0)) (o.congr q y z same ∙ h.0), each zs h.1)

  -- of rising elements one at most is the key
  pub sum_over-key : (f : K → ℤ) (q : K) (ks : List K) → IsStrictlySortedBy R ks
      → sum_over (λ k. cond (is_eq (R q k)) (f k) (pos 0)) ks
      ≡ cond (list_any (λ k. is_eq (R q k)) ks) (f q) (pos 0)
  unfolding IsStrictlySortedBy at_key
  sum_over-key f q [] rising = refl
  sum_over-key f q (k ∷ ks) rising = at (R q k) refl (sum_over-key f q ks rising.1)
    where
      others : ℤ
      others = sum_over (λ z. cond (is_eq (R q z)) (f z) (pos 0)) ks

      found : Bool
      found = list_any (λ z. is_eq (R q z)) ks

      plus_nothing : others ≡ pos 0 → f k +ℤ others ≡ f k
      plus_nothing none = omega (arith, ints)

      at : (r : Ordering) → R q k ≡ r → others ≡ cond found (f q) (pos 0)
          → cond (is_eq r) (f k) (pos 0) +ℤ others
          ≡ cond (is_eq r || found) (f q) (pos 0)
      at Less e ih = zero_first others ∙ ih
      at Equal e ih =
          plus_nothing (none-above f q k ks e rising.0) ∙ ap f (sym (exact q k e))
      at Greater e ih = zero_first others ∙ ih

  -- the key of each element is among the keys
  keys-all : {X : Type 0} (key : X → K) (xs : List X)
      → AllByRecursion (λ x. list_any (λ k. is_eq (R (key x) k)) (map key xs) ≡ true) xs
  keys-all key [] = tt
  keys-all {X} key (x ∷ xs) = (
    ap (λ r. is_eq r || list_any (λ k. is_eq (R (key x) k)) (map key xs)) (same-Equal (key x)),
    wider xs (keys-all key xs),
  )
    where
      wider : (ys : List X)
          → AllByRecursion (λ y. list_any (λ k. is_eq (R (key y) k)) (map key xs) ≡ true) ys
          → AllByRecursion (λ y. list_any (λ k. is_eq (R (key y) k)) (key x ∷ map key xs) ≡ true) ys
      wider [] h = tt
      wider (y ∷ ys) h = (
        or_right (is_eq (R (key y) (key x))) (list_any (λ k. is_eq (R (key y) k)) (map key xs)) h.0,
        wider ys h.1,
      )

  -- what each element adds at the keys of the list, it adds once
  pub sum_over-partition : {X : Type 0} (key : X → K) (f : X → K → ℤ) (xs : List X)
      → sum_over (λ k. sum_over (λ x. cond (is_eq (R (key x) k)) (f x k) (pos 0)) xs)
      (in_order_once R (map key xs))
      ≡ sum_over (λ x. f x (key x)) xs
  sum_over-partition {X} key f xs =
      sum_over-swap (λ k x. cond (is_eq (R (key x) k)) (f x k) (pos 0)) keys xs
      ∙ sum_over-same (λ x. sum_over (λ k. cond (is_eq (R (key x) k)) (f x k) (pos 0)) keys)
      (λ x. cond (list_any (λ k. is_eq (R (key x) k)) keys) (f x (key x)) (pos 0))
      (λ x. sum_over-key (f x) (key x) keys (in_order_once-rising (map key xs))) xs
      ∙ sum_over-all (λ x. cond (list_any (λ k. is_eq (R (key x) k)) keys) (f x (key x)) (pos 0))
      (λ x. f x (key x)) xs (each xs (keys-all key xs))
    where
      keys : List K
      keys = in_order_once R (map key xs)

      each : (ys : List X)
          → AllByRecursion (λ y. list_any (λ k. is_eq (R (key y) k)) (map key xs) ≡ true) ys
          → AllByRecursion
          (λ y. cond (list_any (λ k. is_eq (R (key y) k)) keys) (f y (key y)) (pos 0)
          ≡ f y (key y)) ys
      each [] h = tt
      each (y ∷ ys) h = (
        ap (λ b. cond b (f y (key y)) (pos 0))
            (any-in_order_once (λ k. is_eq (R (key y) k)) (map key xs) ∙ h.0),
        each ys h.1,
      )
