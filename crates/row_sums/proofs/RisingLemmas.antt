-- Lists that rise strictly, and what is among them.
use Rattle.std.proofs.Common.{◌≡◌, Bool, true, false, ◌&&◌, ◌||◌, cond, List, [], ◌∷◌, refl, ap}
use Rattle.std.proofs.Common.{◌∙◌, sym}
use Rattle.std.specs.Cmp.{IsTotalOrder}
use Rattle.std.specs.List.{filter, AllByRecursion}
use Rattle.std.specs.List.Sorted.{IsStrictlySortedBy}
use Rattle.std.specs.Ordering.{match_ordering, is_eq, ordering_reverse}
use Rattle.std.specs.declared.cmp.Ordering.{Ordering}
use Rattle.std.specs.declared.cmp.Ordering.TheVariants.{Less, Equal, Greater}
use Rattle.std.proofs.lemmas.Cmp.{tied_itself}
use Rattle.std.proofs.lemmas.Map.Lookups.{CmpEqualImpliesEq}
use Rattle.reg_base.specs.Records.{put_once}
use Rattle.row_sums.specs.Sums.{is_element}

or-same : (p q : Bool) → p || q ≡ p || (p || q)
or-same true q = refl
or-same false q = refl

or-swap : (p q r : Bool) → p || (q || r) ≡ q || (p || r)
or-swap true true r = refl
or-swap true false r = refl
or-swap false q r = refl

pub or-false : (p q : Bool) → p || q ≡ false → (p ≡ false) × (q ≡ false)
or-false true q h = absurd (cc)
or-false false q h = (refl, h)

and-or : (p q r s : Bool) → (s ≡ true → p ≡ q) → cond p (s || (q && r)) (q && r) ≡ q && (s || r)
and-or true true r true same = refl
and-or true true r false same = refl
and-or true false r true same = absurd (let e = same refl in cc)
and-or true false r false same = refl
and-or false true r true same = absurd (let e = same refl in cc)
and-or false true r false same = refl
and-or false false r s same = refl

module _ {X : Type 0} {R : X → X → Ordering} (o : IsTotalOrder R)
    (exact : CmpEqualImpliesEq R) where
  pub eq-flip : (a b : X) → is_eq (R a b) ≡ is_eq (R b a)
  eq-flip a b = ap is_eq (o.antisymm a b) ∙ turned (R b a)
    where
      turned : (r : Ordering) → is_eq (ordering_reverse r) ≡ is_eq r
      turned Less = refl
      turned Equal = refl
      turned Greater = refl

  -- what is below the first of rising elements is below all, and so is what equals it below others
  pub all-below : (k x : X) (ys : List X) → R k x ≡ Less → AllByRecursion (λ y. R x y ≡ Less) ys
      → AllByRecursion (λ y. R k y ≡ Less) ys
  all-below k x [] h all = tt
  all-below k x (y ∷ ys) h all = (o.trans k x y h all.0, all-below k x ys h all.1)

  pub all-same : (k x : X) (ys : List X) → R k x ≡ Equal → AllByRecursion (λ y. R x y ≡ Less) ys
      → AllByRecursion (λ y. R k y ≡ Less) ys
  all-same k x [] h all = tt
  all-same k x (y ∷ ys) h all = (o.congr k x y h ∙ all.0, all-same k x ys h all.1)

  all-put : (P : X → Type 0) (x : X) (ys : List X) → P x → AllByRecursion P ys
      → AllByRecursion P (put_once R x ys)
  all-put P x [] h all = (h, tt)
  all-put P x (y ∷ ys) h all = at (all-put P x ys h all.1) (R x y)
    where
      at : AllByRecursion P (put_once R x ys) → (r : Ordering)
          → AllByRecursion P (match_ordering r (x ∷ y ∷ ys) (y ∷ ys) (y ∷ put_once R x ys))
      at ih Less = (h, all)
      at ih Equal = all
      at ih Greater = (all.0, ih)

  -- an element put once into rising ones
  pub rising-put_once : (x : X) (ys : List X) → IsStrictlySortedBy R ys
      → IsStrictlySortedBy R (put_once R x ys)
  unfolding IsStrictlySortedBy
  rising-put_once x [] h = (tt, tt)
  rising-put_once x (y ∷ ys) h = at (rising-put_once x ys h.1) (R x y) refl
    where
      at : IsStrictlySortedBy R (put_once R x ys) → (r : Ordering) → R x y ≡ r
          → IsStrictlySortedBy R
          (match_ordering r (x ∷ y ∷ ys) (y ∷ ys) (y ∷ put_once R x ys))
      at ih Less p = ((p, all-below x y ys p h.0), h)
      at ih Equal p = h
      at ih Greater p = (
        all-put (λ z. R y z ≡ Less) x ys (o.antisymm y x ∙ ap ordering_reverse p) h.0,
        ih,
      )

  pub element-put_once : (k x : X) (ys : List X)
      → is_element R k (put_once R x ys) ≡ is_eq (R x k) || is_element R k ys
  element-put_once k x [] = refl
  element-put_once k x (y ∷ ys) = at (element-put_once k x ys) (R x y) refl
    where
      at : is_element R k (put_once R x ys) ≡ is_eq (R x k) || is_element R k ys → (r : Ordering)
          → R x y ≡ r
          → is_element R k (match_ordering r (x ∷ y ∷ ys) (y ∷ ys) (y ∷ put_once R x ys))
          ≡ is_eq (R x k) || (is_eq (R y k) || is_element R k ys)
      at ih Less p = refl
      at ih Equal p = or-same (is_eq (R y k)) (is_element R k ys)
          ∙ ap (λ z. is_eq (R z k) || (is_eq (R y k) || is_element R k ys)) (sym (exact x y p))
      at ih Greater p = ap (λ t. is_eq (R y k) || t) ih
          ∙ or-swap (is_eq (R y k)) (is_eq (R x k)) (is_element R k ys)

  -- what is below all is not among them
  pub below-absent : (k : X) (xs : List X) → AllByRecursion (λ y. R k y ≡ Less) xs
      → is_element R k xs ≡ false
  below-absent k [] all = refl
  below-absent k (x ∷ xs) all =
      ap (λ t. t || is_element R k xs) (sym (eq-flip k x) ∙ ap is_eq all.0)
      ∙ below-absent k xs all.1

  -- what is among the elements that pass a test
  pub element-filter : (p : X → Bool) (k : X) (xs : List X)
      → is_element R k (filter p xs) ≡ p k && is_element R k xs
  element-filter p k [] = at (p k)
    where
      at : (b : Bool) → false ≡ b && false
      at true = refl
      at false = refl
  element-filter p k (x ∷ xs) =
      pushed (p x)
      ∙ ap (λ t. cond (p x) (is_eq (R x k) || t) t) (element-filter p k xs)
      ∙ and-or (p x) (p k) (is_element R k xs) (is_eq (R x k)) same
    where
      pushed : (b : Bool) → is_element R k (cond b (x ∷ filter p xs) (filter p xs))
          ≡ cond b (is_eq (R x k) || is_element R k (filter p xs)) (is_element R k (filter p xs))
      pushed true = refl
      pushed false = refl

      equal : (r : Ordering) → R x k ≡ r → is_eq r ≡ true → p x ≡ p k
      equal Less e t = absurd (cc)
      equal Equal e t = ap p (exact x k e)
      equal Greater e t = absurd (cc)

      same : is_eq (R x k) ≡ true → p x ≡ p k
      same = equal (R x k) refl

  -- the first of rising elements is not among the others, and what is another is no first
  element-tail : (x k : X) (xs ys : List X) → AllByRecursion (λ y. R x y ≡ Less) xs
      → AllByRecursion (λ y. R x y ≡ Less) ys
      → is_element R k (x ∷ xs) ≡ is_element R k (x ∷ ys) → is_element R k xs ≡ is_element R k ys
  element-tail x k xs ys below above e = at (R x k) refl
    where
      at : (r : Ordering) → R x k ≡ r → is_element R k xs ≡ is_element R k ys
      at Less p = other (ap is_eq p)
        where
          other : is_eq (R x k) ≡ false → is_element R k xs ≡ is_element R k ys
          other q =
              ap (λ b. b || is_element R k xs) (sym q) ∙ e
              ∙ ap (λ b. b || is_element R k ys) q
      at Greater p =
          ap (λ b. b || is_element R k xs) (sym (ap is_eq p)) ∙ e
          ∙ ap (λ b. b || is_element R k ys) (ap is_eq p)
      at Equal p =
          ap (λ z. is_element R z xs) (sym (exact x k p)) ∙ below-absent x xs below
          ∙ sym (ap (λ z. is_element R z ys) (sym (exact x k p)) ∙ below-absent x ys above)

  element-first : (x : X) (xs : List X) → is_element R x (x ∷ xs) ≡ true
  element-first x xs = ap (λ r. is_eq r || is_element R x xs) (tied_itself o x)

  -- rising lists with the same elements are the same
  pub rising-same : (xs ys : List X) → IsStrictlySortedBy R xs → IsStrictlySortedBy R ys
      → ((k : X) → is_element R k xs ≡ is_element R k ys) → xs ≡ ys
  unfolding IsStrictlySortedBy
  rising-same [] [] hx hy e = refl
  rising-same [] (y ∷ ys) hx hy e = absurd (let h = e y ∙ element-first y ys in cc)
  rising-same (x ∷ xs) [] hx hy e = absurd (let h = sym (e x) ∙ element-first x xs in cc)
  rising-same (x ∷ xs) (y ∷ ys) hx hy e = at (rising-same xs ys hx.1 hy.1) (R x y) refl
    where
      at : (((k : X) → is_element R k xs ≡ is_element R k ys) → xs ≡ ys) → (r : Ordering)
          → R x y ≡ r → x ∷ xs ≡ y ∷ ys
      at rest Less p =
          absurd (let h = sym (element-first x xs) ∙ e x
          ∙ below-absent x (y ∷ ys) (p, all-below x y ys p hy.0) in cc)
      at rest Greater p =
          let q : R y x ≡ Less = o.antisymm y x ∙ ap ordering_reverse p in
          absurd (let h = sym (element-first y ys) ∙ sym (e y)
          ∙ below-absent y (x ∷ xs) (q, all-below y x xs q hx.0) in cc)
      at rest Equal p =
          let same : x ≡ y = exact x y p in
          λ i. same i ∷ rest
          (λ k. element-tail x k xs ys hx.0 (all-same x y ys p hy.0)
          (e k ∙ ap (λ z. is_element R k (z ∷ ys)) (sym same))) i
