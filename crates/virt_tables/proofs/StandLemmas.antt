-- Rising keys that have the same ones among them are the same, and those of rows that stand are.
use Rattle.std.proofs.Common.{◌≡◌, Bool, true, false, ◌&&◌, ◌||◌, cond, List, [], ◌∷◌, map}
use Rattle.std.proofs.Common.{refl, ap, ◌∙◌, sym}
use Rattle.std.specs.List.{filter, flat_map, list_any, AllByRecursion}
use Rattle.std.specs.List.Sorted.{IsStrictlySortedBy}
use Rattle.std.specs.Cmp.{IsTotalOrder}
use Rattle.std.specs.Ordering.{is_eq, ordering_reverse}
use Rattle.std.specs.declared.cmp.Ordering.{Ordering}
use Rattle.std.specs.declared.cmp.Ordering.TheVariants.{Less, Equal, Greater}
use Rattle.std.proofs.lemmas.Bool.{or_parts}
use Rattle.std.proofs.lemmas.Cmp.{tied_itself}
use Rattle.std.proofs.lemmas.Map.Lookups.{CmpEqualImpliesEq}
use Rattle.std.proofs.lemmas.List.Folds.{list_any-append}

-- ---- whether one of a list passes a test

pub any-map : {X Y : Type 0} (t : Y → Bool) (f : X → Y) (xs : List X)
    → list_any t (map f xs) ≡ list_any (λ x. t (f x)) xs
any-map t f [] = refl
any-map t f (x ∷ xs) = ap (λ b. t (f x) || b) (any-map t f xs)

pub any-flat_map : {X Y : Type 0} (t : Y → Bool) (f : X → List Y) (xs : List X)
    → list_any t (flat_map f xs) ≡ list_any (λ x. list_any t (f x)) xs
any-flat_map t f [] = refl
any-flat_map t f (x ∷ xs) =
    list_any-append t (f x) (flat_map f xs)
    ∙ ap (λ b. list_any t (f x) || b) (any-flat_map t f xs)

any-cond : {X : Type 0} (t : X → Bool) (p : Bool) (x : X) (xs : List X)
    → list_any t (cond p (x ∷ xs) xs) ≡ (p && t x) || list_any t xs
any-cond t true x xs = refl
any-cond t false x xs = refl

pub any-filter : {X : Type 0} (t p : X → Bool) (xs : List X)
    → list_any t (filter p xs) ≡ list_any (λ x. p x && t x) xs
any-filter t p [] = refl
any-filter t p (x ∷ xs) =
    any-cond t (p x) x (filter p xs) ∙ ap (λ b. (p x && t x) || b) (any-filter t p xs)

or-four : (a b c d : Bool) → (a || b) || (c || d) ≡ (a || c) || (b || d)
or-four true b c d = refl
or-four false true true d = refl
or-four false true false d = refl
or-four false false true d = refl
or-four false false false d = refl

pub any-or : {X : Type 0} (s t : X → Bool) (xs : List X)
    → list_any (λ x. s x || t x) xs ≡ list_any s xs || list_any t xs
any-or s t [] = refl
any-or s t (x ∷ xs) =
    ap (λ b. (s x || t x) || b) (any-or s t xs)
    ∙ or-four (s x) (t x) (list_any s xs) (list_any t xs)

-- a test that none passes where another is not passed
pub any-weaker : {X : Type 0} (s t : X → Bool) → ((x : X) → t x ≡ false → s x ≡ false)
    → (xs : List X) → list_any t xs ≡ false → list_any s xs ≡ false
any-weaker s t less [] none = refl
any-weaker s t less (x ∷ xs) none =
    let parts = or_parts (t x) (list_any t xs) none in
    λ i. less x parts.0 i || any-weaker s t less xs parts.1 i

-- a filter of rows is that of what they are made of
pub filter-map : {X Y : Type 0} (p : Y → Bool) (f : X → Y) (xs : List X)
    → filter p (map f xs) ≡ map f (filter (λ x. p (f x)) xs)
filter-map p f [] = refl
filter-map {X} {Y} p f (x ∷ xs) = at (filter-map p f xs) (p (f x))
  where
    at : filter p (map f xs) ≡ map f (filter (λ x. p (f x)) xs) → (b : Bool)
        → cond b (f x ∷ filter p (map f xs)) (filter p (map f xs))
        ≡ map f (cond b (x ∷ filter (λ x. p (f x)) xs) (filter (λ x. p (f x)) xs))
    at ih true = ap (λ t. f x ∷ t) ih
    at ih false = ih

eq-Equal : (r : Ordering) → is_eq r ≡ true → r ≡ Equal
eq-Equal Less h = absurd (cc)
eq-Equal Equal h = refl
eq-Equal Greater h = absurd (cc)

-- ---- rising keys

module _ {K : Type 0} {R : K → K → Ordering} (o : IsTotalOrder R)
    (exact : CmpEqualImpliesEq R) where
  -- whether a key is among others
  abbrev pub is_among : K → List K → Bool
  is_among k ks = list_any (λ x. is_eq (R k x)) ks

  pub eq-flip : (a b : K) → is_eq (R a b) ≡ is_eq (R b a)
  eq-flip a b = ap is_eq (o.antisymm a b) ∙ at (R b a)
    where
      at : (r : Ordering) → is_eq (ordering_reverse r) ≡ is_eq r
      at Less = refl
      at Equal = refl
      at Greater = refl

  among-above : (k : K) (xs : List K) → AllByRecursion (λ y. R k y ≡ Less) xs
      → is_among k xs ≡ false
  among-above k [] all = refl
  among-above k (y ∷ ys) all = λ i. is_eq (all.0 i) || among-above k ys all.1 i

  below-all : (k x : K) (ys : List K) → R k x ≡ Less → AllByRecursion (λ y. R x y ≡ Less) ys
      → AllByRecursion (λ y. R k y ≡ Less) ys
  below-all k x [] h all = tt
  below-all k x (y ∷ ys) h all = (o.trans k x y h all.0, below-all k x ys h all.1)

  same-all : (k x : K) (ys : List K) → R k x ≡ Equal → AllByRecursion (λ y. R x y ≡ Less) ys
      → AllByRecursion (λ y. R k y ≡ Less) ys
  same-all k x [] h all = tt
  same-all k x (y ∷ ys) h all = (o.congr k x y h ∙ all.0, same-all k x ys h all.1)

  among-first : (x : K) (xs : List K) → is_among x (x ∷ xs) ≡ true
  among-first x xs = ap (λ r. is_eq r || is_among x xs) (tied_itself o x)

  -- behind equal first keys the same ones are left
  among-rest : (x y : K) (xs ys : List K) → R x y ≡ Equal
      → AllByRecursion (λ z. R x z ≡ Less) xs → AllByRecursion (λ z. R y z ≡ Less) ys
      → ((k : K) → is_among k (x ∷ xs) ≡ is_among k (y ∷ ys))
      → (k : K) → is_among k xs ≡ is_among k ys
  among-rest x y xs ys e behind after same k =
      at (R k x) refl (same k ∙ ap (λ z. is_eq (R k z) || is_among k ys) (sym (exact x y e)))
    where
      at : (r : Ordering) → R k x ≡ r
          → is_eq (R k x) || is_among k xs ≡ is_eq (R k x) || is_among k ys
          → is_among k xs ≡ is_among k ys
      at Less p h =
          (λ i. is_eq (sym p i) || is_among k xs) ∙ h ∙ (λ i. is_eq (p i) || is_among k ys)
      at Equal p h =
          among-above k xs (same-all k x xs p behind)
          ∙ sym (among-above k ys
          (same-all k y ys (ap (R k) (sym (exact x y e)) ∙ p) after))
      at Greater p h =
          (λ i. is_eq (sym p i) || is_among k xs) ∙ h ∙ (λ i. is_eq (p i) || is_among k ys)

  -- rising keys that have the same ones among them are the same
  pub rising-same : (xs ys : List K) → IsStrictlySortedBy R xs → IsStrictlySortedBy R ys
      → ((k : K) → is_among k xs ≡ is_among k ys) → xs ≡ ys
  unfolding IsStrictlySortedBy
  rising-same [] [] up on same = refl
  rising-same [] (y ∷ ys) up on same =
      absurd (let clash : false ≡ true = same y ∙ among-first y ys in cc)
  rising-same (x ∷ xs) [] up on same =
      absurd (let clash : true ≡ false = sym (among-first x xs) ∙ same x in cc)
  rising-same (x ∷ xs) (y ∷ ys) up on same =
      at (R x y) refl (rising-same xs ys up.1 on.1)
    where
      at : (r : Ordering) → R x y ≡ r
          → (((k : K) → is_among k xs ≡ is_among k ys) → xs ≡ ys) → x ∷ xs ≡ y ∷ ys
      at Less p ih =
          absurd (let clash : true ≡ false = sym (among-first x xs) ∙ same x
          ∙ among-above x (y ∷ ys) (p, below-all x y ys p on.0) in cc)
      at Equal p ih =
          λ i. exact x y p i ∷ ih (among-rest x y xs ys p up.0 on.0 same) i
      at Greater p ih =
          absurd (let q : R y x ≡ Less = o.antisymm y x ∙ ap ordering_reverse p in
          let clash : true ≡ false = sym (among-first y ys) ∙ sym (same y)
          ∙ among-above y (x ∷ xs) (q, below-all y x xs q up.0) in cc)

  all-filter : (P : K → Type 0) (p : K → Bool) (xs : List K) → AllByRecursion P xs
      → AllByRecursion P (filter p xs)
  all-filter P p [] all = tt
  all-filter P p (x ∷ xs) all = at (all-filter P p xs all.1) (p x)
    where
      at : AllByRecursion P (filter p xs) → (b : Bool)
          → AllByRecursion P (cond b (x ∷ filter p xs) (filter p xs))
      at ih true = (all.0, ih)
      at ih false = ih

  filter-rising : (p : K → Bool) (xs : List K) → IsStrictlySortedBy R xs
      → IsStrictlySortedBy R (filter p xs)
  unfolding IsStrictlySortedBy
  filter-rising p [] rising = tt
  filter-rising p (x ∷ xs) rising = at (filter-rising p xs rising.1) (p x)
    where
      at : IsStrictlySortedBy R (filter p xs) → (b : Bool)
          → IsStrictlySortedBy R (cond b (x ∷ filter p xs) (filter p xs))
      at ih true = (all-filter (λ y. R x y ≡ Less) p xs rising.0, ih)
      at ih false = ih

  among-filter : (p : K → Bool) (k : K) (xs : List K)
      → is_among k (filter p xs) ≡ p k && is_among k xs
  among-filter p k [] = at (p k)
    where
      at : (b : Bool) → false ≡ b && false
      at true = refl
      at false = refl
  among-filter p k (x ∷ xs) =
      any-cond (λ x. is_eq (R k x)) (p x) x (filter p xs)
      ∙ ap (λ b. (p x && is_eq (R k x)) || b) (among-filter p k xs)
      ∙ both (is_eq (R k x)) (p x) (p k) (is_among k xs)
      (λ e. ap p (sym (exact k x (eq-Equal (R k x) e))))
    where
      both : (e s t a : Bool) → (e ≡ true → s ≡ t) → (s && e) || (t && a) ≡ t && (e || a)
      both true true true a h = refl
      both true true false a h = absurd (let clash = h refl in cc)
      both true false true a h = absurd (let clash = h refl in cc)
      both true false false a h = refl
      both false true true a h = refl
      both false true false a h = refl
      both false false true a h = refl
      both false false false a h = refl

  -- where keys that pass a test are among both of two rising lists or none, they are the same
  pub filter-same : (p : K → Bool) (xs ys : List K) → IsStrictlySortedBy R xs
      → IsStrictlySortedBy R ys
      → ((k : K) → p k ≡ true → is_among k xs ≡ is_among k ys) → filter p xs ≡ filter p ys
  filter-same p xs ys up on same =
      rising-same (filter p xs) (filter p ys) (filter-rising p xs up) (filter-rising p ys on)
      (λ k. among-filter p k xs ∙ at k (p k) refl ∙ sym (among-filter p k ys))
    where
      at : (k : K) (b : Bool) → p k ≡ b → p k && is_among k xs ≡ p k && is_among k ys
      at k true e = ap (λ a. p k && a) (same k e)
      at k false e =
          (λ i. e i && is_among k xs) ∙ (λ i. sym e i && is_among k ys)
