-- Sums over lists that are mapped, joined and filtered, and sums of sums.
use Rattle.std.proofs.Common.{◌≡◌, ℤ, pos, ◌+ℤ◌, Bool, true, false, cond, List, [], ◌∷◌, ◌++◌, map}
use Rattle.std.proofs.Common.{refl, ap, ◌∙◌, sym, arith}
use Rattle.std.specs.List.{filter, flat_map, All}
use Rattle.std.proofs.lemmas.Int.{ints}
use Rattle.std.proofs.lemmas.List.Elements.{All-head, All-tail}
use Rattle.reg_base.specs.Sums.{sum_over}

assoc : (a b c : ℤ) → (a +ℤ b) +ℤ c ≡ a +ℤ (b +ℤ c)
assoc a b c = omega (arith, ints)

pub zero_first : (a : ℤ) → pos 0 +ℤ a ≡ a
zero_first a = omega (arith, ints)

pub zero_last : (a : ℤ) → a +ℤ pos 0 ≡ a
zero_last a = omega (arith, ints)

+-swap : (a b c d : ℤ) → (a +ℤ b) +ℤ (c +ℤ d) ≡ (a +ℤ c) +ℤ (b +ℤ d)
+-swap a b c d = omega (arith, ints)

pub sum_over-append : {X : Type 0} (f : X → ℤ) (xs ys : List X)
    → sum_over f (xs ++ ys) ≡ sum_over f xs +ℤ sum_over f ys
sum_over-append f [] ys = sym (zero_first (sum_over f ys))
sum_over-append f (x ∷ xs) ys =
    ap (λ t. f x +ℤ t) (sum_over-append f xs ys)
    ∙ sym (assoc (f x) (sum_over f xs) (sum_over f ys))

pub sum_over-map : {X Y : Type 0} (f : Y → ℤ) (g : X → Y) (xs : List X)
    → sum_over f (map g xs) ≡ sum_over (λ x. f (g x)) xs
sum_over-map f g [] = refl
sum_over-map f g (x ∷ xs) = ap (λ t. f (g x) +ℤ t) (sum_over-map f g xs)

-- a sum over rows, a row for each key and unit
pub sum_over-rows : {K U R : Type 0} (f : R → ℤ) (row : K → U → R) (units : List U) (keys : List K)
    → sum_over f (flat_map (λ k. map (row k) units) keys)
    ≡ sum_over (λ k. sum_over (λ u. f (row k u)) units) keys
sum_over-rows f row units [] = refl
sum_over-rows f row units (k ∷ ks) =
    sum_over-append f (map (row k) units) (flat_map (λ q. map (row q) units) ks)
    ∙ ap (λ t. t +ℤ sum_over f (flat_map (λ q. map (row q) units) ks))
    (sum_over-map f (row k) units)
    ∙ ap (λ t. sum_over (λ u. f (row k u)) units +ℤ t) (sum_over-rows f row units ks)

-- what adds nothing may be left out
pub sum_over-filter : {X : Type 0} (f : X → ℤ) (test : X → Bool)
    → ((x : X) → test x ≡ false → f x ≡ pos 0)
    → (xs : List X) → sum_over f (filter test xs) ≡ sum_over f xs
sum_over-filter f test h [] = refl
sum_over-filter {X} f test h (x ∷ xs) = at (sum_over-filter f test h xs) (test x) refl
  where
    at : sum_over f (filter test xs) ≡ sum_over f xs → (b : Bool) → test x ≡ b
        → sum_over f (cond b (x ∷ filter test xs) (filter test xs)) ≡ f x +ℤ sum_over f xs
    at ih true e = ap (λ t. f x +ℤ t) ih
    at ih false e =
        ih ∙ sym (zero_first (sum_over f xs)) ∙ ap (λ t. t +ℤ sum_over f xs) (sym (h x e))

-- sums of what is equal at each element
pub sum_over-same : {X : Type 0} (f g : X → ℤ) → ((x : X) → f x ≡ g x)
    → (xs : List X) → sum_over f xs ≡ sum_over g xs
sum_over-same f g h xs = λ i. sum_over (λ x. h x i) xs

-- sums of what is equal at each element that has P
pub sum_over-same_on : {X : Type 0} (P : X → Type 0) (f g : X → ℤ) → ((x : X) → P x → f x ≡ g x)
    → (xs : List X) → All P xs → sum_over f xs ≡ sum_over g xs
sum_over-same_on P f g h [] k = refl
sum_over-same_on P f g h (x ∷ xs) k =
    ap (λ t. t +ℤ sum_over f xs) (h x (All-head P x xs k))
    ∙ ap (λ t. g x +ℤ t) (sum_over-same_on P f g h xs (All-tail P x xs k))

-- sums of nothing but zeros
pub sum_over-zeros : {X : Type 0} (xs : List X) (f : X → ℤ) → ((x : X) → f x ≡ pos 0)
    → sum_over f xs ≡ pos 0
sum_over-zeros [] f h = refl
sum_over-zeros (x ∷ xs) f h =
    ap (λ t. t +ℤ sum_over f xs) (h x) ∙ zero_first (sum_over f xs) ∙ sum_over-zeros xs f h

sum_over-plus : {X : Type 0} (f g : X → ℤ) (xs : List X)
    → sum_over (λ x. f x +ℤ g x) xs ≡ sum_over f xs +ℤ sum_over g xs
sum_over-plus f g [] = refl
sum_over-plus f g (x ∷ xs) =
    ap (λ t. (f x +ℤ g x) +ℤ t) (sum_over-plus f g xs)
    ∙ +-swap (f x) (g x) (sum_over f xs) (sum_over g xs)

-- sums of sums may be taken in either order
pub sum_over-swap : {X Y : Type 0} (f : X → Y → ℤ) (xs : List X) (ys : List Y)
    → sum_over (λ x. sum_over (f x) ys) xs ≡ sum_over (λ y. sum_over (λ x. f x y) xs) ys
sum_over-swap f [] ys = sym (sum_over-zeros ys (λ y. pos 0) (λ y. refl))
sum_over-swap f (x ∷ xs) ys =
    ap (λ t. sum_over (f x) ys +ℤ t) (sum_over-swap f xs ys)
    ∙ sym (sum_over-plus (f x) (λ y. sum_over (λ z. f z y) xs) ys)

-- a test that does not look at the element may be made once
pub cond-sum : {X : Type 0} (b : Bool) (g : X → ℤ) (xs : List X)
    → cond b (sum_over g xs) (pos 0) ≡ sum_over (λ x. cond b (g x) (pos 0)) xs
cond-sum true g xs = refl
cond-sum false g [] = refl
cond-sum false g (x ∷ xs) = cond-sum false g xs ∙ sym (zero_first (sum_over (λ q. pos 0) xs))
