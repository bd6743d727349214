-- Lists: maps of maps, and numbers of a list at a column.
use Rattle.std.proofs.Common.{◌≡◌, ℕ, zero, suc, ◌+◌, ◌<◌, ℤ, pos, Bool, true, false}
use Rattle.std.proofs.Common.{◌&&◌, cond, List, [], ◌∷◌, ◌++◌, map, length, refl, ap}
use Rattle.std.proofs.Common.{◌∙◌, sym, arith, take, drop}
use Rattle.std.specs.List.{filter, range_with_len}
use Rattle.table_sums.specs.Additions.{number_at}

pub map-map : {X Y Z : Type 0} (f : Y → Z) (g : X → Y) (xs : List X)
    → map f (map g xs) ≡ map (λ x. f (g x)) xs
map-map f g [] = refl
map-map f g (x ∷ xs) = ap (λ t. f (g x) ∷ t) (map-map f g xs)

-- a filter of a filter is one filter
pub filter-filter : {X : Type 0} (p q : X → Bool) (xs : List X)
    → filter p (filter q xs) ≡ filter (λ x. q x && p x) xs
filter-filter p q [] = refl
filter-filter p q (x ∷ xs) = at (filter-filter p q xs) (q x)
  where
    at : filter p (filter q xs) ≡ filter (λ y. q y && p y) xs → (s : Bool)
        → filter p (cond s (x ∷ filter q xs) (filter q xs))
        ≡ cond (s && p x) (x ∷ filter (λ y. q y && p y) xs) (filter (λ y. q y && p y) xs)
    at ih true = ap (λ t. cond (p x) (x ∷ t) t) ih
    at ih false = ih

-- the front of a list, and what is behind it
pub take-front : {X : Type 0} (n : ℕ) (xs ys : List X) → length xs ≡ n → take n (xs ++ ys) ≡ xs
take-front zero [] ys e = refl
take-front zero (x ∷ xs) ys e = absurd (omega (arith, e))
take-front (suc n) [] ys e = absurd (omega (arith, e))
take-front (suc n) (x ∷ xs) ys e = ap (λ t. x ∷ t) (take-front n xs ys (omega (arith, e)))

pub drop-front : {X : Type 0} (n : ℕ) (xs ys : List X) → length xs ≡ n → drop n (xs ++ ys) ≡ ys
drop-front zero [] ys e = refl
drop-front zero (x ∷ xs) ys e = absurd (omega (arith, e))
drop-front (suc n) [] ys e = absurd (omega (arith, e))
drop-front (suc n) (x ∷ xs) ys e = drop-front n xs ys (omega (arith, e))

-- a range, moved by one
range-shift : (g : ℕ → ℤ) (a k : ℕ)
    → map (λ j. g (suc j)) (range_with_len a k) ≡ map g (range_with_len (a + 1) k)
range-shift g a zero = refl
range-shift g a (suc k) =
    let next : suc a ≡ a + 1 = omega arith in
    λ i. g (next i) ∷ range-shift g (a + 1) k i

-- a range in two parts
pub range-split : (g : ℕ → ℤ) (a m k : ℕ)
    → map g (range_with_len a (m + k))
    ≡ map g (range_with_len a m) ++ map (λ j. g (m + j)) (range_with_len a k)
range-split g a zero k =
    let none : (n : ℕ) → n ≡ zero + n = λ n. omega arith in
    (λ i. map (λ j. g (none j i)) (range_with_len a (sym (none k) i)))
range-split g a (suc m) k =
    let more : suc m + k ≡ suc (m + k) = omega arith in
    let next : (j : ℕ) → m + suc j ≡ suc m + j = λ j. omega arith in
    ap (λ n. map g (range_with_len a n)) more
    ∙ ap (λ t. g a ∷ t)
    (range-split g (a + 1) m k
    ∙ ap (λ t. map g (range_with_len (a + 1) m) ++ t)
    (sym (range-shift (λ j. g (m + j)) a k)
    ∙ (λ i. map (λ j. g (next j i)) (range_with_len a k))))

-- the number at a column of two lists
pub number_at-left : (xs ys : List ℤ) (j : ℕ) → j < length xs
    → number_at (xs ++ ys) j ≡ number_at xs j
number_at-left [] ys j h = absurd (omega arith)
number_at-left (x ∷ xs) ys zero h = refl
number_at-left (x ∷ xs) ys (suc j) h = number_at-left xs ys j (omega arith)

pub number_at-right : (xs ys : List ℤ) (m j : ℕ) → length xs ≡ m
    → number_at (xs ++ ys) (m + j) ≡ number_at ys j
number_at-right [] ys m j e = let same : m + j ≡ j = omega (arith, e) in ap (number_at ys) same
number_at-right (x ∷ xs) ys zero j e = absurd (omega (arith, e))
number_at-right (x ∷ xs) ys (suc m) j e =
    let next : suc m + j ≡ suc (m + j) = omega arith in
    ap (number_at (x ∷ xs ++ ys)) next ∙ number_at-right xs ys m j (omega (arith, e))

-- what holds of each number and of one behind them
pub numbers-push : (P : ℤ → Type 0) → P (pos 0) → (xs : List ℤ) (x : ℤ)
    → ((j : ℕ) → P (number_at xs j)) → P x → (j : ℕ) → P (number_at (xs ++ x ∷ []) j)
numbers-push P none [] x all last zero = last
numbers-push P none [] x all last (suc j) = none
numbers-push P none (y ∷ ys) x all last zero = all 0
numbers-push P none (y ∷ ys) x all last (suc j) =
    numbers-push P none ys x (λ k. all (suc k)) last j
