-- How large sums can be.
use Rattle.std.proofs.Common.{◌≡◌, ℕ, zero, suc, ◌+◌, ◌≤◌, ◌*◌, ◌^◌, ℤ, pos, negsuc, neg_ℤ}
use Rattle.std.proofs.Common.{◌+ℤ◌, ◌≤ℤ◌, Bool, true, false, cond, Some, List, [], ◌∷◌, map}
use Rattle.std.proofs.Common.{ap, sym, subst, arith}
use Rattle.std.specs.Prelude.{unsigned_abs}
use Rattle.std.specs.List.{range_with_len}
use Rattle.std.specs.Ordering.{match_ordering, is_eq}
use Rattle.std.specs.declared.cmp.Ordering.{Ordering}
use Rattle.std.specs.declared.cmp.Ordering.TheVariants.{Less, Equal, Greater}
use Rattle.std.proofs.lemmas.Int.{ints}
use Rattle.reg_base.specs.Turnovers.{RowKey, key_cmp}
use Rattle.table_sums.specs.declared.sums.UnitSums.{UnitSums}
use Rattle.table_sums.specs.Additions.{number_at, size_at, IsInReach, AreInReach}
use Rattle.table_sums.proofs.RowLemmas.{row_key, row, with_row, set_row, found_at}

pub zero-reach : (count : ℕ) → IsInReach count (pos 0)
zero-reach count = (omega (arith, ints), omega (arith, ints))

-- a number that is in reach of so many is in reach of more
pub more-reach : (m n : ℕ) (x : ℤ) → m ≤ n → IsInReach m x → IsInReach n x
more-reach m n x l h = (omega (arith, ints, l, h.0), omega (arith, ints, l, h.1))

-- a number between two bounds is no further from 0 than they are
pub abs-within : (bound : ℕ) (x : ℤ) → unsigned_abs x ≤ bound
    → (neg_ℤ (pos bound) ≤ℤ x) × (x ≤ℤ pos bound)
abs-within bound (pos n) h = (omega (arith, ints, h), omega (arith, ints, h))
abs-within bound (negsuc n) h = (omega (arith, ints, h), omega (arith, ints, h))

pub within-abs : (bound : ℕ) (x : ℤ) → neg_ℤ (pos bound) ≤ℤ x → x ≤ℤ pos bound
    → unsigned_abs x ≤ bound
within-abs bound (pos n) h g = omega (arith, ints, h, g)
within-abs bound (negsuc n) h g = omega (arith, ints, h, g)

pub abs-sum : (x y : ℤ) → unsigned_abs (x +ℤ y) ≤ unsigned_abs x + unsigned_abs y
abs-sum x y =
    let a = abs-within (unsigned_abs x) x (omega arith) in
    let b = abs-within (unsigned_abs y) y (omega arith) in
    both (unsigned_abs x) (unsigned_abs y) a.0 a.1 b.0 b.1
  where
    both : (m n : ℕ) → neg_ℤ (pos m) ≤ℤ x → x ≤ℤ pos m → neg_ℤ (pos n) ≤ℤ y → y ≤ℤ pos n
        → unsigned_abs (x +ℤ y) ≤ m + n
    both m n a b c d = within-abs (m + n) (x +ℤ y) (omega (arith, ints, a, c))
        (omega (arith, ints, b, d))

pub reach-more : (m n : ℕ) → m ≤ n → (rows : List UnitSums) → AreInReach m rows
    → AreInReach n rows
reach-more m n l rows h = λ j. omega (arith, l, h j)

-- the sums of a key that are found
found-size : (k : RowKey) (v : List ℤ) (rows : List UnitSums) → found_at k rows ≡ Some v
    → (j : ℕ) → unsigned_abs (number_at v j) ≤ size_at j rows
found-size k v [] e j = absurd (cc)
found-size k v (r ∷ rs) e j =
    at (λ found. found-size k v rs found j) (is_eq (key_cmp k (row_key r))) e
  where
    at : (found_at k rs ≡ Some v → unsigned_abs (number_at v j) ≤ size_at j rs) → (b : Bool)
        → cond b (Some r.sums) (found_at k rs) ≡ Some v
        → unsigned_abs (number_at v j) ≤ unsigned_abs (number_at r.sums j) + size_at j rs
    at ih true found =
        let same : r.sums ≡ v = cc in
        subst (λ s. unsigned_abs (number_at s j)
        ≤ unsigned_abs (number_at r.sums j) + size_at j rs) same (omega arith)
    at ih false found = omega (arith, ih found)

pub found-reach : (count : ℕ) (k : RowKey) (v : List ℤ) (rows : List UnitSums)
    → found_at k rows ≡ Some v → AreInReach count rows
    → (j : ℕ) → IsInReach count (number_at v j)
found-reach count k v rows e h j =
    abs-within (2 ^ 63 * count) (number_at v j) (omega (arith, found-size k v rows e j, h j))

-- a number of a row is as far from 0 as the two that it sums can be
raised-size : (n : ℕ) (w v ns : List ℤ)
    → w ≡ map (λ j. number_at ns j +ℤ number_at v j) (range_with_len 0 n)
    → (j : ℕ) → unsigned_abs (number_at w j)
    ≤ unsigned_abs (number_at ns j) + unsigned_abs (number_at v j)
raised-size n w v ns e j =
    subst (λ s. unsigned_abs (number_at s j)
    ≤ unsigned_abs (number_at ns j) + unsigned_abs (number_at v j)) (sym e)
    (at 0 n j (omega arith))
  where
    at : (a m i : ℕ) → a + i ≡ j
        → unsigned_abs (number_at (map (λ j. number_at ns j +ℤ number_at v j)
        (range_with_len a m)) i) ≤ unsigned_abs (number_at ns j) + unsigned_abs (number_at v j)
    at a zero i same = omega arith
    at a (suc m) zero same =
        subst (λ k. unsigned_abs (number_at ns k +ℤ number_at v k)
        ≤ unsigned_abs (number_at ns j) + unsigned_abs (number_at v j)) (omega (arith, same))
        (abs-sum (number_at ns j) (number_at v j))
    at a (suc m) (suc i) same = at (a + 1) m i (omega (arith, same))

-- a row put among rows
with_row-size : (k : RowKey) (v : List ℤ) (rows : List UnitSums) (j : ℕ)
    → size_at j (with_row k v rows) ≤ unsigned_abs (number_at v j) + size_at j rows
with_row-size k v [] j = omega arith
with_row-size k v (r ∷ rs) j = at (with_row-size k v rs j) (key_cmp k (row_key r))
  where
    at : size_at j (with_row k v rs) ≤ unsigned_abs (number_at v j) + size_at j rs
        → (o : Ordering)
        → size_at j (match_ordering o (row k v ∷ r ∷ rs) (row (row_key r) v ∷ rs)
        (r ∷ with_row k v rs))
        ≤ unsigned_abs (number_at v j) + (unsigned_abs (number_at r.sums j) + size_at j rs)
    at ih Less = omega arith
    at ih Equal = omega arith
    at ih Greater = omega (arith, ih)

-- a row changed
set_row-size : (k : RowKey) (v w : List ℤ) (rows : List UnitSums) → found_at k rows ≡ Some v
    → (j : ℕ) → size_at j (set_row k w rows) + unsigned_abs (number_at v j)
    ≡ size_at j rows + unsigned_abs (number_at w j)
set_row-size k v w [] e j = absurd (cc)
set_row-size k v w (r ∷ rs) e j =
    at (λ found. set_row-size k v w rs found j) (is_eq (key_cmp k (row_key r))) e
  where
    at : (found_at k rs ≡ Some v → size_at j (set_row k w rs) + unsigned_abs (number_at v j)
        ≡ size_at j rs + unsigned_abs (number_at w j)) → (b : Bool)
        → cond b (Some r.sums) (found_at k rs) ≡ Some v
        → size_at j (cond b (row (row_key r) w ∷ rs) (r ∷ set_row k w rs))
        + unsigned_abs (number_at v j)
        ≡ (unsigned_abs (number_at r.sums j) + size_at j rs) + unsigned_abs (number_at w j)
    at ih true found =
        let same : unsigned_abs (number_at r.sums j) ≡ unsigned_abs (number_at v j) =
        ap (λ s. unsigned_abs (number_at s j)) (let is : r.sums ≡ v = cc in is) in
        omega (arith, same)
    at ih false found = omega (arith, ih found)

module _ (count : ℕ) (k : RowKey) (ns : List ℤ) (rows : List UnitSums)
    (small : (j : ℕ) → IsInReach 1 (number_at ns j)) (all : AreInReach count rows) where
  small-size : (j : ℕ) → unsigned_abs (number_at ns j) ≤ 2 ^ 63 * 1
  small-size j = within-abs (2 ^ 63 * 1) (number_at ns j) (small j).0 (small j).1

  -- the row of a key, made
  pub reach-with_row : AreInReach (count + 1) (with_row k ns rows)
  reach-with_row j = omega (arith, with_row-size k ns rows j, small-size j, all j)

  -- the row of a key, raised
  pub reach-set_row : (n : ℕ) (v w : List ℤ) → found_at k rows ≡ Some v
      → w ≡ map (λ j. number_at ns j +ℤ number_at v j) (range_with_len 0 n)
      → AreInReach (count + 1) (set_row k w rows)
  reach-set_row n v w found e j = omega (
    arith,
    set_row-size k v w rows found j,
    raised-size n w v ns e j,
    small-size j,
    all j,
  )
