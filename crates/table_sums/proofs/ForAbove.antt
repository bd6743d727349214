-- For the crates above: the lemmas of this crate that their proofs may cite.
use Rattle.std.proofs.Common.{◌≡◌, ℕ, ◌+◌, ◌<◌, ◌≤◌, ℤ, pos, neg_ℤ, ◌+ℤ◌, ◌≤ℤ◌, List, []}
use Rattle.std.proofs.Common.{◌++◌, map}
use Rattle.std.specs.Prelude.{unsigned_abs}
use Rattle.std.specs.List.{range_with_len}
use Rattle.table_sums.specs.declared.sums.UnitSums.{UnitSums}
use Rattle.table_sums.specs.Additions.{Addition, number_at, IsInReach, AreInReach, Adds}
use Rattle.table_sums.proofs.AddLemmas as adds
use Rattle.table_sums.proofs.ReachLemmas as sizes

-- the number at a column
pub range-get : (f : ℕ → ℤ) (j a n : ℕ) → j < n
    → number_at (map f (range_with_len a n)) j ≡ f (a + j)
range-get = adds.range-get

-- numbers that are the same at each column
pub range-same : (f g : ℕ → ℤ) (m a n : ℕ) → a + n ≤ m → ((j : ℕ) → j < m → f j ≡ g j)
    → map f (range_with_len a n) ≡ map g (range_with_len a n)
range-same = adds.range-same

-- 0 is in reach
pub zero-reach : (count : ℕ) → IsInReach count (pos 0)
zero-reach = sizes.zero-reach

-- a number between two bounds is no further from 0 than they are
pub abs-within : (bound : ℕ) (x : ℤ) → unsigned_abs x ≤ bound
    → (neg_ℤ (pos bound) ≤ℤ x) × (x ≤ℤ pos bound)
abs-within = sizes.abs-within

-- a sum is no further from 0 than both numbers together
pub abs-sum : (x y : ℤ) → unsigned_abs (x +ℤ y) ≤ unsigned_abs x + unsigned_abs y
abs-sum = sizes.abs-sum

-- nothing added
pub Adds-none : (columns : ℕ) (rows : List UnitSums) → Adds columns [] rows rows
Adds-none = adds.Adds-none

-- additions one list after another
pub Adds-both : (columns : ℕ) (xs ys : List Addition) (old mid new : List UnitSums)
    → Adds columns xs old mid → Adds columns ys mid new → Adds columns (xs ++ ys) old new
Adds-both = adds.Adds-both

-- sums that so many numbers can make, more can make
pub reach-more : (m n : ℕ) → m ≤ n → (rows : List UnitSums) → AreInReach m rows
    → AreInReach n rows
reach-more = sizes.reach-more
