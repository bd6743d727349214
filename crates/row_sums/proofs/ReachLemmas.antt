-- How large sums can be.
use Rattle.std.proofs.Common.{◌≡◌, ℕ, ◌+◌, ◌<◌, ◌≤◌, ◌*◌, ◌^◌, ℤ}
use Rattle.std.proofs.Common.{pos, ◌+ℤ◌, Bool, true, false, cond}
use Rattle.std.proofs.Common.{Result, Ok, Err, IfOk, Option, List, []}
use Rattle.std.proofs.Common.{◌∷◌, map, length, sym, subst, arith}
use Rattle.std.specs.List.{filter, range_with_len}
use Rattle.std.specs.Ordering.{match_ordering, is_eq}
use Rattle.std.specs.declared.cmp.Ordering.{Ordering}
use Rattle.std.specs.declared.cmp.Ordering.TheVariants.{Less, Equal, Greater}
use Rattle.std.proofs.Math.Nat.{mul-suc}
use Rattle.std.proofs.lemmas.Int.{ints}
use Rattle.std.proofs.lemmas.List.Elements.{All-head, All-tail}
use Rattle.reg_base.specs.declared.value.Value.{Value}
use Rattle.reg_base.specs.declared.records.SumRow.{SumRow}
use Rattle.reg_base.specs.Records.{Booked, values_cmp, amount_at}
use Rattle.reg_base.specs.Balances.{group_of, groups_of, contribution, total, row_of, is_shown}
use Rattle.reg_base.specs.Balances.{sum_rows}
use Rattle.row_sums.specs.Sums.{sum_at, IsWithin, AreWithin, IsInReach, AreInReach}
use Rattle.row_sums.specs.Sums.{AreAmounts}
use Rattle.row_sums.specs.Rows.{sums_at, with_row}
use Rattle.row_sums.proofs.RowLemmas.{set_row, range-all}

zero-within : (bound : ℕ) → IsWithin bound (pos 0)
zero-within bound = (omega (arith, ints), omega (arith, ints))

within-more : (m n : ℕ) (x : ℤ) → m ≤ n → IsWithin m x → IsWithin n x
within-more m n x l h = (omega (arith, ints), omega (arith, ints))

within-sum : (m n k : ℕ) (a y : ℤ) → n ≡ m + k → IsWithin k a → IsWithin m y
    → IsWithin n (a +ℤ y)
within-sum m n k a y l h g = (omega (arith, ints), omega (arith, ints))

pub rows-more : (m n : ℕ) → m ≤ n → (rows : List SumRow) → AreWithin m rows → AreWithin n rows
rows-more m n l [] h = tt
rows-more m n l (r ∷ rs) h =
    (λ j. within-more m n (sum_at r.sums j) l (h.0 j), rows-more m n l rs h.1)

pub reach-more : (m n : ℕ) → m ≤ n → (rows : List SumRow) → AreInReach m rows → AreInReach n rows
reach-more m n l rows h = rows-more (2 ^ 63 * m) (2 ^ 63 * n) (omega (arith, l)) rows h

-- the sums of a group
pub found-reach : (count : ℕ) (k : List Value) (rows : List SumRow) → AreInReach count rows
    → (j : ℕ) → IsInReach count (sum_at (sums_at k rows) j)
found-reach count k [] h j = zero-within (2 ^ 63 * count)
found-reach count k (r ∷ rs) h j = at (is_eq (values_cmp k r.group)) (found-reach count k rs h.1 j)
  where
    at : (b : Bool) → IsInReach count (sum_at (sums_at k rs) j)
        → IsInReach count (sum_at (cond b r.sums (sums_at k rs)) j)
    at true ih = h.0 j
    at false ih = ih

-- the amounts of a record added to sums
pub raised-reach : (count n : ℕ) (v sums : List ℤ) (amount : ℕ → ℤ)
    → v ≡ map (λ j. amount j +ℤ sum_at sums j) (range_with_len 0 n)
    → ((j : ℕ) → j < n → IsInReach 1 (amount j))
    → ((j : ℕ) → IsInReach count (sum_at sums j))
    → (j : ℕ) → IsInReach (count + 1) (sum_at v j)
raised-reach count n v sums amount e small h j =
    subst (λ s. IsInReach (count + 1) (sum_at s j)) (sym e)
    (range-all (IsInReach (count + 1)) (λ i. amount i +ℤ sum_at sums i) 0 n n (omega arith)
    (zero-within (2 ^ 63 * (count + 1)))
    (λ i l. within-sum (2 ^ 63 * count) (2 ^ 63 * (count + 1)) (2 ^ 63 * 1) (amount i)
    (sum_at sums i) (omega arith) (small i l) (h i)) j)

-- a row put, or changed
pub reach-with_row : (count : ℕ) (row : SumRow) (rows : List SumRow)
    → ((j : ℕ) → IsInReach count (sum_at row.sums j)) → AreInReach count rows
    → AreInReach count (with_row row rows)
reach-with_row count row [] h all = (h, tt)
reach-with_row count row (r ∷ rs) h all =
    at (reach-with_row count row rs h all.1) (values_cmp row.group r.group)
  where
    at : AreInReach count (with_row row rs) → (o : Ordering)
        → AreInReach count (match_ordering o (row ∷ r ∷ rs)
        (record { group = r.group; sums = row.sums } ∷ rs) (r ∷ with_row row rs))
    at ih Less = (h, all)
    at ih Equal = (h, all.1)
    at ih Greater = (all.0, ih)

pub reach-set_row : (count : ℕ) (k : List Value) (v : List ℤ) (rows : List SumRow)
    → ((j : ℕ) → IsInReach count (sum_at v j)) → AreInReach count rows
    → AreInReach count (set_row k v rows)
reach-set_row count k v [] h all = tt
reach-set_row count k v (r ∷ rs) h all =
    at (reach-set_row count k v rs h all.1) (is_eq (values_cmp k r.group))
  where
    at : AreInReach count (set_row k v rs) → (b : Bool)
        → AreInReach count (cond b (record { group = r.group; sums = v } ∷ rs)
        (r ∷ set_row k v rs))
    at ih true = (h, all.1)
    at ih false = (all.0, ih)

-- ---- the rows of a balance

module _ (bound : ℕ) (by : Option (List ℕ)) where
  contribution-within : (g : List Value) (b : Booked) (j : ℕ) → IsWithin bound (amount_at j b.rec)
      → IsWithin bound (contribution by g j b)
  contribution-within g b j h = at (is_eq (values_cmp (group_of by b) g))
    where
      at : (p : Bool) → IsWithin bound (cond p (amount_at j b.rec) (pos 0))
      at true = h
      at false = zero-within bound

  total-within : (g : List Value) (bs : List Booked) (j : ℕ) → AreAmounts bound bs
      → IsWithin (bound * length bs) (total by g bs j)
  total-within g [] j all = zero-within (bound * 0)
  total-within g (b ∷ bs) j all =
      let P : Booked → Type 0 = λ x. (i : ℕ) → IsWithin bound (amount_at i x.rec) in
      within-sum (bound * length bs) (bound * length (b ∷ bs)) bound (contribution by g j b)
      (total by g bs j) (mul-suc bound (length bs))
      (contribution-within g b j (All-head P b bs all j))
      (total-within g bs j (All-tail P b bs all))

  within-row_of : (n : ℕ) (bs : List Booked) (gs : List (List Value)) → AreAmounts bound bs
      → AreWithin (bound * length bs) (map (row_of n by bs) gs)
  within-row_of n bs [] all = tt
  within-row_of n bs (g ∷ gs) all = (
    range-all (IsWithin (bound * length bs)) (total by g bs) 0 n n (omega arith)
        (zero-within (bound * length bs)) (λ j l. total-within g bs j all),
    within-row_of n bs gs all,
  )

pub within-filter : (bound : ℕ) (p : SumRow → Bool) (rows : List SumRow) → AreWithin bound rows
    → AreWithin bound (filter p rows)
within-filter bound p [] h = tt
within-filter bound p (r ∷ rs) h = at (p r) (within-filter bound p rs h.1)
  where
    at : (b : Bool) → AreWithin bound (filter p rs)
        → AreWithin bound (cond b (r ∷ filter p rs) (filter p rs))
    at true ih = (h.0, ih)
    at false ih = ih

-- the sums of a balance are no larger than its amounts can make
pub within-sum_rows : (bound n : ℕ) (by : Option (List ℕ)) (bs : List Booked)
    → AreAmounts bound bs → AreWithin (bound * length bs) (sum_rows n by bs)
unfolding sum_rows
within-sum_rows bound n by bs all =
    within-filter (bound * length bs) is_shown (map (row_of n by bs) (groups_of by bs))
    (within-row_of bound by n bs (groups_of by bs) all)

-- a result that is one value has what that value has
pub IfOk-is : {X F : Type 0} (P : X → Type 0) (x : X) (r : Result X F) → IfOk r (λ y. y ≡ x)
    → P x → IfOk r P
IfOk-is P x (Ok y) e p = subst P (sym e) p
IfOk-is P x (Err f) e p = tt
