-- For the crates above: the lemmas of this crate that their proofs may cite.
use Rattle.std.proofs.Common.{◌≡◌, ℕ, ◌*◌, ◌<◌, ◌≤◌, Option, List, [], ◌++◌, length}
use Rattle.std.specs.List.{flat_map, AllByRecursion}
use Rattle.std.specs.Cmp.{IsTotalOrder}
use Rattle.std.specs.declared.cmp.Ordering.{Ordering}
use Rattle.std.specs.declared.cmp.Ordering.TheVariants.{Less}
use Rattle.std.proofs.lemmas.Map.Lookups.{CmpEqualImpliesEq}
use Rattle.reg_base.specs.declared.value.Value.{Value}
use Rattle.reg_base.specs.declared.records.Document.{Document}
use Rattle.reg_base.specs.declared.records.Filter.{Filter}
use Rattle.reg_base.specs.declared.records.SumRow.{SumRow}
use Rattle.reg_base.specs.declared.cut.Cut.{Cut}
use Rattle.reg_base.specs.Records.{Booked, booked_by, booked_cmp, in_order, records_of}
use Rattle.reg_base.specs.Records.{without_recorder}
use Rattle.reg_base.specs.Balances.{total, sum_rows, balance_of}
use Rattle.row_sums.specs.Sums.{AddsUp, AreWithin, AreInReach, AreAmounts, Adds}
use Rattle.row_sums.proofs.AddLemmas as one
use Rattle.row_sums.proofs.AddsLemmas as many
use Rattle.row_sums.proofs.OrderLemmas as orders
use Rattle.row_sums.proofs.ReachLemmas as sizes
use Rattle.row_sums.proofs.RisingLemmas as rising

-- what is below an element is below all that are above it
pub all-below : {X : Type 0} {R : X → X → Ordering} → IsTotalOrder R → CmpEqualImpliesEq R
    → (k x : X) (ys : List X) → R k x ≡ Less → AllByRecursion (λ y. R x y ≡ Less) ys
    → AllByRecursion (λ y. R k y ≡ Less) ys
all-below o exact = rising.all-below o exact

-- no rows add up no records
pub AddsUp-nil : (by : Option (List ℕ)) (resources : ℕ) → AddsUp by resources [] []
AddsUp-nil = one.AddsUp-nil

-- nothing added
pub Adds-none : (by : Option (List ℕ)) (resources : ℕ) (rows : List SumRow)
    → Adds by resources [] rows rows
Adds-none = many.Adds-none

-- records added one list after another
pub Adds-both : (by : Option (List ℕ)) (resources : ℕ) (xs ys : List Booked)
    (old mid new : List SumRow) → Adds by resources xs old mid → Adds by resources ys mid new
    → Adds by resources (xs ++ ys) old new
Adds-both = many.Adds-both

-- sums within a bound are within a greater one
pub rows-more : (m n : ℕ) → m ≤ n → (rows : List SumRow) → AreWithin m rows → AreWithin n rows
rows-more = sizes.rows-more

-- sums that so many amounts can make, more can make
pub reach-more : (m n : ℕ) → m ≤ n → (rows : List SumRow) → AreInReach m rows → AreInReach n rows
reach-more = sizes.reach-more

-- the sums of a balance are no larger than its amounts can make
pub within-sum_rows : (bound n : ℕ) (by : Option (List ℕ)) (bs : List Booked)
    → AreAmounts bound bs → AreWithin (bound * length bs) (sum_rows n by bs)
within-sum_rows = sizes.within-sum_rows

-- rows that add up records add up others with the same sums in each group
pub AddsUp-same : (by : Option (List ℕ)) (n : ℕ) (xs ys : List Booked)
    → ((g : List Value) (j : ℕ) → j < n → total by g xs j ≡ total by g ys j)
    → (rows : List SumRow) → AddsUp by n xs rows → AddsUp by n ys rows
AddsUp-same = orders.AddsUp-same

-- the sum of a group over records in order
pub total-in_order : (by : Option (List ℕ)) (g : List Value) (j : ℕ) (bs : List Booked)
    → total by g (in_order booked_cmp bs) j ≡ total by g bs j
total-in_order = orders.total-in_order

-- a balance without one document, over the records as the documents hold them
pub balance_of-others : (asked : Filter) (by : Option (List ℕ)) (cut : Cut) (skip n register : ℕ)
    (documents : List Document)
    → balance_of n (without_recorder skip (records_of register documents)) asked by cut
    ≡ balance_of n (without_recorder skip (flat_map (booked_by register) documents)) asked by cut
balance_of-others = orders.balance_of-others
