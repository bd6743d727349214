-- For the crates above: the lemmas on sums over lists, distinct keys in order, and tables.
use Rattle.std.proofs.Common.{◌≡◌, ◌≤◌, ℕ, ℤ, pos, ◌+ℤ◌, Bool, false, cond, ◌||◌, Option, List}
use Rattle.std.proofs.Common.{◌∷◌, ◌++◌, map}
use Rattle.std.proofs.Common.{true}
use Rattle.std.specs.Prelude.{IsPermutation}
use Rattle.std.specs.List.{filter, flat_map, list_any, AllByRecursion}
use Rattle.std.specs.List.Sorted.{IsStrictlySortedBy}
use Rattle.std.specs.Cmp.{IsTotalOrder}
use Rattle.std.specs.Ordering.{is_eq, is_lt}
use Rattle.std.specs.declared.cmp.Ordering.{Ordering}
use Rattle.std.proofs.lemmas.Map.Lookups.{CmpEqualImpliesEq}
use Rattle.reg_base.specs.declared.value.Value.{Value}
use Rattle.reg_base.specs.declared.records.Document.{Document}
use Rattle.reg_base.specs.declared.records.Filter.{Filter}
use Rattle.reg_base.specs.declared.tables.Unit.{Unit as TableUnit}
use Rattle.reg_base.specs.declared.tables.Range.{Range}
use Rattle.reg_base.specs.declared.tables.Method.{Method}
use Rattle.reg_base.specs.contracts.tables.UnitOrd.TheImpl.{ghosts}
use Rattle.reg_base.specs.Records.{Booked, put_once, booked_by, records_of}
use Rattle.reg_base.specs.Records.{records_within}
use Rattle.reg_base.specs.declared.cut.Cut.TheVariants.{BeforeDate}
use Rattle.reg_base.specs.Balances.{groups_of, contribution, total}
use Rattle.reg_base.specs.BookedEntries.{entered_by, entries_of}
use Rattle.reg_base.specs.Sums.{sum_over, in_order_once}
use Rattle.reg_base.specs.Turnovers.{RowKey, unit_cmp, key_cmp, unit_of_date, unit_of, in_range}
use Rattle.reg_base.specs.Turnovers.{before_unit, both_keys, turnovers_of}
use Rattle.reg_base.specs.Turnovers.{balance_and_turnovers_of}
use Rattle.reg_base.specs.TableLaws.{is_before, are_periods, SplitsRange}
use Rattle.reg_base.proofs.BalanceLemmas as balances
use Rattle.reg_base.proofs.KeyLemmas as keys
use Rattle.reg_base.proofs.OnceLemmas as onces
use Rattle.reg_base.proofs.OpeningLaws as laws
use Rattle.reg_base.proofs.OpeningLemmas as openings
use Rattle.reg_base.proofs.PartitionLemmas as partitions
use Rattle.reg_base.proofs.PermutationLemmas as permutations
use Rattle.reg_base.proofs.SumLemmas as totals
use Rattle.reg_base.proofs.TableOrder as tables

-- ---- sums

pub sum_over-append : {X : Type 0} (f : X → ℤ) (xs ys : List X)
    → sum_over f (xs ++ ys) ≡ sum_over f xs +ℤ sum_over f ys
sum_over-append = totals.sum_over-append

pub sum_over-map : {X Y : Type 0} (f : Y → ℤ) (g : X → Y) (xs : List X)
    → sum_over f (map g xs) ≡ sum_over (λ x. f (g x)) xs
sum_over-map = totals.sum_over-map

-- a sum over rows, one for each key and unit
pub sum_over-rows : {K U R : Type 0} (f : R → ℤ) (row : K → U → R) (units : List U) (keys : List K)
    → sum_over f (flat_map (λ k. map (row k) units) keys)
    ≡ sum_over (λ k. sum_over (λ u. f (row k u)) units) keys
sum_over-rows = totals.sum_over-rows

-- what adds nothing may be left out
pub sum_over-filter : {X : Type 0} (f : X → ℤ) (test : X → Bool)
    → ((x : X) → test x ≡ false → f x ≡ pos 0) → (xs : List X)
    → sum_over f (filter test xs) ≡ sum_over f xs
sum_over-filter = totals.sum_over-filter

-- a sum over what passes a test is one in which the others add nothing
pub sum_over-passed : {X : Type 0} (f : X → ℤ) (test : X → Bool) (xs : List X)
    → sum_over f (filter test xs) ≡ sum_over (λ x. cond (test x) (f x) (pos 0)) xs
sum_over-passed = totals.sum_over-passed

-- sums of what is equal at each element, whatever the list, or at those of the list
pub sum_over-same : {X : Type 0} (f g : X → ℤ) → ((x : X) → f x ≡ g x) → (xs : List X)
    → sum_over f xs ≡ sum_over g xs
sum_over-same = totals.sum_over-same

pub sum_over-all : {X : Type 0} (f g : X → ℤ) (xs : List X) → AllByRecursion (λ x. f x ≡ g x) xs
    → sum_over f xs ≡ sum_over g xs
sum_over-all = totals.sum_over-all

pub sum_over-zero : {X : Type 0} (xs : List X) → sum_over (λ x. pos 0) xs ≡ pos 0
sum_over-zero = totals.sum_over-zero

pub sum_over-cond : {X : Type 0} (b : Bool) (f : X → ℤ) (xs : List X)
    → cond b (sum_over f xs) (pos 0) ≡ sum_over (λ x. cond b (f x) (pos 0)) xs
sum_over-cond = totals.sum_over-cond

pub sum_over-plus : {X : Type 0} (f g : X → ℤ) (xs : List X)
    → sum_over (λ x. f x +ℤ g x) xs ≡ sum_over f xs +ℤ sum_over g xs
sum_over-plus = totals.sum_over-plus

-- sums of sums may be taken in either order
pub sum_over-swap : {X Y : Type 0} (f : X → Y → ℤ) (xs : List X) (ys : List Y)
    → sum_over (λ x. sum_over (f x) ys) xs ≡ sum_over (λ y. sum_over (λ x. f x y) xs) ys
sum_over-swap = totals.sum_over-swap

pub sum_over-permutation : {X : Type 0} (f : X → ℤ) (xs ys : List X) → IsPermutation xs ys
    → sum_over f xs ≡ sum_over f ys
sum_over-permutation = totals.sum_over-permutation

-- ---- distinct keys in order

module _ {K : Type 0} {R : K → K → Ordering} (o : IsTotalOrder R)
    (exact : CmpEqualImpliesEq R) where
  -- two elements may be put in either order
  pub put_once-put_once : (a b : K) (ks : List K)
      → put_once R a (put_once R b ks) ≡ put_once R b (put_once R a ks)
  put_once-put_once = onces.put_once-put_once o exact

  -- some element passes a test where the new one or one of the others does
  pub any-put_once : (test : K → Bool) (k : K) (ks : List K)
      → list_any test (put_once R k ks) ≡ (test k || list_any test ks)
  any-put_once = partitions.any-put_once o exact

  pub any-in_order_once : (test : K → Bool) (ks : List K)
      → list_any test (in_order_once R ks) ≡ list_any test ks
  any-in_order_once = partitions.any-in_order_once o exact

  pub in_order_once-rising : (ks : List K) → IsStrictlySortedBy R (in_order_once R ks)
  in_order_once-rising = partitions.in_order_once-rising o exact

  pub in_order_once-permutation : (xs ys : List K) → IsPermutation xs ys
      → in_order_once R xs ≡ in_order_once R ys
  in_order_once-permutation = partitions.in_order_once-permutation o exact

  -- of rising keys one at most is the one in question
  pub sum_over-key : (f : K → ℤ) (q : K) (ks : List K) → IsStrictlySortedBy R ks
      → sum_over (λ k. cond (is_eq (R q k)) (f k) (pos 0)) ks
      ≡ cond (list_any (λ k. is_eq (R q k)) ks) (f q) (pos 0)
  sum_over-key = partitions.sum_over-key o exact

  -- the sums at the keys, in order, of what each element adds at its own key come to the whole
  pub sum_over-partition : {X : Type 0} (key : X → K) (f : X → K → ℤ) (xs : List X)
      → sum_over (λ k. sum_over (λ x. cond (is_eq (R (key x) k)) (f x k) (pos 0)) xs)
      (in_order_once R (map key xs))
      ≡ sum_over (λ x. f x (key x)) xs
  sum_over-partition = partitions.sum_over-partition o exact

-- the elements that pass a test are the same in any order
pub IsPermutation-filter : {X : Type 0} (p : X → Bool) (xs ys : List X) → IsPermutation xs ys
    → IsPermutation (filter p xs) (filter p ys)
IsPermutation-filter = permutations.IsPermutation-filter

-- what stays where the two elements in front change places stays for a list in any order
pub value-permutation : {X Y : Type 0} (value : List X → Y)
    → ((x : X) (xs ys : List X) → value xs ≡ value ys → value (x ∷ xs) ≡ value (x ∷ ys))
    → ((x y : X) (xs : List X) → value (x ∷ y ∷ xs) ≡ value (y ∷ x ∷ xs))
    → (xs ys : List X) → IsPermutation xs ys → value xs ≡ value ys
value-permutation = permutations.value-permutation

-- ---- tables

-- the order that the code derives is the order of units
pub derived-unit_cmp : (x y : TableUnit) → ghosts.cmp x y ≡ unit_cmp x y
derived-unit_cmp = keys.derived-unit_cmp

pub unit_cmp_total : IsTotalOrder unit_cmp
unit_cmp_total = keys.unit_cmp_total

pub unit_cmp_exact : CmpEqualImpliesEq unit_cmp
unit_cmp_exact = keys.unit_cmp_exact

pub key_cmp_total : IsTotalOrder key_cmp
key_cmp_total = keys.key_cmp_total

pub key_cmp_exact : CmpEqualImpliesEq key_cmp
key_cmp_exact = keys.key_cmp_exact

pub groups_of-permutation : (by : Option (List ℕ)) (xs ys : List Booked) → IsPermutation xs ys
    → groups_of by xs ≡ groups_of by ys
groups_of-permutation = tables.groups_of-permutation

-- the sum of a group is a sum over what its records add
pub total-sum_over : (by : Option (List ℕ)) (group : List Value) (bs : List Booked) (j : ℕ)
    → total by group bs j ≡ sum_over (contribution by group j) bs
total-sum_over = tables.total-sum_over

pub total-permutation : (by : Option (List ℕ)) (group : List Value) (j : ℕ) (xs ys : List Booked)
    → IsPermutation xs ys → total by group xs j ≡ total by group ys j
total-permutation = tables.total-permutation

-- the records before a unit are those that pass a test
pub before_unit-filter : (range : Range) (unit : TableUnit) (bs : List Booked)
    → before_unit range unit bs ≡ filter (is_before range unit) bs
before_unit-filter = openings.before_unit-filter

-- the unit of a date of the range, and that of a record of the range, splits the range
pub SplitsRange-date : (range : Range) (date : ℕ) → range.from ≤ date → date ≤ range.to
    → are_periods range.by ≡ true → SplitsRange range (unit_of_date range.by date)
SplitsRange-date = openings.SplitsRange-date

pub SplitsRange-record : (range : Range) (c : Booked) → range.from ≤ c.rec.period
    → c.rec.period ≤ range.to → SplitsRange range (unit_of range.by c)
SplitsRange-record = openings.SplitsRange-record

-- so do the units of all keys of a table
pub keys-split : (group : Option (List ℕ)) (range : Range) (method : Method)
    (records : List Booked) → range.from ≤ range.to
    → AllByRecursion (λ (key : RowKey). SplitsRange range key.unit)
    (both_keys group range method records)
keys-split = laws.keys-split

-- the sum over the records before such a unit is that before the range, and that of lower units
pub sum_over-before : (range : Range) (unit : TableUnit) → SplitsRange range unit
    → (f : Booked → ℤ) (bs : List Booked)
    → sum_over f (before_unit range unit bs)
    ≡ sum_over f (records_within (BeforeDate range.from) bs)
    +ℤ sum_over (λ b. cond (is_lt (unit_cmp (unit_of range.by b) unit)) (f b) (pos 0))
    (in_range range bs)
sum_over-before = openings.sum_over-before

pub total-before : (range : Range) (unit : TableUnit) → SplitsRange range unit
    → (by : Option (List ℕ)) (group : List Value) (j : ℕ) (bs : List Booked)
    → total by group (before_unit range unit bs) j
    ≡ total by group (records_within (BeforeDate range.from) bs) j
    +ℤ sum_over (λ b. cond (is_lt (unit_cmp (unit_of range.by b) unit))
    (contribution by group j b) (pos 0)) (in_range range bs)
total-before = openings.total-before

-- tables over records in another order
pub turnovers_of-permutation : (balances : Bool) (n : ℕ) (asked : Filter)
    (group : Option (List ℕ)) (range : Range) (xs ys : List Booked) → IsPermutation xs ys
    → turnovers_of balances n xs asked group range ≡ turnovers_of balances n ys asked group range
turnovers_of-permutation = tables.turnovers_of-permutation

pub balance_and_turnovers_of-permutation : (n : ℕ) (asked : Filter) (group : Option (List ℕ))
    (range : Range) (method : Method) (xs ys : List Booked) → IsPermutation xs ys
    → balance_and_turnovers_of n xs asked group range method
    ≡ balance_and_turnovers_of n ys asked group range method
balance_and_turnovers_of-permutation = tables.balance_and_turnovers_of-permutation

-- tables over the records in order are those over them as the documents hold them
pub turnovers_of-records_of : (balances : Bool) (n register : ℕ) (documents : List Document)
    (asked : Filter) (group : Option (List ℕ)) (range : Range)
    → turnovers_of balances n (records_of register documents) asked group range
    ≡ turnovers_of balances n (flat_map (booked_by register) documents) asked group range
turnovers_of-records_of = tables.turnovers_of-records_of

pub balance_and_turnovers_of-records_of : (n register : ℕ) (documents : List Document)
    (asked : Filter) (group : Option (List ℕ)) (range : Range) (method : Method)
    → balance_and_turnovers_of n (records_of register documents) asked group range method
    ≡ balance_and_turnovers_of n (flat_map (booked_by register) documents) asked group range method
balance_and_turnovers_of-records_of = tables.balance_and_turnovers_of-records_of

-- the records of a register, and the entries of a ledger, are those of its documents
pub records_of-permutation : (register : ℕ) (documents : List Document)
    → IsPermutation (flat_map (booked_by register) documents) (records_of register documents)
records_of-permutation = balances.records_of-permutation

pub entries_of-permutation : (ledger : ℕ) (documents : List Document)
    → IsPermutation (flat_map (entered_by ledger) documents) (entries_of ledger documents)
entries_of-permutation = tables.entries_of-permutation
