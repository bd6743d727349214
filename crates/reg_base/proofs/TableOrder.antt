-- Tables of registers do not depend on the order of the records, and their rows close.
use Rattle.std.proofs.Common.{◌≡◌, ℕ, ℤ, pos, ◌+ℤ◌, Bool, true, cond, max, Option, List, [], ◌∷◌}
use Rattle.std.proofs.Common.{◌++◌}
use Rattle.std.proofs.Common.{map, refl, ap, ◌∙◌, sym, nat_le, ◌&&◌}
use Rattle.std.specs.Prelude.{IsPermutation}
use Rattle.std.specs.List.{filter, flat_map, range_with_len, All}
use Rattle.std.specs.Ordering.{ordering_then, is_lt, nat_cmp}
use Rattle.std.proofs.lemmas.List.Elements.{All-filter, All-map}
use Rattle.std.proofs.lemmas.List.Sorted.{IsPermutation-map, IsPermutation-append_left}
use Rattle.reg_base.specs.declared.value.Value.{Value}
use Rattle.reg_base.specs.declared.records.Document.{Document}
use Rattle.reg_base.specs.declared.records.Filter.{Filter}
use Rattle.reg_base.specs.declared.records.Rec.{Rec}
use Rattle.reg_base.specs.declared.cut.Cut.TheVariants.{BeforeDate, BeforePoint}
use Rattle.reg_base.specs.declared.tables.Periodicity.{Periodicity}
use Rattle.reg_base.specs.declared.tables.Unit.{Unit as TableUnit}
use Rattle.reg_base.specs.declared.tables.Unit.TheVariants.{Whole, Start, At, Line}
use Rattle.reg_base.specs.declared.tables.Range.{Range}
use Rattle.reg_base.specs.declared.tables.Method.{Method}
use Rattle.reg_base.specs.Points.{point_cmp}
use Rattle.reg_base.specs.Cuts.{inside}
use Rattle.reg_base.specs.Records.{Booked, values_cmp, point_of, amount_at, booked_by, records_of}
use Rattle.reg_base.specs.Records.{put_once}
use Rattle.reg_base.specs.Records.{matches, chosen_records}
use Rattle.reg_base.specs.Balances.{group_of, groups_of, contribution, total, row_of}
use Rattle.reg_base.specs.BookedEntries.{entry_cmp, entered_by, entries_of}
use Rattle.reg_base.specs.Sums.{sum_over, in_order_once}
use Rattle.reg_base.specs.Turnovers.{RowKey, key_cmp, key_of, in_range, receipt_at, expense_at}
use Rattle.reg_base.specs.Turnovers.{sums_where, is_of, turnover_row, has_movement, turnover_rows}
use Rattle.reg_base.specs.Turnovers.{turnovers_of, before_unit, edge_units, both_keys}
use Rattle.reg_base.specs.Turnovers.{with_balances}
use Rattle.reg_base.specs.Turnovers.{both_row, stands, both_rows, balance_and_turnovers_of}
use Rattle.reg_base.specs.TableLaws.{Closes}
use Rattle.reg_base.proofs.OrderLemmas.{values_cmp_total, values_cmp_exact}
use Rattle.reg_base.proofs.OnceLemmas.{put_once-put_once}
use Rattle.reg_base.proofs.KeyLemmas.{key_cmp_total, key_cmp_exact}
use Rattle.reg_base.proofs.PermutationLemmas.{value-permutation, IsPermutation-filter}
use Rattle.reg_base.proofs.PermutationLemmas.{IsPermutation-in_order}
use Rattle.reg_base.proofs.SumLemmas.{sum_over-permutation}
use Rattle.reg_base.proofs.PartitionLemmas.{in_order_once-permutation}
use Rattle.reg_base.proofs.BalanceLemmas.{records_of-permutation}

-- ---- groups and sums of balances

pub groups_of-permutation : (by : Option (List ℕ)) (xs ys : List Booked) → IsPermutation xs ys
    → groups_of by xs ≡ groups_of by ys
groups_of-permutation by =
    value-permutation (groups_of by)
    (λ b xs ys h. ap (put_once values_cmp (group_of by b)) h)
    (λ a b bs. put_once-put_once values_cmp_total values_cmp_exact (group_of by a) (group_of by b)
    (groups_of by bs))

-- the sum of a group is a sum over what its records add
pub total-sum_over : (by : Option (List ℕ)) (group : List Value) (bs : List Booked) (j : ℕ)
    → total by group bs j ≡ sum_over (contribution by group j) bs
total-sum_over by group [] j = refl
total-sum_over by group (b ∷ bs) j =
    ap (λ t. contribution by group j b +ℤ t) (total-sum_over by group bs j)

pub total-permutation : (by : Option (List ℕ)) (group : List Value) (j : ℕ) (xs ys : List Booked)
    → IsPermutation xs ys → total by group xs j ≡ total by group ys j
total-permutation by group j xs ys same =
    total-sum_over by group xs j
    ∙ sum_over-permutation (contribution by group j) xs ys same
    ∙ sym (total-sum_over by group ys j)

-- each group with both ends of the range
abbrev edges : Method → Range → List (List Value) → List RowKey
edges method range groups =
    flat_map (λ g. map (λ u. record { group = g; unit = u }) (edge_units method range)) groups

-- ---- turnovers

module _ (xs ys : List Booked) (same : IsPermutation xs ys) where
  in_range-permutation : (range : Range) → IsPermutation (in_range range xs) (in_range range ys)
  in_range-permutation range =
      IsPermutation-filter (λ b. nat_le range.from b.rec.period && nat_le b.rec.period range.to)
      xs ys same

  chosen-permutation : (asked : Filter)
      → IsPermutation (chosen_records asked xs) (chosen_records asked ys)
  chosen-permutation asked = IsPermutation-filter (λ b. matches asked b.rec.values) xs ys same

  sums_where-permutation : (n : ℕ) (test : Booked → Bool) (amount : ℕ → Rec → ℤ)
      → sums_where n test amount xs ≡ sums_where n test amount ys
  sums_where-permutation n test amount =
      λ i. map
      (λ j. sum_over-permutation (λ b. cond (test b) (amount j b.rec) (pos 0)) xs ys same i)
      (range_with_len 0 n)

  turnover_row-permutation : (balances : Bool) (n : ℕ) (group : Option (List ℕ)) (by : Periodicity)
      (key : RowKey)
      → turnover_row balances n group by xs key ≡ turnover_row balances n group by ys key
  turnover_row-permutation balances n group by key =
      λ i. record {
        group = key.group;
        unit = key.unit;
        opening = [];
        receipt =
            cond balances (sums_where-permutation n (is_of group by key) receipt_at i) [];
        expense =
            cond balances (sums_where-permutation n (is_of group by key) expense_at i) [];
        turnover = sums_where-permutation n (is_of group by key) amount_at i;
        closing = [];
      }

  keys-permutation : (group : Option (List ℕ)) (by : Periodicity)
      → in_order_once key_cmp (map (key_of group by) xs)
      ≡ in_order_once key_cmp (map (key_of group by) ys)
  keys-permutation group by =
      in_order_once-permutation key_cmp_total key_cmp_exact (map (key_of group by) xs)
      (map (key_of group by) ys) (IsPermutation-map (key_of group by) xs ys same)

  turnover_rows-permutation : (balances : Bool) (n : ℕ) (group : Option (List ℕ))
      (by : Periodicity) → turnover_rows balances n group by xs
      ≡ turnover_rows balances n group by ys
  unfolding turnover_rows
  turnover_rows-permutation balances n group by =
      λ i. filter has_movement
      (map (λ key. turnover_row-permutation balances n group by key i)
      (keys-permutation group by i))

  -- ---- balances with turnovers

  before_unit-permutation : (range : Range) (unit : TableUnit)
      → IsPermutation (before_unit range unit xs) (before_unit range unit ys)
  before_unit-permutation range Whole =
      IsPermutation-filter (λ b. inside (BeforeDate range.from) (point_of b)) xs ys same
  before_unit-permutation range (Start d) =
      IsPermutation-filter (λ b. inside (BeforeDate (max range.from d)) (point_of b)) xs ys same
  before_unit-permutation range (At p) =
      IsPermutation-filter (λ b. inside (BeforePoint p) (point_of b)) xs ys same
  before_unit-permutation range (Line p l) =
      IsPermutation-filter
      (λ b. is_lt (ordering_then (point_cmp (point_of b) p) (nat_cmp b.rec.line l))) xs ys same

  both_keys-permutation : (group : Option (List ℕ)) (range : Range) (method : Method)
      → both_keys group range method xs ≡ both_keys group range method ys
  both_keys-permutation group range method =
      in_order_once-permutation key_cmp_total key_cmp_exact
      (map (key_of group range.by) (in_range range xs) ++ edges method range (groups_of group xs))
      (map (key_of group range.by) (in_range range ys) ++ edges method range (groups_of group xs))
      (IsPermutation-append_left (edges method range (groups_of group xs))
      (map (key_of group range.by) (in_range range xs))
      (map (key_of group range.by) (in_range range ys))
      (IsPermutation-map (key_of group range.by) (in_range range xs) (in_range range ys)
      (in_range-permutation range)))
      ∙ ap (λ gs. in_order_once key_cmp
      (map (key_of group range.by) (in_range range ys) ++ edges method range gs))
      (groups_of-permutation group xs ys same)

pub turnovers_of-permutation : (balances : Bool) (n : ℕ) (asked : Filter)
    (group : Option (List ℕ)) (range : Range) (xs ys : List Booked) → IsPermutation xs ys
    → turnovers_of balances n xs asked group range ≡ turnovers_of balances n ys asked group range
turnovers_of-permutation balances n asked group range xs ys same =
    turnover_rows-permutation (in_range range (chosen_records asked xs))
    (in_range range (chosen_records asked ys))
    (in_range-permutation (chosen_records asked xs) (chosen_records asked ys)
    (chosen-permutation xs ys same asked) range)
    balances n group range.by

both_row-permutation : (n : ℕ) (group : Option (List ℕ)) (range : Range) (key : RowKey)
    (xs ys : List Booked) → IsPermutation xs ys
    → both_row n group range xs key ≡ both_row n group range ys key
both_row-permutation n group range key xs ys same =
    let before = before_unit-permutation xs ys same range key.unit in
    let opening : (row_of n group (before_unit range key.unit xs) key.group).sums
    ≡ (row_of n group (before_unit range key.unit ys) key.group).sums =
    λ i. map
    (λ j. total-permutation group key.group j (before_unit range key.unit xs)
    (before_unit range key.unit ys) before i)
    (range_with_len 0 n) in
    let row = turnover_row-permutation (in_range range xs) (in_range range ys)
    (in_range-permutation xs ys same range) true n group range.by key in
    λ i. with_balances (opening i) (row i)

both_rows-permutation : (n : ℕ) (group : Option (List ℕ)) (range : Range) (method : Method)
    (xs ys : List Booked) → IsPermutation xs ys
    → both_rows n group range method xs ≡ both_rows n group range method ys
unfolding both_rows
both_rows-permutation n group range method xs ys same =
    λ i. filter (stands (edge_units method range))
    (map (λ key. both_row-permutation n group range key xs ys same i)
    (both_keys-permutation xs ys same group range method i))

pub balance_and_turnovers_of-permutation : (n : ℕ) (asked : Filter) (group : Option (List ℕ))
    (range : Range) (method : Method) (xs ys : List Booked) → IsPermutation xs ys
    → balance_and_turnovers_of n xs asked group range method
    ≡ balance_and_turnovers_of n ys asked group range method
balance_and_turnovers_of-permutation n asked group range method xs ys same =
    both_rows-permutation n group range method (chosen_records asked xs) (chosen_records asked ys)
    (chosen-permutation xs ys same asked)

-- tables over the records in order are those over them as the documents hold them
pub turnovers_of-records_of : (balances : Bool) (n register : ℕ) (documents : List Document)
    (asked : Filter) (group : Option (List ℕ)) (range : Range)
    → turnovers_of balances n (records_of register documents) asked group range
    ≡ turnovers_of balances n (flat_map (booked_by register) documents) asked group range
turnovers_of-records_of balances n register documents asked group range =
    sym (turnovers_of-permutation balances n asked group range
    (flat_map (booked_by register) documents) (records_of register documents)
    (records_of-permutation register documents))

pub balance_and_turnovers_of-records_of : (n register : ℕ) (documents : List Document)
    (asked : Filter) (group : Option (List ℕ)) (range : Range) (method : Method)
    → balance_and_turnovers_of n (records_of register documents) asked group range method
    ≡ balance_and_turnovers_of n (flat_map (booked_by register) documents) asked group range method
balance_and_turnovers_of-records_of n register documents asked group range method =
    sym (balance_and_turnovers_of-permutation n asked group range method
    (flat_map (booked_by register) documents) (records_of register documents)
    (records_of-permutation register documents))

-- the entries of a ledger are those of its documents
pub entries_of-permutation : (ledger : ℕ) (documents : List Document)
    → IsPermutation (flat_map (entered_by ledger) documents) (entries_of ledger documents)
entries_of-permutation ledger documents =
    IsPermutation-in_order entry_cmp (flat_map (entered_by ledger) documents)

-- ---- closings

-- each row of balances with turnovers closes
pub rows_close : (n : ℕ) (records : List Booked) (asked : Filter) (group : Option (List ℕ))
    (range : Range) (method : Method)
    → All Closes (balance_and_turnovers_of n records asked group range method)
unfolding both_rows
rows_close n records asked group range method =
    let chosen = chosen_records asked records in
    All-filter (stands (edge_units method range)) Closes
    (map (both_row n group range chosen) (both_keys group range method chosen))
    (All-map Closes (both_row n group range chosen) (both_keys group range method chosen)
    (λ k d lt. refl))
