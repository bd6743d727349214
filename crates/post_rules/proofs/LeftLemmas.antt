-- What is left of records is not too many records with numbers that are not too large, and so are
-- the holdings of it.
use Rattle.std.proofs.Common.{◌≡◌, ℕ, zero, suc, ◌+◌, ◌*◌, ◌≤◌, ℤ, pos, ◌+ℤ◌, unsigned_abs}
use Rattle.std.proofs.Common.{Bool, true, false, Option, Some, List, [], ◌∷◌, map}
use Rattle.std.proofs.Common.{length, arith, length-append, ◌∙◌}
use Rattle.std.specs.Prelude.{All, unwrap_or, slice_get, slice_index_or, if◌then◌else◌}
use Rattle.std.specs.List.{filter, range_with_len}
use Rattle.std.specs.Ordering.{is_eq, match_ordering}
use Rattle.std.specs.declared.cmp.Ordering.{Ordering}
use Rattle.std.specs.declared.cmp.Ordering.TheVariants.{Less, Equal, Greater}
use Rattle.std.proofs.lemmas.Int.{ints}
use Rattle.std.proofs.lemmas.List.{length-map}
use Rattle.std.proofs.lemmas.List.Sums.{length-filter, count_by-le-length}
use Rattle.std.proofs.lemmas.List.Elements.{All-nil, All-append, All-filter, All-map, All-head}
use Rattle.std.proofs.lemmas.List.Elements.{All-tail, All-weaker}
use Rattle.reg_base.specs.declared.cut.Cut.TheVariants.{BeforePoint}
use Rattle.reg_base.specs.declared.point.Point.{Point}
use Rattle.reg_base.specs.declared.records.Doc.{Doc}
use Rattle.reg_base.specs.declared.records.Filter.{Filter}
use Rattle.reg_base.specs.declared.records.Item.{Item}
use Rattle.reg_base.specs.declared.records.Mark.{Mark}
use Rattle.reg_base.specs.declared.records.Mark.TheVariants.{Receipt, Expense, Turn}
use Rattle.reg_base.specs.declared.records.Rec.{Rec}
use Rattle.reg_base.specs.declared.records.Sets.{Sets}
use Rattle.reg_base.specs.declared.records.SumRow.{SumRow}
use Rattle.reg_base.specs.declared.value.Value.{Value}
use Rattle.reg_base.specs.Numbers.{largest_units}
use Rattle.reg_base.specs.Records.{Booked, values_cmp, put_once, amount_at, signed_amount, matches}
use Rattle.reg_base.specs.Records.{without_recorder}
use Rattle.reg_base.specs.Balances.{group_of, groups_of, contribution, total, row_of, is_shown}
use Rattle.reg_base.specs.Balances.{sum_rows, balance_of}
use Rattle.cfg_model.specs.declared.config.Config.{Config}
use Rattle.post_model.specs.Scenes.{own_point}
use Rattle.post_model.specs.Lefts.{is_expense, filter_of, seen_of, left_of}
use Rattle.post_model.specs.WriteOffs.{holding_of}
use Rattle.post_model.specs.Yields.{told_apart, depth_of, holdings_of}
use Rattle.post_rules.specs.Sheets.{HasNumbers, IsSheet}
use Rattle.post_rules.specs.Bounds.{IsSmallSet, IsSmallHolding, AreSmallHoldings, largest_sum}
use Rattle.post_rules.specs.Bounds.{IsReadable}

-- ---- numbers and sums

-- a number of a list, or 0 where there is none, is no larger than all are
number-within : (limit : ℕ) (numbers : List ℤ) (j : ℕ)
    → All (λ n. unsigned_abs n ≤ limit) numbers
    → unsigned_abs (unwrap_or (slice_get numbers j) (pos 0)) ≤ limit
number-within limit [] j small = omega arith
number-within limit (n ∷ ns) zero small = All-head (λ n. unsigned_abs n ≤ limit) n ns small
number-within limit (n ∷ ns) (suc j) small =
    number-within limit ns j (All-tail (λ n. unsigned_abs n ≤ limit) n ns small)

signed-within : (mark : Mark) (n : ℤ) (limit : ℕ) → unsigned_abs n ≤ limit
    → unsigned_abs (signed_amount mark n) ≤ limit
signed-within Receipt n limit small = small
signed-within Turn n limit small = small
signed-within Expense n limit small = omega (arith, ints, small)

-- the amount of a record is no larger than its numbers
pub amount-within : (resource : ℕ) (rec : Rec) → HasNumbers rec
    → unsigned_abs (amount_at resource rec) ≤ largest_units
amount-within resource rec has =
    signed-within rec.mark (unwrap_or (slice_get rec.sums resource) (pos 0)) largest_units
    (number-within largest_units rec.sums resource has)

contribution-within : (by : Option (List ℕ)) (group : List Value) (j : ℕ) (b : Booked)
    → HasNumbers b.rec → unsigned_abs (contribution by group j b) ≤ largest_units
contribution-within by group j b has = at (is_eq (values_cmp (group_of by b) group))
  where
    at : (belongs : Bool)
        → unsigned_abs (if belongs then amount_at j b.rec else pos 0) ≤ largest_units
    at true = amount-within j b.rec has
    at false = omega arith

-- a sum is no larger than its parts are together
pub sum-within : (a b : ℤ) (m n : ℕ) → unsigned_abs a ≤ m → unsigned_abs b ≤ n
    → unsigned_abs (a +ℤ b) ≤ m + n
sum-within a b m n h k = omega (arith, ints, h, k)

total-within : (by : Option (List ℕ)) (group : List Value) (bs : List Booked) (j : ℕ)
    → All (λ b. HasNumbers b.rec) bs
    → unsigned_abs (total by group bs j) ≤ length bs * largest_units
total-within by group [] j small = omega arith
total-within by group (b ∷ bs) j small =
    let first : unsigned_abs (contribution by group j b) ≤ largest_units =
    contribution-within by group j b (All-head (λ b. HasNumbers b.rec) b bs small) in
    let rest : unsigned_abs (total by group bs j) ≤ length bs * largest_units =
    total-within by group bs j (All-tail (λ b. HasNumbers b.rec) b bs small) in
    omega (
      arith,
      sum-within (contribution by group j b) (total by group bs j) largest_units
          (length bs * largest_units) first rest,
    )

-- ---- rows and holdings

length-put_once : (x : List Value) (ys : List (List Value))
    → length (put_once values_cmp x ys) ≤ suc (length ys)
length-put_once x [] = omega arith
length-put_once x (y ∷ ys) = at (length-put_once x ys) (values_cmp x y)
  where
    at : length (put_once values_cmp x ys) ≤ suc (length ys) → (r : Ordering)
        → length (match_ordering r (x ∷ y ∷ ys) (y ∷ ys) (y ∷ put_once values_cmp x ys))
        ≤ suc (suc (length ys))
    at ih Less = omega arith
    at ih Equal = omega arith
    at ih Greater = omega (arith, ih)

length-groups_of : (by : Option (List ℕ)) (bs : List Booked)
    → length (groups_of by bs) ≤ length bs
length-groups_of by [] = omega arith
length-groups_of by (b ∷ bs) =
    omega (arith, length-put_once (group_of by b) (groups_of by bs), length-groups_of by bs)

-- a part of a list is no longer
pub length-filter_le : {X : Type 0} (test : X → Bool) (xs : List X)
    → length (filter test xs) ≤ length xs
length-filter_le test xs = omega (arith, length-filter test xs, count_by-le-length test xs)

length-sum_rows : (n : ℕ) (by : Option (List ℕ)) (bs : List Booked)
    → length (sum_rows n by bs) ≤ length bs
unfolding sum_rows
length-sum_rows n by bs =
    omega (
      arith,
      length-filter_le is_shown (map (row_of n by bs) (groups_of by bs)),
      length-map (groups_of by bs) (row_of n by bs),
      length-groups_of by bs,
    )

-- the sums of a row are small
abbrev IsSmallRow : SumRow → Type 0
IsSmallRow row = All (λ n. unsigned_abs n ≤ largest_sum) row.sums

small-row_of : (n : ℕ) (by : Option (List ℕ)) (bs : List Booked) (group : List Value)
    → IsReadable bs → IsSmallRow (row_of n by bs group)
small-row_of n by bs group readable =
    All-map (λ n. unsigned_abs n ≤ largest_sum) (total by group bs) (range_with_len 0 n)
    (λ k d below. within (slice_index_or (range_with_len 0 n) k d))
  where
    within : (j : ℕ) → unsigned_abs (total by group bs j) ≤ largest_sum
    within j = omega (arith, total-within by group bs j readable.small, readable.few)

small-sum_rows : (n : ℕ) (by : Option (List ℕ)) (bs : List Booked) → IsReadable bs
    → All IsSmallRow (sum_rows n by bs)
unfolding sum_rows
small-sum_rows n by bs readable =
    All-filter is_shown IsSmallRow (map (row_of n by bs) (groups_of by bs))
    (All-map IsSmallRow (row_of n by bs) (groups_of by bs)
    (λ k d below. small-row_of n by bs (slice_index_or (groups_of by bs) k d) readable))

small-holding_of : (quantity amount : ℕ) (row : SumRow) → IsSmallRow row
    → IsSmallHolding (holding_of quantity amount row)
small-holding_of quantity amount row small = record {
  quantity_within = number-within largest_sum row.sums quantity small;
  amount_within = number-within largest_sum row.sums amount small;
}

-- the holdings of what is left are small
pub AreSmall-holdings_of : (config : Config) (fifo : Bool) (register quantity amount : ℕ)
    (left : List Booked) → IsReadable left
    → AreSmallHoldings (holdings_of config fifo register quantity amount left)
AreSmall-holdings_of config fifo register quantity amount left readable =
    let n : ℕ = depth_of config register in
    let by : Option (List ℕ) = Some (told_apart config register fifo) in
    record {
      few = omega (
        arith,
        length-map (sum_rows n by left) (holding_of quantity amount),
        length-sum_rows n by left,
        readable.few,
      );
      small = All-map IsSmallHolding (holding_of quantity amount) (sum_rows n by left)
          (All-weaker IsSmallRow (λ row. IsSmallHolding (holding_of quantity amount row))
          (small-holding_of quantity amount) (sum_rows n by left)
          (small-sum_rows n by left readable));
    }

-- ---- what is left

IsSheet-filter : (test : Booked → Bool) (bs : List Booked) → IsSheet bs → IsSheet (filter test bs)
IsSheet-filter test bs sheet = record {
  few = omega (arith, length-filter_le test bs, sheet.few);
  small = All-filter test (λ b. HasNumbers b.rec) bs sheet.small;
}

-- what a document sees of a sheet is a sheet
pub IsSheet-seen_of : (books : ℕ → List Booked) (doc : Doc) (item : Item)
    → IsSheet (books item.space) → IsSheet (seen_of books doc item)
IsSheet-seen_of books doc item sheet =
    IsSheet-filter _ _ (IsSheet-filter _ _ (IsSheet-filter _ _ sheet))

-- the rows of what a document sees, as a balance
pub seen-rows : (books : ℕ → List Booked) (doc : Doc) (item : Item) (by : List ℕ)
    (resources depth : ℕ) (asked : Filter) (point : Point) (rows : List SumRow)
    → rows ≡ balance_of resources (without_recorder doc.number (books item.space)) asked (Some by)
    (BeforePoint point)
    → resources ≡ depth → asked ≡ filter_of item → point ≡ own_point doc
    → rows ≡ sum_rows depth (Some by) (seen_of books doc item)
seen-rows books doc item by resources depth asked point rows is deep same own =
    is ∙ (λ i. balance_of (deep i) (without_recorder doc.number (books item.space)) (same i)
    (Some by) (BeforePoint (own i)))

-- the set of a register, or an empty one
pub small-place : (sets : List (List Rec)) (place : ℕ) → All IsSmallSet sets
    → IsSmallSet (unwrap_or (slice_get sets place) [])
small-place [] place small = record { few = omega arith; small = All-nil HasNumbers }
small-place (s ∷ ss) zero small = All-head IsSmallSet s ss small
small-place (s ∷ ss) (suc place) small = small-place ss place (All-tail IsSmallSet s ss small)

-- what is left can be read
pub IsReadable-left_of : (books : ℕ → List Booked) (doc : Doc) (sets : Sets) (item : Item)
    → IsSheet (books item.space) → All IsSmallSet sets.registers
    → IsReadable (left_of books doc sets item)
unfolding left_of
IsReadable-left_of books doc sets item sheet small =
    let seen : IsSheet (seen_of books doc item) = IsSheet-seen_of books doc item sheet in
    let recs : List Rec = unwrap_or (slice_get sets.registers item.space) [] in
    let set : IsSmallSet recs = small-place sets.registers item.space small in
    let own : Rec → Booked = λ r. record { recorder = doc.number; rec = r } in
    let spent : List Rec = filter (λ r. is_expense r.mark) recs in
    let asked : Booked → Bool = λ b. matches (filter_of item) b.rec.values in
    record {
      few = omega (
        arith,
        length-append (seen_of books doc item) (filter asked (map own spent)),
        seen.few,
        length-filter_le asked (map own spent),
        length-map spent own,
        length-filter_le (λ (r : Rec). is_expense r.mark) recs,
        set.few,
      );
      small = All-append (λ b. HasNumbers b.rec) (seen_of books doc item)
          (filter asked (map own spent)) seen.small
          (All-filter asked (λ b. HasNumbers b.rec) (map own spent)
          (All-map (λ b. HasNumbers b.rec) own spent
          (All-filter (λ (r : Rec). is_expense r.mark) HasNumbers recs set.small)));
    }
