-- Whatever the units, the rows of a group sum to what the records of the group add.
use Rattle.std.proofs.Common.{◌≡◌, ℕ, zero, suc, ℤ, pos, ◌+ℤ◌, Bool, true, false, cond, ◌&&◌, ◌||◌}
use Rattle.std.proofs.Common.{not, nat_lt, Option, Some, option_map, unwrap_or, List, [], ◌∷◌}
use Rattle.std.proofs.Common.{map, refl, ap, ◌∙◌, sym, arith, inl, inr, subst}
use Rattle.std.specs.List.{filter, find, range_with_len, slice_get, AllByRecursion}
use Rattle.std.specs.List.Sorted.{IsStrictlySortedBy}
use Rattle.std.specs.Ordering.{is_eq, int_eq, match_ordering, ordering_then, ordering_reverse}
use Rattle.std.specs.declared.cmp.Ordering.{Ordering}
use Rattle.std.specs.declared.cmp.Ordering.TheVariants.{Less, Equal, Greater}
use Rattle.std.proofs.lemmas.Bool.{cases_lt, lt-ltb, le-ltb, or_parts, not-false}
use Rattle.std.proofs.lemmas.Bool.Decides.{Decides-int_eq}
use Rattle.std.proofs.lemmas.Int.{ints}
use Rattle.std.proofs.lemmas.Simd.{map-map}
use Rattle.std.proofs.lemmas.Option.{unwrap_or-slice_get, slice_get_past}
use Rattle.std.proofs.lemmas.List.FromFn.{get_or-map-range_with_len, length-map-range_with_len}
use Rattle.reg_base.specs.declared.value.Value.{Value}
use Rattle.reg_base.specs.declared.records.Rec.{Rec}
use Rattle.reg_base.specs.declared.tables.Periodicity.{Periodicity}
use Rattle.reg_base.specs.declared.tables.Periodicity.TheVariants.{Period}
use Rattle.reg_base.specs.declared.tables.Unit.TheVariants.{Whole}
use Rattle.reg_base.specs.declared.tables.Row.{Row}
use Rattle.reg_base.specs.Records.{Booked, values_cmp, put_once, amount_at, chosen_records}
use Rattle.reg_base.specs.Balances.{group_of}
use Rattle.reg_base.specs.Sums.{sum_over, in_order_once, has_number}
use Rattle.reg_base.specs.Turnovers.{RowKey, key_cmp, key_of, in_range, receipt_at, expense_at}
use Rattle.reg_base.specs.Turnovers.{sums_where, is_of, turnover_row, has_movement, turnover_rows}
use Rattle.reg_base.specs.TableLaws.{row_number, is_of_group, group_sum, first_in, UnitsAddUp}
use Rattle.reg_base.proofs.OrderLemmas.{values_cmp_total, values_cmp_exact}
use Rattle.reg_base.proofs.KeyLemmas.{key_cmp_total, key_cmp_exact}
use Rattle.reg_base.proofs.SumLemmas.{sum_over-map, sum_over-filter, sum_over-same}
use Rattle.reg_base.proofs.SumLemmas.{zero_first}
use Rattle.reg_base.proofs.PartitionLemmas.{in_order_once-rising, sum_over-partition}

-- ---- one number of a row

-- the number at a place of numbers made from a function, if they are there
number_made : (counted : Bool) (f : ℕ → ℤ) (n j : ℕ)
    → unwrap_or (slice_get (cond counted (map f (range_with_len 0 n)) []) j) (pos 0)
    ≡ cond (counted && nat_lt j n) (f j) (pos 0)
number_made false f n j = refl
number_made true f n j =
    elim (cases_lt j n) [
      | inl lt ↦
          unwrap_or-slice_get (map f (range_with_len 0 n)) j (pos 0)
          ∙ get_or-map-range_with_len f 0 n j j (pos 0) lt (omega arith)
          ∙ ap (λ b. cond b (f j) (pos 0)) (sym (lt-ltb j n lt))
      | inr ge ↦
          ap (λ o. unwrap_or o (pos 0))
          (slice_get_past (map f (range_with_len 0 n)) j
          (omega (arith, length-map-range_with_len f 0 n)))
          ∙ ap (λ b. cond b (f j) (pos 0)) (sym (le-ltb j n ge))
    ]

-- where no number is other than nothing, the one at a place is nothing
no_number : (numbers : List ℤ) (j : ℕ) → has_number numbers ≡ false
    → unwrap_or (slice_get numbers j) (pos 0) ≡ pos 0
no_number [] j none = refl
no_number (n ∷ ns) zero none =
    (Decides-int_eq n (pos 0)).0
    (not-false (int_eq n (pos 0)) (or_parts (not (int_eq n (pos 0))) (has_number ns) none).0)
no_number (n ∷ ns) (suc j) none =
    no_number ns j (or_parts (not (int_eq n (pos 0))) (has_number ns) none).1

-- ---- the sum over the rows of a group

nothing : {X : Type 0} (test : X → Bool) (xs : List X)
    → pos 0 ≡ sum_over (λ x. cond (test x) (pos 0) (pos 0)) xs
nothing test [] = refl
nothing test (x ∷ xs) = at (test x) ∙ ap (λ t. cond (test x) (pos 0) (pos 0) +ℤ t) (nothing test xs)
  where
    at : (b : Bool) → pos 0 ≡ cond b (pos 0) (pos 0) +ℤ pos 0
    at true = refl
    at false = refl

-- a test may be asked of the whole sum or of each part
test_inside : {X : Type 0} (a l : Bool) (test : X → Bool) (f : X → ℤ) (xs : List X)
    → cond a (cond l (sum_over (λ x. cond (test x) (f x) (pos 0)) xs) (pos 0)) (pos 0)
    ≡ sum_over (λ x. cond (test x) (cond a (cond l (f x) (pos 0)) (pos 0)) (pos 0)) xs
test_inside true true test f xs = refl
test_inside {X} true false test f xs = nothing test xs
test_inside {X} false l test f xs = nothing test xs

module _ (column : Row → List ℤ) (amount : ℕ → Rec → ℤ) (counted : Bool)
    (balances : Bool) (resources : ℕ) (by : Option (List ℕ)) (records : List Booked)
    (made : (p : Periodicity) (key : RowKey)
    → column (turnover_row balances resources by p records key)
    ≡ cond counted (sums_where resources (is_of by p key) amount records) [])
    (quiet : (row : Row) → has_movement row ≡ false → has_number (column row) ≡ false)
    (group : List Value) (j : ℕ) where
  -- what a record adds to the group
  part : Booked → ℤ
  part b =
      cond (is_eq (values_cmp (group_of by b) group))
      (cond (counted && nat_lt j resources) (amount j b.rec) (pos 0)) (pos 0)

  -- what a row adds
  share : Row → ℤ
  share row = cond (is_of_group group row) (row_number column j row) (pos 0)

  share-quiet : (row : Row) → has_movement row ≡ false → share row ≡ pos 0
  unfolding share
  share-quiet row none =
      ap (λ n. cond (is_of_group group row) n (pos 0)) (no_number (column row) j (quiet row none))
      ∙ either (is_of_group group row)
    where
      either : (b : Bool) → cond b (pos 0) (pos 0) ≡ pos 0
      either true = refl
      either false = refl

  module _ (p : Periodicity) where
    -- the row of a key adds what its records add to the group
    share-key : (key : RowKey) → share (turnover_row balances resources by p records key)
        ≡ sum_over (λ b. cond (is_eq (key_cmp (key_of by p b) key))
        (cond (is_eq (values_cmp key.group group))
        (cond (counted && nat_lt j resources) (amount j b.rec) (pos 0)) (pos 0)) (pos 0)) records
    unfolding share
    share-key key =
        ap (λ ns. cond (is_eq (values_cmp key.group group)) (unwrap_or (slice_get ns j) (pos 0))
        (pos 0)) (made p key)
        ∙ ap (λ n. cond (is_eq (values_cmp key.group group)) n (pos 0))
        (number_made counted
        (λ n. sum_over (λ b. cond (is_of by p key b) (amount n b.rec) (pos 0)) records) resources j)
        ∙ test_inside (is_eq (values_cmp key.group group)) (counted && nat_lt j resources)
        (is_of by p key) (λ b. amount j b.rec) records

    -- the rows of a group sum to what its records add
    sum-part : sum_over share (turnover_rows balances resources by p records)
        ≡ sum_over part records
    unfolding turnover_rows part
    sum-part =
        let keys = in_order_once key_cmp (map (key_of by p) records) in
        let row = turnover_row balances resources by p records in
        sum_over-filter share has_movement share-quiet (map row keys)
        ∙ sum_over-map share row keys
        ∙ sum_over-same (λ k. share (row k)) _ share-key keys
        ∙ sum_over-partition key_cmp_total key_cmp_exact (key_of by p)
        (λ b key. cond (is_eq (values_cmp key.group group))
        (cond (counted && nat_lt j resources) (amount j b.rec) (pos 0)) (pos 0)) records

-- ---- the rows over the whole range

-- the key of a group over the whole range
abbrev whole : List Value → RowKey
whole g = record { group = g; unit = Whole }

put_once-whole : (g : List Value) (gs : List (List Value))
    → put_once key_cmp (whole g) (map whole gs) ≡ map whole (put_once values_cmp g gs)
put_once-whole g [] = refl
put_once-whole g (h ∷ hs) = at (values_cmp g h) (put_once-whole g hs)
  where
    at : (r : Ordering)
        → put_once key_cmp (whole g) (map whole hs) ≡ map whole (put_once values_cmp g hs)
        → match_ordering (ordering_then r Equal) (whole g ∷ map whole (h ∷ hs))
        (map whole (h ∷ hs)) (whole h ∷ put_once key_cmp (whole g) (map whole hs))
        ≡ map whole (match_ordering r (g ∷ h ∷ hs) (h ∷ hs) (h ∷ put_once values_cmp g hs))
    at Less ih = refl
    at Equal ih = refl
    at Greater ih = ap (λ ks. whole h ∷ ks) ih

-- over the whole range the keys are the groups
keys-whole : (by : Option (List ℕ)) (records : List Booked)
    → in_order_once key_cmp (map (key_of by Period) records)
    ≡ map whole (in_order_once values_cmp (map (group_of by) records))
keys-whole by [] = refl
keys-whole by (b ∷ bs) =
    ap (put_once key_cmp (whole (group_of by b))) (keys-whole by bs)
    ∙ put_once-whole (group_of by b) (in_order_once values_cmp (map (group_of by) bs))

Equal-is : (r : Ordering) → is_eq r ≡ true → r ≡ Equal
Equal-is Less e = cc
Equal-is Equal e = refl
Equal-is Greater e = cc

reversed : (r s : Ordering) → r ≡ ordering_reverse s → s ≡ Less → is_eq r ≡ false
reversed r s h e = ap (λ x. is_eq x) (h ∙ ap ordering_reverse e)

module _ (row : List Value → Row) (same : (g : List Value) → (row g).group ≡ g)
    (test : Row → Bool) (num : Row → ℤ) (group : List Value) where
  counted_row : Row → ℤ
  counted_row r = cond (is_of_group group r) (num r) (pos 0)

  -- groups behind the one in question add nothing
  none-behind : (first : List Value) → first ≡ group → (gs : List (List Value))
      → AllByRecursion (λ g. values_cmp first g ≡ Less) gs
      → sum_over counted_row (filter test (map row gs)) ≡ pos 0
  unfolding counted_row
  none-behind first is [] all = refl
  none-behind first is (g ∷ gs) all = at (none-behind first is gs all.1) (test (row g))
    where
      rest : ℤ
      rest = sum_over counted_row (filter test (map row gs))

      other : is_of_group group (row g) ≡ false
      other =
          ap (λ x. is_eq (values_cmp x group)) (same g)
          ∙ reversed (values_cmp g group) (values_cmp group g)
          (values_cmp_total.antisymm g group)
          (ap (λ x. values_cmp x g) (sym is) ∙ all.0)

      at : rest ≡ pos 0 → (b : Bool)
          → sum_over counted_row (cond b (row g ∷ filter test (map row gs))
          (filter test (map row gs))) ≡ pos 0
      at ih true =
          ap (λ b. cond b (num (row g)) (pos 0) +ℤ rest) other ∙ zero_first rest ∙ ih
      at ih false = ih

  -- of rising groups one row at most is the group's
  sum-first : (gs : List (List Value)) → IsStrictlySortedBy values_cmp gs
      → sum_over counted_row (filter test (map row gs))
      ≡ unwrap_or (option_map num (find (is_of_group group) (filter test (map row gs)))) (pos 0)
  unfolding IsStrictlySortedBy counted_row
  sum-first [] rising = refl
  sum-first (g ∷ gs) rising = at (sum-first gs rising.1) (test (row g))
    where
      rest : List Row
      rest = filter test (map row gs)

      number : Option Row → ℤ
      number found = unwrap_or (option_map num found) (pos 0)

      alone : sum_over counted_row rest ≡ pos 0 → num (row g) +ℤ sum_over counted_row rest
          ≡ num (row g)
      alone none = omega (arith, ints)

      in_front : sum_over counted_row rest ≡ number (find (is_of_group group) rest) → (of : Bool)
          → is_of_group group (row g) ≡ of
          → cond of (num (row g)) (pos 0) +ℤ sum_over counted_row rest
          ≡ number (cond of (Some (row g)) (find (is_of_group group) rest))
      in_front ih true e =
          alone (none-behind g
          (sym (same g) ∙ values_cmp_exact (row g).group group
          (Equal-is (values_cmp (row g).group group) e))
          gs rising.0)
      in_front ih false e = zero_first (sum_over counted_row rest) ∙ ih

      at : sum_over counted_row rest ≡ number (find (is_of_group group) rest) → (b : Bool)
          → sum_over counted_row (cond b (row g ∷ rest) rest)
          ≡ number (find (is_of_group group) (cond b (row g ∷ rest) rest))
      at ih true = in_front ih (is_of_group group (row g)) refl
      at ih false = ih

-- ---- the law

module _ (column : Row → List ℤ) (amount : ℕ → Rec → ℤ) (counts : Bool → Bool)
    (made : (balances : Bool) (resources : ℕ) (by : Option (List ℕ)) (records : List Booked)
    (p : Periodicity) (key : RowKey)
    → column (turnover_row balances resources by p records key)
    ≡ cond (counts balances) (sums_where resources (is_of by p key) amount records) [])
    (quiet : (row : Row) → has_movement row ≡ false → has_number (column row) ≡ false) where
  -- the rows of any units sum to those of any other
  rows-agree : (balances : Bool) (resources : ℕ) (by : Option (List ℕ)) (records : List Booked)
      (group : List Value) (j : ℕ) (p q : Periodicity)
      → group_sum column j group (turnover_rows balances resources by p records)
      ≡ group_sum column j group (turnover_rows balances resources by q records)
  unfolding share
  rows-agree balances resources by records group j p q =
      sum-part column amount (counts balances) balances resources by records
      (made balances resources by records) quiet group j p
      ∙ sym (sum-part column amount (counts balances) balances resources by records
      (made balances resources by records) quiet group j q)

  -- over the whole range the sum is the first row's number
  rows-first : (balances : Bool) (resources : ℕ) (by : Option (List ℕ)) (records : List Booked)
      (group : List Value) (j : ℕ)
      → group_sum column j group (turnover_rows balances resources by Period records)
      ≡ first_in column j group (turnover_rows balances resources by Period records)
  unfolding turnover_rows counted_row
  rows-first balances resources by records group j =
      let row = λ (key : RowKey). turnover_row balances resources by Period records key in
      let groups = in_order_once values_cmp (map (group_of by) records) in
      subst
      (λ (keys : List RowKey). group_sum column j group (filter has_movement (map row keys))
      ≡ first_in column j group (filter has_movement (map row keys)))
      (sym (keys-whole by records))
      (subst
      (λ (rows : List Row). group_sum column j group (filter has_movement rows)
      ≡ first_in column j group (filter has_movement rows))
      (sym (map-map row whole groups))
      (sum-first (λ g. row (whole g)) (λ g. refl) has_movement (row_number column j) group groups
      (in_order_once-rising values_cmp_total values_cmp_exact (map (group_of by) records))))

  adds_up : UnitsAddUp column
  adds_up balances resources records asked by range group j =
      let chosen = in_range range (chosen_records asked records) in
      rows-agree balances resources by chosen group j range.by Period
      ∙ rows-first balances resources by chosen group j

-- a column is quiet where no number of the row moves
quiet_parts : (row : Row) → has_movement row ≡ false
    → (has_number row.receipt ≡ false) × ((has_number row.expense ≡ false)
    × (has_number row.turnover ≡ false))
quiet_parts row none =
    let both = or_parts (has_number row.receipt || has_number row.expense)
    (has_number row.turnover) none in
    let first = or_parts (has_number row.receipt) (has_number row.expense) both.0 in
    (first.0, (first.1, both.1))

pub receipts_add_up : UnitsAddUp (λ row. row.receipt)
receipts_add_up =
    adds_up (λ row. row.receipt) receipt_at (λ b. b)
    (λ balances resources by records p key. refl) (λ row none. (quiet_parts row none).0)

pub expenses_add_up : UnitsAddUp (λ row. row.expense)
expenses_add_up =
    adds_up (λ row. row.expense) expense_at (λ b. b)
    (λ balances resources by records p key. refl) (λ row none. (quiet_parts row none).1.0)

pub turnovers_add_up : UnitsAddUp (λ row. row.turnover)
turnovers_add_up =
    adds_up (λ row. row.turnover) amount_at (λ b. true)
    (λ balances resources by records p key. refl) (λ row none. (quiet_parts row none).1.1)
