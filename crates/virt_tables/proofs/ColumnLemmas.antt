-- The sums of records' numbers, column by column, are the rows of turnovers.
use Rattle.std.proofs.Common.{◌≡◌, ℕ, ◌+◌, ◌<◌, ℤ, pos, Bool, true, false, ◌||◌, cond, Option}
use Rattle.std.proofs.Common.{List, [], ◌++◌, map, length, refl, ap, ◌∙◌, sym, arith}
use Rattle.std.proofs.Common.{take, drop, not, length-append}
use Rattle.std.specs.Ordering.{int_eq}
use Rattle.std.specs.List.{filter, range_with_len}
use Rattle.std.proofs.lemmas.List.{append-nil, take-append-drop}
use Rattle.std.proofs.lemmas.List.FromFn.{length-map-range_with_len}
use Rattle.std.proofs.lemmas.List.Folds.{list_any-append}
use Rattle.reg_base.specs.declared.records.Rec.{Rec}
use Rattle.reg_base.specs.declared.tables.Periodicity.{Periodicity}
use Rattle.reg_base.specs.Records.{Booked, amount_at}
use Rattle.reg_base.specs.Sums.{sum_over, in_order_once, has_number}
use Rattle.reg_base.specs.Turnovers.{RowKey, key_cmp, key_of, is_of, receipt_at, expense_at}
use Rattle.reg_base.specs.Turnovers.{sums_where, turnover_row, turnover_rows, has_movement}
use Rattle.reg_base.proofs.ForTables.{sum_over-map}
use Rattle.table_sums.specs.declared.sums.UnitSums.{UnitSums}
use Rattle.table_sums.specs.Additions.{number_at, added_at, sums_at, row_with, keys_in, rows_over}
use Rattle.table_sums.proofs.ForAbove.{range-get, range-same}
use Rattle.virt_tables.specs.Columns.{columns_of, numbers_of, width_of, addition_of, row_from}
use Rattle.virt_tables.proofs.ListLemmas.{map-map, take-front, drop-front}
use Rattle.virt_tables.proofs.ListLemmas.{range-split, number_at-left, number_at-right}

-- how many numbers a record has
pub length-numbers_of : (balances : Bool) (n : ℕ) (rec : Rec)
    → length (numbers_of (columns_of balances) n rec) ≡ width_of balances n
length-numbers_of false n rec = omega (
  arith,
  length-append (map (λ j. amount_at j rec) (range_with_len 0 n)) [],
  length-map-range_with_len (λ j. amount_at j rec) 0 n,
)
length-numbers_of true n rec =
    let receipts = map (λ j. receipt_at j rec) (range_with_len 0 n) in
    let expenses = map (λ j. expense_at j rec) (range_with_len 0 n) in
    let amounts = map (λ j. amount_at j rec) (range_with_len 0 n) in
    omega (
      arith,
      length-append receipts (expenses ++ (amounts ++ [])),
      length-append expenses (amounts ++ []),
      length-append amounts [],
      length-map-range_with_len (λ j. receipt_at j rec) 0 n,
      length-map-range_with_len (λ j. expense_at j rec) 0 n,
      length-map-range_with_len (λ j. amount_at j rec) 0 n,
    )

-- ---- sums of the records that pass a test

module _ (test : Booked → Bool) (bs : List Booked) where
  -- the sum of each column
  abbrev columns : ℕ → (Booked → ℕ → ℤ) → List ℤ
  columns n f = map (λ j. sum_over (λ b. cond (test b) (f b j) (pos 0)) bs) (range_with_len 0 n)

  -- the columns of two lists are those of one and those of the other
  columns-append : (m k : ℕ) (l r : Booked → List ℤ) → ((b : Booked) → length (l b) ≡ m)
      → columns (m + k) (λ b. number_at (l b ++ r b))
      ≡ columns m (λ b. number_at (l b)) ++ columns k (λ b. number_at (r b))
  columns-append m k l r long =
      range-split (λ j. sum_over (λ b. cond (test b) (number_at (l b ++ r b) j) (pos 0)) bs) 0 m k
      ∙ (λ i. left i ++ map (λ j. right j i) (range_with_len 0 k))
    where
      below : (b : Booked) (j : ℕ) → j < m → j < length (l b)
      below b j h = omega (arith, h, long b)

      left : map (λ j. sum_over (λ b. cond (test b) (number_at (l b ++ r b) j) (pos 0)) bs)
          (range_with_len 0 m) ≡ columns m (λ b. number_at (l b))
      left = range-same
          (λ j. sum_over (λ b. cond (test b) (number_at (l b ++ r b) j) (pos 0)) bs)
          (λ j. sum_over (λ b. cond (test b) (number_at (l b) j) (pos 0)) bs) m 0 m (omega arith)
          (λ j h i. sum_over (λ b. cond (test b)
          (number_at-left (l b) (r b) j (below b j h) i) (pos 0)) bs)

      right : (j : ℕ) → sum_over (λ b. cond (test b) (number_at (l b ++ r b) (m + j)) (pos 0)) bs
          ≡ sum_over (λ b. cond (test b) (number_at (r b) j) (pos 0)) bs
      right j = λ i. sum_over (λ b. cond (test b)
          (number_at-right (l b) (r b) m j (long b) i) (pos 0)) bs

  -- the columns of a list that is made number by number
  columns-made : (n : ℕ) (f : Booked → ℕ → ℤ)
      → columns n (λ b. number_at (map (f b) (range_with_len 0 n))) ≡ columns n f
  columns-made n f =
      range-same
      (λ j. sum_over (λ b. cond (test b) (number_at (map (f b) (range_with_len 0 n)) j) (pos 0)) bs)
      (λ j. sum_over (λ b. cond (test b) (f b j) (pos 0)) bs) n 0 n (omega arith)
      (λ j h i. sum_over (λ b. cond (test b) (made b j h i) (pos 0)) bs)
    where
      made : (b : Booked) (j : ℕ) → j < n → number_at (map (f b) (range_with_len 0 n)) j ≡ f b j
      made b j h = range-get (f b) j 0 n h ∙ ap (f b) (omega arith)

  -- numbers that are made, in front of others
  columns-front : (n k : ℕ) (f : Booked → ℕ → ℤ) (r : Booked → List ℤ)
      → columns (n + k) (λ b. number_at (map (f b) (range_with_len 0 n) ++ r b))
      ≡ columns n f ++ columns k (λ b. number_at (r b))
  columns-front n k f r =
      columns-append n k (λ b. map (f b) (range_with_len 0 n)) r
      (λ b. length-map-range_with_len (f b) 0 n)
      ∙ ap (λ t. t ++ columns k (λ b. number_at (r b))) (columns-made n f)

module _ (n : ℕ) (group : Option (List ℕ)) (by : Periodicity) (bs : List Booked)
    (key : RowKey) where
  abbrev of_key : Booked → Bool
  of_key = is_of group by key

  -- the sums of a key are the sums of the numbers of its records
  sums-columns : (balances : Bool)
      → sums_at (width_of balances n) (map (addition_of balances n group by) bs) key
      ≡ columns of_key bs (width_of balances n)
      (λ b. number_at (numbers_of (columns_of balances) n b.rec))
  sums-columns balances =
      λ i. map (λ j. sum_over-map (added_at key j) (addition_of balances n group by) bs i)
      (range_with_len 0 (width_of balances n))

  -- the amounts, and nothing behind them
  sums-amounts : columns of_key bs (n + 0)
      (λ b. number_at (map (λ j. amount_at j b.rec) (range_with_len 0 n) ++ []))
      ≡ sums_where n of_key amount_at bs
  sums-amounts =
      columns-front of_key bs n 0 (λ b j. amount_at j b.rec) (λ b. [])
      ∙ append-nil (sums_where n of_key amount_at bs)

  sums-all : sums_at (width_of true n) (map (addition_of true n group by) bs) key
      ≡ sums_where n of_key receipt_at bs ++ (sums_where n of_key expense_at bs
      ++ sums_where n of_key amount_at bs)
  sums-all =
      sums-columns true
      ∙ columns-front of_key bs n (n + (n + 0)) (λ b j. receipt_at j b.rec)
      (λ b. map (λ j. expense_at j b.rec) (range_with_len 0 n)
      ++ (map (λ j. amount_at j b.rec) (range_with_len 0 n) ++ []))
      ∙ ap (λ t. sums_where n of_key receipt_at bs ++ t)
      (columns-front of_key bs n (n + 0) (λ b j. expense_at j b.rec)
      (λ b. map (λ j. amount_at j b.rec) (range_with_len 0 n) ++ [])
      ∙ ap (λ t. sums_where n of_key expense_at bs ++ t) sums-amounts)

  sums-turns : sums_at (width_of false n) (map (addition_of false n group by) bs) key
      ≡ sums_where n of_key amount_at bs
  sums-turns = sums-columns false ∙ sums-amounts

  long-where : (f : ℕ → Rec → ℤ) → length (sums_where n of_key f bs) ≡ n
  long-where f = length-map-range_with_len
      (λ j. sum_over (λ b. cond (of_key b) (f j b.rec) (pos 0)) bs) 0 n

  -- the row of the sums of a key is its row of turnovers
  row_from-key : (balances : Bool)
      → row_from balances n (row_with (sums_at (width_of balances n)
      (map (addition_of balances n group by) bs)) key)
      ≡ turnover_row balances n group by bs key
  row_from-key false = λ i. record {
    group = key.group;
    unit = key.unit;
    opening = [];
    receipt = [];
    expense = [];
    turnover = sums-turns i;
    closing = [];
  }
  row_from-key true =
      let others = sums_where n of_key expense_at bs ++ sums_where n of_key amount_at bs in
      let first = ap (take n) sums-all
      ∙ take-front n (sums_where n of_key receipt_at bs) others (long-where receipt_at) in
      let behind = ap (drop n) sums-all
      ∙ drop-front n (sums_where n of_key receipt_at bs) others (long-where receipt_at) in
      let second = ap (take n) behind
      ∙ take-front n (sums_where n of_key expense_at bs) (sums_where n of_key amount_at bs)
      (long-where expense_at) in
      let third = ap (drop n) behind
      ∙ drop-front n (sums_where n of_key expense_at bs) (sums_where n of_key amount_at bs)
      (long-where expense_at) in
      λ i. record {
        group = key.group;
        unit = key.unit;
        opening = [];
        receipt = first i;
        expense = second i;
        turnover = third i;
        closing = [];
      }

module _ (balances : Bool) (n : ℕ) (group : Option (List ℕ)) (by : Periodicity) where
  -- the keys of what records add
  pub keys_in-moves : (bs : List Booked)
      → keys_in (map (addition_of balances n group by) bs)
      ≡ in_order_once key_cmp (map (key_of group by) bs)
  keys_in-moves bs =
      ap (in_order_once key_cmp) (map-map (λ a. a.key) (addition_of balances n group by) bs)

  -- the rows of the sums of what records add are their rows of turnovers
  pub rows_from-moves : (bs : List Booked)
      → map (row_from balances n)
      (rows_over (width_of balances n) (map (addition_of balances n group by) bs))
      ≡ map (turnover_row balances n group by bs) (in_order_once key_cmp (map (key_of group by) bs))
  rows_from-moves bs =
      map-map (row_from balances n)
      (row_with (sums_at (width_of balances n) (map (addition_of balances n group by) bs)))
      (keys_in (map (addition_of balances n group by) bs))
      ∙ (λ i. map (λ k. row_from-key n group by bs k balances i) (keys_in-moves bs i))

  pub shown-moves : (bs : List Booked)
      → filter has_movement (map (row_from balances n)
      (rows_over (width_of balances n) (map (addition_of balances n group by) bs)))
      ≡ turnover_rows balances n group by bs
  unfolding turnover_rows
  shown-moves bs = ap (filter has_movement) (rows_from-moves bs)

-- something moved where a sum is not 0
pub has_number-row_from : (balances : Bool) (n : ℕ) (s : UnitSums)
    → has_number s.sums ≡ has_movement (row_from balances n s)
has_number-row_from false n s = refl
has_number-row_from true n s =
    let test : ℤ → Bool = λ x. not (int_eq x (pos 0)) in
    let xs = s.sums in
    ap has_number (sym (take-append-drop n xs))
    ∙ list_any-append test (take n xs) (drop n xs)
    ∙ ap (λ b. has_number (take n xs) || b)
    (ap has_number (sym (take-append-drop n (drop n xs)))
    ∙ list_any-append test (take n (drop n xs)) (drop n (drop n xs)))
    ∙ sym (or-assoc (has_number (take n xs)) (has_number (take n (drop n xs)))
    (has_number (drop n (drop n xs))))
  where
    or-assoc : (p q r : Bool) → p || q || r ≡ p || (q || r)
    or-assoc true q r = refl
    or-assoc false q r = refl
