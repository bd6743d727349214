-- The rows of what records bring are their balances and turnovers.
use Rattle.std.proofs.Common.{◌≡◌, ℕ, ◌+◌, ◌<◌, ℤ, pos, ◌+ℤ◌, Bool, true, false}
use Rattle.std.proofs.Common.{◌&&◌, cond, nat_lt, Option, List, [], ◌∷◌, ◌++◌, map}
use Rattle.std.proofs.Common.{refl, ap, ◌∙◌, sym, arith, take, drop}
use Rattle.std.specs.List.{flat_map, range_with_len}
use Rattle.std.specs.Ordering.{is_eq, is_lt, is_le, ordering_then}
use Rattle.std.specs.declared.cmp.Ordering.{Ordering}
use Rattle.std.specs.declared.cmp.Ordering.TheVariants.{Less, Equal, Greater}
use Rattle.std.proofs.lemmas.Int.{ints}
use Rattle.std.proofs.lemmas.List.FromFn.{length-map-range_with_len}
use Rattle.reg_base.specs.declared.records.Rec.{Rec}
use Rattle.reg_base.specs.declared.cut.Cut.TheVariants.{BeforeDate}
use Rattle.reg_base.specs.declared.tables.Unit.{Unit as TableUnit}
use Rattle.reg_base.specs.declared.tables.Unit.TheVariants.{Whole, Start, At, Line}
use Rattle.reg_base.specs.declared.tables.Range.{Range}
use Rattle.reg_base.specs.Cuts.{inside}
use Rattle.reg_base.specs.Records.{Booked, values_cmp, point_of, amount_at, records_within}
use Rattle.reg_base.specs.Balances.{group_of, contribution, total}
use Rattle.reg_base.specs.Sums.{sum_over, plus_each}
use Rattle.reg_base.specs.Turnovers.{RowKey, unit_cmp, key_cmp, key_of, unit_of, is_of, in_range}
use Rattle.reg_base.specs.Turnovers.{receipt_at, expense_at, sums_where, before_unit, both_row}
use Rattle.reg_base.specs.TableLaws.{is_in, SplitsRange}
use Rattle.reg_base.proofs.ForTables.{sum_over-append, sum_over-passed, sum_over-same}
use Rattle.reg_base.proofs.ForTables.{sum_over-zero, sum_over-cond, sum_over-partition}
use Rattle.reg_base.proofs.ForTables.{key_cmp_total, key_cmp_exact, total-sum_over, total-before}
use Rattle.table_sums.specs.Additions.{Addition, number_at, added_at, sums_at, row_with, keys_in}
use Rattle.table_sums.proofs.ForAbove.{range-get}
use Rattle.virt_tables.specs.declared.columns.Column.{Column}
use Rattle.virt_tables.specs.declared.columns.Column.TheVariants.{Receipt, Expense, Amount, Nothing}
use Rattle.virt_tables.specs.Columns.{column_at, numbers_of}
use Rattle.virt_tables.specs.Both.{columns_before, columns_moved, columns_none, both_width, brought}
use Rattle.virt_tables.specs.Both.{before_at, moved_at, ends_at, brings, sums_of, opened}
use Rattle.virt_tables.proofs.ListLemmas.{number_at-left, number_at-right}
use Rattle.virt_tables.proofs.RunLemmas.{made, made-same, sums_of-made, made-first, made-second}
use Rattle.virt_tables.proofs.RunLemmas.{made-third, made-last, is_upto, is_under, opens_at}

-- ---- the numbers of a record at a column

module _ (n : ℕ) (c : Column) (cs : List Column) (rec : Rec) (j : ℕ) where
  pub number-first : j < n → number_at (numbers_of (c ∷ cs) n rec) j ≡ column_at c j rec
  number-first h =
      number_at-left (map (λ j. column_at c j rec) (range_with_len 0 n)) (numbers_of cs n rec) j
      (omega (arith, h, length-map-range_with_len (λ j. column_at c j rec) 0 n))
      ∙ range-get (λ j. column_at c j rec) j 0 n h
      ∙ ap (λ j. column_at c j rec) (omega arith)

  pub number-next : number_at (numbers_of (c ∷ cs) n rec) (n + j)
      ≡ number_at (numbers_of cs n rec) j
  number-next =
      number_at-right (map (λ j. column_at c j rec) (range_with_len 0 n)) (numbers_of cs n rec) n j
      (length-map-range_with_len (λ j. column_at c j rec) 0 n)

-- the numbers of four columns
module _ (n : ℕ) (a b c d : Column) (rec : Rec) (j : ℕ) (h : j < n) where
  second : number_at (numbers_of (a ∷ b ∷ c ∷ d ∷ []) n rec) (n + j) ≡ column_at b j rec
  second = number-next n a (b ∷ c ∷ d ∷ []) rec j ∙ number-first n b (c ∷ d ∷ []) rec j h

  third : number_at (numbers_of (a ∷ b ∷ c ∷ d ∷ []) n rec) (n + (n + j)) ≡ column_at c j rec
  third =
      number-next n a (b ∷ c ∷ d ∷ []) rec (n + j)
      ∙ number-next n b (c ∷ d ∷ []) rec j ∙ number-first n c (d ∷ []) rec j h

  fourth : number_at (numbers_of (a ∷ b ∷ c ∷ d ∷ []) n rec) (n + (n + (n + j)))
      ≡ column_at d j rec
  fourth =
      number-next n a (b ∷ c ∷ d ∷ []) rec (n + (n + j))
      ∙ number-next n b (c ∷ d ∷ []) rec (n + j)
      ∙ number-next n c (d ∷ []) rec j ∙ number-first n d [] rec j h

-- ---- sums over what records bring

cond-zero : (p : Bool) → cond p (pos 0) (pos 0) ≡ pos 0
cond-zero true = refl
cond-zero false = refl

cond-swap : (p q : Bool) (x : ℤ)
    → cond p (cond q x (pos 0)) (pos 0) ≡ cond q (cond p x (pos 0)) (pos 0)
cond-swap true true x = refl
cond-swap true false x = refl
cond-swap false true x = refl
cond-swap false false x = refl

four-swap : (a b c d : ℤ) → (a +ℤ b) +ℤ (c +ℤ d) ≡ (a +ℤ c) +ℤ (b +ℤ d)
four-swap a b c d = omega (arith, ints)

plus-zero : (x : ℤ) → x +ℤ pos 0 ≡ x
plus-zero x = omega (arith, ints)

zero-first : (x : ℤ) → pos 0 +ℤ x ≡ x
zero-first x = omega (arith, ints)

no-sum : {X : Type 0} (p q : X → Bool) (xs : List X)
    → sum_over (λ x. cond (p x) (cond (q x) (pos 0) (pos 0)) (pos 0)) xs ≡ pos 0
no-sum p q xs =
    sum_over-same (λ x. cond (p x) (cond (q x) (pos 0) (pos 0)) (pos 0)) (λ x. pos 0)
    (λ x. ap (λ z. cond (p x) z (pos 0)) (cond-zero (q x)) ∙ cond-zero (p x)) xs
    ∙ sum_over-zero xs

-- what an addition adds at a column, where its key passes a test
abbrev pub weighed : (RowKey → Bool) → ℕ → Addition → ℤ
weighed t m a = cond (t a.key) (number_at a.numbers m) (pos 0)

sum-one : (p : Bool) (f : Addition → ℤ) (a : Addition)
    → sum_over f (cond p (a ∷ []) []) ≡ cond p (f a) (pos 0)
sum-one true f a = plus-zero (f a)
sum-one false f a = refl

module _ (n : ℕ) (group : Option (List ℕ)) (range : Range) (ends : List TableUnit) where
  -- whether a record lies before the range, and the key that it brings its balance to
  abbrev pub is_early : Booked → Bool
  is_early b = nat_lt b.rec.period range.from

  abbrev pub early_key : Booked → RowKey
  early_key b = record { group = group_of group b; unit = Whole }

  abbrev pub all_brought : List Booked → List Addition
  all_brought bs = flat_map (brings n group range ends) bs

  module _ (t : RowKey → Bool) (m : ℕ) (x y : Booked → ℤ)
      (early : (b : Booked) → number_at (numbers_of columns_before n b.rec) m ≡ x b)
      (late : (b : Booked) → number_at (numbers_of columns_moved n b.rec) m ≡ y b)
      (none : (b : Booked) → number_at (numbers_of columns_none n b.rec) m ≡ pos 0) where
    sum-ends : (b : Booked) (units : List TableUnit)
        → sum_over (weighed t m) (ends_at n group units b.rec) ≡ pos 0
    sum-ends b [] = refl
    sum-ends b (u ∷ us) =
        (λ i. cond (t (record { group = group_of group b; unit = u })) (none b i) (pos 0)
        +ℤ sum-ends b us i)
        ∙ ap (λ z. z +ℤ pos 0) (cond-zero (t (record { group = group_of group b; unit = u })))

    sum-brings : (b : Booked) → sum_over (weighed t m) (brings n group range ends b)
        ≡ cond (is_early b) (cond (t (early_key b)) (x b) (pos 0)) (pos 0)
        +ℤ cond (is_in range b) (cond (t (key_of group range.by b)) (y b) (pos 0)) (pos 0)
    sum-brings b =
        sum_over-append (weighed t m) (before_at n group range b)
        (moved_at n group range b ++ ends_at n group ends b.rec)
        ∙ (λ i. (sum-one (is_early b) (weighed t m) (brought columns_before n group Whole b.rec)
        ∙ ap (λ z. cond (is_early b) (cond (t (early_key b)) z (pos 0)) (pos 0)) (early b)) i
        +ℤ (sum_over-append (weighed t m) (moved_at n group range b) (ends_at n group ends b.rec)
        ∙ (λ k. sum-one (is_in range b) (weighed t m)
        (brought columns_moved n group (unit_of range.by b) b.rec) k +ℤ sum-ends b ends k)
        ∙ plus-zero (cond (is_in range b) (cond (t (key_of group range.by b))
        (number_at (numbers_of columns_moved n b.rec) m) (pos 0)) (pos 0))
        ∙ ap (λ z. cond (is_in range b) (cond (t (key_of group range.by b)) z (pos 0)) (pos 0))
        (late b)) i)

    sum-brought : (bs : List Booked) → sum_over (weighed t m) (all_brought bs)
        ≡ sum_over (λ b. cond (is_early b) (cond (t (early_key b)) (x b) (pos 0)) (pos 0)) bs
        +ℤ sum_over (λ b. cond (is_in range b)
        (cond (t (key_of group range.by b)) (y b) (pos 0)) (pos 0)) bs
    sum-brought [] = refl
    sum-brought (b ∷ bs) =
        sum_over-append (weighed t m) (brings n group range ends b) (all_brought bs)
        ∙ (λ i. sum-brings b i +ℤ sum-brought bs i)
        ∙ four-swap (cond (is_early b) (cond (t (early_key b)) (x b) (pos 0)) (pos 0))
        (cond (is_in range b) (cond (t (key_of group range.by b)) (y b) (pos 0)) (pos 0))
        (sum_over (λ b. cond (is_early b) (cond (t (early_key b)) (x b) (pos 0)) (pos 0)) bs)
        (sum_over (λ b. cond (is_in range b)
        (cond (t (key_of group range.by b)) (y b) (pos 0)) (pos 0)) bs)

  module _ (t : RowKey → Bool) (bs : List Booked) (j : ℕ) (h : j < n) where
    -- balances before the range
    sum-early : sum_over (weighed t j) (all_brought bs)
        ≡ sum_over (λ b. cond (is_early b)
        (cond (t (early_key b)) (amount_at j b.rec) (pos 0)) (pos 0)) bs
    sum-early =
        sum-brought t j (λ b. amount_at j b.rec) (λ b. pos 0)
        (λ b. number-first n Amount (Nothing ∷ Nothing ∷ Nothing ∷ []) b.rec j h)
        (λ b. number-first n Nothing (Receipt ∷ Expense ∷ Amount ∷ []) b.rec j h)
        (λ b. number-first n Nothing (Nothing ∷ Nothing ∷ Nothing ∷ []) b.rec j h) bs
        ∙ ap (λ z. sum_over (λ b. cond (is_early b)
        (cond (t (early_key b)) (amount_at j b.rec) (pos 0)) (pos 0)) bs +ℤ z)
        (no-sum (is_in range) (λ b. t (key_of group range.by b)) bs)
        ∙ plus-zero (sum_over (λ b. cond (is_early b)
        (cond (t (early_key b)) (amount_at j b.rec) (pos 0)) (pos 0)) bs)

    -- what records of the range add to one of the other columns
    sum-late : (m : ℕ) (f : ℕ → Rec → ℤ)
        → ((b : Booked) → number_at (numbers_of columns_before n b.rec) m ≡ pos 0)
        → ((b : Booked) → number_at (numbers_of columns_moved n b.rec) m ≡ f j b.rec)
        → ((b : Booked) → number_at (numbers_of columns_none n b.rec) m ≡ pos 0)
        → sum_over (weighed t m) (all_brought bs)
        ≡ sum_over (λ b. cond (t (key_of group range.by b)) (f j b.rec) (pos 0))
        (in_range range bs)
    sum-late m f early late none =
        sum-brought t m (λ b. pos 0) (λ b. f j b.rec) early late none bs
        ∙ ap (λ z. z +ℤ sum_over (λ b. cond (is_in range b)
        (cond (t (key_of group range.by b)) (f j b.rec) (pos 0)) (pos 0)) bs)
        (no-sum is_early (λ b. t (early_key b)) bs)
        ∙ zero-first (sum_over (λ b. cond (is_in range b)
        (cond (t (key_of group range.by b)) (f j b.rec) (pos 0)) (pos 0)) bs)
        ∙ sym (sum_over-passed
        (λ b. cond (t (key_of group range.by b)) (f j b.rec) (pos 0)) (is_in range) bs)

    sum-receipts : sum_over (weighed t (n + j)) (all_brought bs)
        ≡ sum_over (λ b. cond (t (key_of group range.by b)) (receipt_at j b.rec) (pos 0))
        (in_range range bs)
    sum-receipts = sum-late (n + j) receipt_at
        (λ b. second n Amount Nothing Nothing Nothing b.rec j h)
        (λ b. second n Nothing Receipt Expense Amount b.rec j h)
        (λ b. second n Nothing Nothing Nothing Nothing b.rec j h)

    sum-expenses : sum_over (weighed t (n + (n + j))) (all_brought bs)
        ≡ sum_over (λ b. cond (t (key_of group range.by b)) (expense_at j b.rec) (pos 0))
        (in_range range bs)
    sum-expenses = sum-late (n + (n + j)) expense_at
        (λ b. third n Amount Nothing Nothing Nothing b.rec j h)
        (λ b. third n Nothing Receipt Expense Amount b.rec j h)
        (λ b. third n Nothing Nothing Nothing Nothing b.rec j h)

    sum-amounts : sum_over (weighed t (n + (n + (n + j)))) (all_brought bs)
        ≡ sum_over (λ b. cond (t (key_of group range.by b)) (amount_at j b.rec) (pos 0))
        (in_range range bs)
    sum-amounts = sum-late (n + (n + (n + j))) amount_at
        (λ b. fourth n Amount Nothing Nothing Nothing b.rec j h)
        (λ b. fourth n Nothing Receipt Expense Amount b.rec j h)
        (λ b. fourth n Nothing Nothing Nothing Nothing b.rec j h)

  module _ (bs : List Booked) where
    -- the sums of a key
    abbrev pub sums_for : RowKey → List ℤ
    sums_for k = sums_at (both_width n) (all_brought bs) k

    -- the sum of a key at a column
    abbrev pub sum_for : RowKey → ℕ → ℤ
    sum_for k m = sum_over (added_at k m) (all_brought bs)

    -- its turnover
    abbrev pub turn_for : RowKey → ℕ → ℤ
    turn_for k j = sum_for k (n + (n + (n + j)))

    pub front-for : (k : RowKey) → take n (sums_for k) ≡ made n (sum_for k)
    front-for k = made-first n (sum_for k)

    pub back-for : (k : RowKey) → drop n (drop n (drop n (sums_for k))) ≡ made n (turn_for k)
    back-for k = made-last n (sum_for k)

    pub receipts-for : (k : RowKey) → take n (drop n (sums_for k))
        ≡ sums_where n (is_of group range.by k) receipt_at (in_range range bs)
    receipts-for k =
        made-second n (sum_for k)
        ∙ made-same n (λ j. sum_for k (n + j))
        (λ j. sum_over (λ b. cond (is_of group range.by k b) (receipt_at j b.rec) (pos 0))
        (in_range range bs))
        (sum-receipts (λ x. is_eq (key_cmp x k)) bs)

    pub expenses-for : (k : RowKey) → take n (drop n (drop n (sums_for k)))
        ≡ sums_where n (is_of group range.by k) expense_at (in_range range bs)
    expenses-for k =
        made-third n (sum_for k)
        ∙ made-same n (λ j. sum_for k (n + (n + j)))
        (λ j. sum_over (λ b. cond (is_of group range.by k b) (expense_at j b.rec) (pos 0))
        (in_range range bs))
        (sum-expenses (λ x. is_eq (key_cmp x k)) bs)

    pub turns-for : (k : RowKey) → made n (turn_for k)
        ≡ sums_where n (is_of group range.by k) amount_at (in_range range bs)
    turns-for k =
        made-same n (turn_for k)
        (λ j. sum_over (λ b. cond (is_of group range.by k b) (amount_at j b.rec) (pos 0))
        (in_range range bs))
        (sum-amounts (λ x. is_eq (key_cmp x k)) bs)

    -- the sums of keys that pass a test come to the sum over what is added to such keys
    sum-keys : (t : RowKey → Bool) (m : ℕ)
        → sum_over (λ x. cond (t x) (sum_for x m) (pos 0)) (keys_in (all_brought bs))
        ≡ sum_over (weighed t m) (all_brought bs)
    sum-keys t m =
        sum_over-same (λ x. cond (t x) (sum_for x m) (pos 0))
        (λ x. sum_over (λ (a : Addition). cond (is_eq (key_cmp a.key x))
        (cond (t x) (number_at a.numbers m) (pos 0)) (pos 0)) (all_brought bs))
        (λ x. sum_over-cond (t x) (added_at x m) (all_brought bs)
        ∙ sum_over-same (λ a. cond (t x) (added_at x m a) (pos 0))
        (λ (a : Addition). cond (is_eq (key_cmp a.key x))
        (cond (t x) (number_at a.numbers m) (pos 0)) (pos 0))
        (λ a. cond-swap (t x) (is_eq (key_cmp a.key x)) (number_at a.numbers m))
        (all_brought bs))
        (keys_in (all_brought bs))
        ∙ sum_over-partition key_cmp_total key_cmp_exact (λ (a : Addition). a.key)
        (λ a x. cond (t x) (number_at a.numbers m) (pos 0)) (all_brought bs)

    -- the balance before the range of the keys up to a key is that of its group
    early-total : (k : RowKey) (j : ℕ) → j < n
        → sum_over (weighed (is_upto k) j) (all_brought bs)
        ≡ total group k.group (records_within (BeforeDate range.from) bs) j
    early-total k j h =
        sum-early (is_upto k) bs j h
        ∙ sum_over-same (λ b. cond (is_early b)
        (cond (is_upto k (early_key b)) (amount_at j b.rec) (pos 0)) (pos 0))
        (λ b. cond (is_early b) (contribution group k.group j b) (pos 0))
        (λ b. ap (λ p. cond (is_early b) (cond p (amount_at j b.rec) (pos 0)) (pos 0))
        (whole (values_cmp (group_of group b) k.group) k.unit)) bs
        ∙ sym (sum_over-passed (contribution group k.group j)
        (λ b. inside (BeforeDate range.from) (point_of b)) bs)
        ∙ sym (total-sum_over group k.group (records_within (BeforeDate range.from) bs) j)
      where
        unit : (u : TableUnit) → is_le (unit_cmp Whole u) ≡ true
        unit Whole = refl
        unit (Start d) = refl
        unit (At p) = refl
        unit (Line p l) = refl

        whole : (r : Ordering) (u : TableUnit)
            → is_eq r && is_le (ordering_then r (unit_cmp Whole u)) ≡ is_eq r
        whole Less u = refl
        whole Equal u = unit u
        whole Greater u = refl

    -- the turnovers of the keys under a key are those of lower units of its group
    under-total : (k : RowKey) (j : ℕ) → j < n
        → sum_over (weighed (is_under k) (n + (n + (n + j)))) (all_brought bs)
        ≡ sum_over (λ b. cond (is_lt (unit_cmp (unit_of range.by b) k.unit))
        (contribution group k.group j b) (pos 0)) (in_range range bs)
    under-total k j h =
        sum-amounts (is_under k) bs j h
        ∙ sum_over-same
        (λ b. cond (is_under k (key_of group range.by b)) (amount_at j b.rec) (pos 0))
        (λ b. cond (is_lt (unit_cmp (unit_of range.by b) k.unit))
        (contribution group k.group j b) (pos 0))
        (λ b. lower (values_cmp (group_of group b) k.group)
        (unit_cmp (unit_of range.by b) k.unit) (amount_at j b.rec)) (in_range range bs)
      where
        lower : (r s : Ordering) (x : ℤ)
            → cond (is_eq r && is_lt (ordering_then r s)) x (pos 0)
            ≡ cond (is_lt s) (cond (is_eq r) x (pos 0)) (pos 0)
        lower Less s x = sym (cond-zero (is_lt s))
        lower Equal s x = refl
        lower Greater s x = sym (cond-zero (is_lt s))

    -- the opening of a key
    pub opens-for : (k : RowKey) → SplitsRange range k.unit
        → made n (opens_at n sums_for sum_for turn_for front-for back-for
        (keys_in (all_brought bs)) k)
        ≡ map (total group k.group (before_unit range k.unit bs)) (range_with_len 0 n)
    opens-for k splits =
        made-same n (opens_at n sums_for sum_for turn_for front-for back-for
        (keys_in (all_brought bs)) k) (total group k.group (before_unit range k.unit bs))
        (λ j h. (λ i. (sum-keys (is_upto k) j ∙ early-total k j h) i
        +ℤ (sum-keys (is_under k) (n + (n + (n + j))) ∙ under-total k j h) i)
        ∙ sym (total-before range k.unit splits group k.group j bs))

    -- the row of a key is its row of balances and turnovers
    pub row-for : (k : RowKey) → SplitsRange range k.unit
        → opened n (made n (opens_at n sums_for sum_for turn_for front-for back-for
        (keys_in (all_brought bs)) k)) (row_with sums_for k)
        ≡ both_row n group range bs k
    row-for k splits =
        let opening = opens-for k splits in
        let turn = back-for k ∙ turns-for k in
        let balance = total group k.group (before_unit range k.unit bs) in
        λ i. record {
          group = k.group;
          unit = k.unit;
          opening = opening i;
          receipt = receipts-for k i;
          expense = expenses-for k i;
          turnover = turn i;
          closing = ((λ i. sums_of (opening i) (turn i))
              ∙ sums_of-made n balance (λ j. sum_over (λ b. cond (is_of group range.by k b)
              (amount_at j b.rec) (pos 0)) (in_range range bs))
              ∙ closing balance (λ j. sum_over (λ b. cond (is_of group range.by k b)
              (amount_at j b.rec) (pos 0)) (in_range range bs)) (range_with_len 0 n)) i;
        }
      where
        plus-swap : (x y : ℤ) → x +ℤ y ≡ y +ℤ x
        plus-swap x y = omega (arith, ints)

        closing : (f g : ℕ → ℤ) (ns : List ℕ)
            → map (λ j. g j +ℤ f j) ns ≡ plus_each (map f ns) (map g ns)
        closing f g [] = refl
        closing f g (m ∷ ms) = λ i. plus-swap (g m) (f m) i ∷ closing f g ms i
