-- The rows of what records bring that stand are the table of balances and turnovers.
use Rattle.std.proofs.Common.{◌≡◌, ℕ, zero, suc, ◌+◌, ◌≤◌, ℤ, pos, ◌+ℤ◌, Bool, true, false, ◌&&◌}
use Rattle.std.proofs.Common.{◌||◌, cond, Option, List, [], ◌∷◌, ◌++◌, map, refl, ap, ◌∙◌, sym}
use Rattle.std.specs.List.{filter, flat_map, list_any, range_with_len, AllByRecursion}
use Rattle.std.specs.Ordering.{is_eq, ordering_then}
use Rattle.std.specs.declared.cmp.Ordering.{Ordering}
use Rattle.std.specs.declared.cmp.Ordering.TheVariants.{Less, Equal, Greater}
use Rattle.std.proofs.lemmas.Bool.{or_parts}
use Rattle.std.proofs.lemmas.List.Folds.{list_any-append}
use Rattle.reg_base.specs.declared.value.Value.{Value}
use Rattle.reg_base.specs.declared.records.Rec.{Rec}
use Rattle.reg_base.specs.declared.tables.Unit.{Unit as TableUnit}
use Rattle.reg_base.specs.declared.tables.Unit.TheVariants.{Whole}
use Rattle.reg_base.specs.declared.tables.Range.{Range}
use Rattle.reg_base.specs.declared.tables.Method.{Method}
use Rattle.reg_base.specs.declared.tables.Row.{Row}
use Rattle.reg_base.specs.Records.{Booked, values_cmp, amount_at}
use Rattle.reg_base.specs.Balances.{group_of, groups_of}
use Rattle.reg_base.specs.Sums.{sum_over, in_order_once, has_number}
use Rattle.reg_base.specs.Turnovers.{RowKey, unit_cmp, key_cmp, key_of, unit_of, is_of, in_range}
use Rattle.reg_base.specs.Turnovers.{receipt_at, expense_at, sums_where, edge_units, both_keys}
use Rattle.reg_base.specs.Turnovers.{both_row, has_movement, has_balance, stands, both_rows}
use Rattle.reg_base.specs.TableLaws.{is_in, SplitsRange}
use Rattle.reg_base.proofs.ForAbove.{values_cmp_total, values_cmp_exact}
use Rattle.reg_base.proofs.ForTables.{any-put_once, any-in_order_once, in_order_once-rising}
use Rattle.reg_base.proofs.ForTables.{unit_cmp_total, unit_cmp_exact, key_cmp_total, key_cmp_exact}
use Rattle.reg_base.proofs.ForTables.{keys-split}
use Rattle.table_sums.specs.Additions.{Addition, row_with, keys_in, rows_over}
use Rattle.virt_tables.specs.Both.{both_width, brings, before_at, moved_at, ends_at, opened, zeros}
use Rattle.virt_tables.specs.Both.{columns_before, columns_moved, columns_none, brought, rows_after}
use Rattle.virt_tables.proofs.RunLemmas.{made, opens_at, map-all, rows_after-keys}
use Rattle.virt_tables.proofs.StandLemmas.{any-map, any-flat_map, any-filter, any-or, any-weaker}
use Rattle.virt_tables.proofs.StandLemmas.{filter-map, is_among, eq-flip, filter-same}
use Rattle.virt_tables.proofs.BothLemmas.{is_early, early_key, all_brought, sums_for, sum_for}
use Rattle.virt_tables.proofs.BothLemmas.{turn_for, front-for, back-for, receipts-for, expenses-for}
use Rattle.virt_tables.proofs.BothLemmas.{turns-for, row-for}

-- ---- rows in which nothing moved

no-number : (a n : ℕ) → has_number (map (λ j. pos 0) (range_with_len a n)) ≡ false
no-number a zero = refl
no-number a (suc n) = no-number (a + 1) n

module _ (group : Option (List ℕ)) (range : Range) (k : RowKey) where
  -- whether a record is of the key
  abbrev is_key : Booked → Bool
  is_key b = is_eq (key_cmp k (key_of group range.by b))

  sum-none : (f : Booked → ℤ) (xs : List Booked) → list_any is_key xs ≡ false
      → sum_over (λ b. cond (is_of group range.by k b) (f b) (pos 0)) xs ≡ pos 0
  sum-none f [] none = refl
  sum-none f (b ∷ bs) none =
      let parts = or_parts (is_key b) (list_any is_key bs) none in
      λ i. cond ((eq-flip key_cmp_total key_cmp_exact (key_of group range.by b) k ∙ parts.0) i)
      (f b) (pos 0) +ℤ sum-none f bs parts.1 i

  where-none : (n : ℕ) (amount : ℕ → Rec → ℤ) (xs : List Booked) → list_any is_key xs ≡ false
      → has_number (sums_where n (is_of group range.by k) amount xs) ≡ false
  where-none n amount xs none =
      (λ i. has_number (map (λ j. sum-none (λ b. amount j b.rec) xs none i) (range_with_len 0 n)))
      ∙ no-number 0 n

-- ---- the keys of both

or-three : (a b c : Bool) → (b ≡ false → c ≡ false → a ≡ false) → a || (b || c) ≡ b || c
or-three true true c h = refl
or-three true false true h = refl
or-three true false false h = absurd (let clash : true ≡ false = h refl refl in cc)
or-three false b c h = refl

any-groups : (t : List Value → Bool) (group : Option (List ℕ)) (bs : List Booked)
    → list_any t (groups_of group bs) ≡ list_any (λ b. t (group_of group b)) bs
any-groups t group [] = refl
any-groups t group (b ∷ bs) =
    any-put_once values_cmp_total values_cmp_exact t (group_of group b) (groups_of group bs)
    ∙ ap (λ z. t (group_of group b) || z) (any-groups t group bs)

module _ (n : ℕ) (group : Option (List ℕ)) (range : Range) (ends : List TableUnit)
    (bs : List Booked) where
  abbrev edges : List Value → List RowKey
  edges g = map (λ u. record { group = g; unit = u }) ends

  -- the keys of the table, and those of what records bring
  abbrev table_keys : List RowKey
  table_keys = in_order_once key_cmp
      (map (key_of group range.by) (in_range range bs) ++ flat_map edges (groups_of group bs))

  abbrev pub brought_keys : List RowKey
  brought_keys = keys_in (all_brought n group range ends bs)

  module _ (k : RowKey) where
    abbrev is_it : RowKey → Bool
    is_it x = is_eq (key_cmp k x)

    -- whether the key is that of a record before the range, of one in it, or of an end
    abbrev is_of_early : Booked → Bool
    is_of_early b =
        is_early n group range ends b && is_it (early_key n group range ends b)

    abbrev is_of_moved : Booked → Bool
    is_of_moved b = is_in range b && is_it (key_of group range.by b)

    abbrev is_of_end : Booked → Bool
    is_of_end b = list_any (λ u. is_it (record { group = group_of group b; unit = u })) ends

    any-one : (p : Bool) (a : Addition)
        → list_any (λ (x : Addition). is_it x.key) (cond p (a ∷ []) []) ≡ p && is_it a.key
    any-one true a = or-no (is_it a.key)
      where
        or-no : (b : Bool) → b || false ≡ b
        or-no true = refl
        or-no false = refl
    any-one false a = refl

    any-brings : (b : Booked)
        → list_any (λ (x : Addition). is_it x.key) (brings n group range ends b)
        ≡ is_of_early b || (is_of_moved b || is_of_end b)
    any-brings b =
        list_any-append (λ (x : Addition). is_it x.key) (before_at n group range b)
        (moved_at n group range b ++ ends_at n group ends b.rec)
        ∙ (λ i. any-one (is_early n group range ends b)
        (brought columns_before n group Whole b.rec) i
        || (list_any-append (λ (x : Addition). is_it x.key) (moved_at n group range b)
        (ends_at n group ends b.rec)
        ∙ (λ j. any-one (is_in range b) (brought columns_moved n group (unit_of range.by b) b.rec) j
        || any-map (λ (x : Addition). is_it x.key)
        (λ u. brought columns_none n group u b.rec) ends j)) i)

    among-brought : is_among key_cmp_total key_cmp_exact k brought_keys
        ≡ list_any is_of_early bs || (list_any is_of_moved bs || list_any is_of_end bs)
    among-brought =
        any-in_order_once key_cmp_total key_cmp_exact is_it
        (map (λ (a : Addition). a.key) (all_brought n group range ends bs))
        ∙ any-map is_it (λ (a : Addition). a.key) (all_brought n group range ends bs)
        ∙ any-flat_map (λ (x : Addition). is_it x.key) (brings n group range ends) bs
        ∙ (λ i. list_any (λ b. any-brings b i) bs)
        ∙ any-or is_of_early (λ b. is_of_moved b || is_of_end b) bs
        ∙ ap (λ z. list_any is_of_early bs || z) (any-or is_of_moved is_of_end bs)

    any-moved : list_any is_it (map (key_of group range.by) (in_range range bs))
        ≡ list_any is_of_moved bs
    any-moved =
        any-map is_it (key_of group range.by) (in_range range bs)
        ∙ any-filter (λ b. is_it (key_of group range.by b)) (is_in range) bs

    among-table : is_among key_cmp_total key_cmp_exact k table_keys
        ≡ list_any is_of_moved bs || list_any is_of_end bs
    among-table =
        any-in_order_once key_cmp_total key_cmp_exact is_it
        (map (key_of group range.by) (in_range range bs) ++ flat_map edges (groups_of group bs))
        ∙ list_any-append is_it (map (key_of group range.by) (in_range range bs))
        (flat_map edges (groups_of group bs))
        ∙ (λ i. any-moved i || (any-flat_map is_it edges (groups_of group bs)
        ∙ any-groups (λ g. list_any is_it (edges g)) group bs
        ∙ (λ j. list_any (λ b. any-map is_it
        (λ u. record { group = group_of group b; unit = u }) ends j) bs)) i)

    -- an early record of the group of an end brings that end too
    early-end : list_any (λ u. is_eq (unit_cmp u k.unit)) ends ≡ true → (b : Booked)
        → is_of_end b ≡ false → is_of_early b ≡ false
    early-end edge b none =
        at (is_early n group range ends b) (values_cmp k.group (group_of group b)) none
      where
        flipped : list_any (λ u. is_eq (unit_cmp k.unit u)) ends ≡ true
        flipped = (λ i. list_any (λ u. eq-flip unit_cmp_total unit_cmp_exact k.unit u i) ends)
            ∙ edge

        at : (p : Bool) (r : Ordering)
            → list_any (λ u. is_eq (ordering_then r (unit_cmp k.unit u))) ends ≡ false
            → p && is_eq (ordering_then r (unit_cmp k.unit Whole)) ≡ false
        at true Less h = refl
        at true Equal h = absurd (let clash : true ≡ false = sym flipped ∙ h in cc)
        at true Greater h = refl
        at false r h = refl

    -- the row of the key among those of what records bring
    abbrev row_here : Row
    row_here = opened n (made n (opens_at n (sums_for n group range ends bs)
        (sum_for n group range ends bs) (turn_for n group range ends bs)
        (front-for n group range ends bs) (back-for n group range ends bs) brought_keys k))
        (row_with (sums_for n group range ends bs) k)

    no-movement : list_any is_of_moved bs ≡ false → has_movement row_here ≡ false
    no-movement none =
        λ i. ((ap has_number (receipts-for n group range ends bs k)
        ∙ where-none group range k n receipt_at (in_range range bs) still) i
        || (ap has_number (expenses-for n group range ends bs k)
        ∙ where-none group range k n expense_at (in_range range bs) still) i)
        || (ap has_number (back-for n group range ends bs k ∙ turns-for n group range ends bs k)
        ∙ where-none group range k n amount_at (in_range range bs) still) i
      where
        still : list_any (λ b. is_eq (key_cmp k (key_of group range.by b))) (in_range range bs)
            ≡ false
        still = any-filter (λ b. is_it (key_of group range.by b)) (is_in range) bs ∙ none

    -- a key whose row stands is among both or among none
    among-same : stands ends row_here ≡ true
        → is_among key_cmp_total key_cmp_exact k brought_keys
        ≡ is_among key_cmp_total key_cmp_exact k table_keys
    among-same up =
        among-brought
        ∙ or-three (list_any is_of_early bs) (list_any is_of_moved bs) (list_any is_of_end bs)
        (λ moved end. any-weaker is_of_early is_of_end
        (early-end (edge (has_movement row_here) (list_any (λ u. is_eq (unit_cmp u k.unit)) ends)
        (has_balance row_here) (no-movement moved) up)) bs end)
        ∙ sym among-table
      where
        edge : (m e b : Bool) → m ≡ false → m || (e && b) ≡ true → e ≡ true
        edge true e b h g = absurd (cc)
        edge false true b h g = refl
        edge false false b h g = absurd (cc)

  abbrev here : RowKey → Row
  here k = row_here k

  -- the rows that stand are those of the keys of the table
  pub stands-same : filter (stands ends) (map here brought_keys)
      ≡ filter (stands ends) (map here table_keys)
  stands-same =
      filter-map (stands ends) here brought_keys
      ∙ ap (map here) (filter-same key_cmp_total key_cmp_exact (λ k. stands ends (here k))
      brought_keys table_keys
      (in_order_once-rising key_cmp_total key_cmp_exact
      (map (λ (a : Addition). a.key) (all_brought n group range ends bs)))
      (in_order_once-rising key_cmp_total key_cmp_exact
      (map (key_of group range.by) (in_range range bs) ++ flat_map edges (groups_of group bs)))
      among-same)
      ∙ sym (filter-map (stands ends) here table_keys)

all-rows : {X Y : Type 0} (P : X → Type 0) (f g : X → Y) → ((x : X) → P x → f x ≡ g x)
    → (xs : List X) → AllByRecursion P xs → AllByRecursion (λ x. f x ≡ g x) xs
all-rows P f g h [] all = tt
all-rows P f g h (x ∷ xs) all = (h x all.0, all-rows P f g h xs all.1)

-- the rows of what records bring that stand are the table
pub both_rows-brought : (n : ℕ) (group : Option (List ℕ)) (range : Range) (method : Method)
    (bs : List Booked) → range.from ≤ range.to
    → filter (stands (edge_units method range)) (rows_after n [] (zeros n)
    (rows_over (both_width n) (all_brought n group range (edge_units method range) bs)))
    ≡ both_rows n group range method bs
unfolding both_rows
both_rows-brought n group range method bs ordered =
    let ends = edge_units method range in
    let keys = keys_in (all_brought n group range ends bs) in
    ap (filter (stands ends))
    (rows_after-keys n (sums_for n group range ends bs) (sum_for n group range ends bs)
    (turn_for n group range ends bs) (front-for n group range ends bs)
    (back-for n group range ends bs) keys
    (in_order_once-rising key_cmp_total key_cmp_exact
    (map (λ (a : Addition). a.key) (all_brought n group range ends bs))))
    ∙ stands-same n group range ends bs
    ∙ ap (filter (stands ends))
    (map-all (here n group range ends bs) (both_row n group range bs)
    (both_keys group range method bs)
    (all-rows (λ k. SplitsRange range k.unit) (here n group range ends bs)
    (both_row n group range bs) (row-for n group range ends bs)
    (both_keys group range method bs) (keys-split group range method bs ordered)))
