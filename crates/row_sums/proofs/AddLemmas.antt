-- Rows that add up records, one record more, and what is shown of them.
use Rattle.std.proofs.Common.{◌≡◌, ℕ, ◌<◌, ℤ, pos, ◌+ℤ◌, Bool, true, false, ◌&&◌}
use Rattle.std.proofs.Common.{cond, Option, List, [], ◌∷◌, ◌++◌, map, length, refl, ap, ◌∙◌}
use Rattle.std.proofs.Common.{sym, subst, arith}
use Rattle.std.specs.List.{filter, range_with_len}
use Rattle.std.specs.List.Sorted.{IsStrictlySortedBy}
use Rattle.std.specs.Ordering.{is_eq}
use Rattle.std.specs.declared.cmp.Ordering.TheVariants.{Equal}
use Rattle.std.proofs.lemmas.Int.{ints}
use Rattle.std.proofs.lemmas.Cmp.{tied_itself}
use Rattle.std.proofs.lemmas.List.{length-map}
use Rattle.std.proofs.lemmas.List.FromFn.{length-range_with_len}
use Rattle.std.proofs.lemmas.List.Kept.{IsStrictlySortedBy-filter}
use Rattle.reg_base.specs.declared.value.Value.{Value}
use Rattle.reg_base.specs.declared.records.SumRow.{SumRow}
use Rattle.reg_base.specs.Records.{Booked, values_cmp, put_once, amount_at}
use Rattle.reg_base.specs.Balances.{group_of, groups_of, total, row_of, is_shown}
use Rattle.reg_base.specs.Balances.{sum_rows}
use Rattle.reg_base.proofs.ForAbove.{values_cmp_total, values_cmp_exact, total-push}
use Rattle.row_sums.specs.Sums.{groups_in, IsRising, is_element, sum_at, AddsUp}
use Rattle.row_sums.specs.Rows.{sums_at, with_row}
use Rattle.row_sums.proofs.RisingLemmas.{or-false, rising-put_once, element-put_once}
use Rattle.row_sums.proofs.RisingLemmas.{element-filter}
use Rattle.row_sums.proofs.RisingLemmas.{rising-same}
use Rattle.row_sums.proofs.RowLemmas.{row_by, groups_in-row_by, filter-row_by, sums_at-row_by}
use Rattle.row_sums.proofs.RowLemmas.{with_row-groups, set_row, set_row-with_row}
use Rattle.row_sums.proofs.RowLemmas.{range-get}
use Rattle.row_sums.proofs.RowLemmas.{range-same, range-zeros, zeros-range}

module _ (by : Option (List ℕ)) where
  rising-groups_of : (bs : List Booked) → IsRising (groups_of by bs)
  unfolding IsStrictlySortedBy
  rising-groups_of [] = tt
  rising-groups_of (b ∷ bs) =
      rising-put_once values_cmp_total values_cmp_exact (group_of by b) (groups_of by bs)
      (rising-groups_of bs)

  -- a group that no record has sums to 0
  total-absent : (k : List Value) (bs : List Booked) (j : ℕ)
      → is_element values_cmp k (groups_of by bs) ≡ false → total by k bs j ≡ pos 0
  total-absent k [] j h = refl
  total-absent k (b ∷ bs) j h =
      let parts = or-false (is_eq (values_cmp (group_of by b) k))
      (is_element values_cmp k (groups_of by bs))
      (sym (element-put_once values_cmp_total values_cmp_exact k (group_of by b) (groups_of by bs))
      ∙ h) in
      λ i. cond (parts.0 i) (amount_at j b.rec) (pos 0) +ℤ total-absent k bs j parts.1 i

  -- the sums of a group over one record more
  total-other : (k : List Value) (bs : List Booked) (b : Booked) (j : ℕ)
      → is_eq (values_cmp (group_of by b) k) ≡ false
      → total by k bs j ≡ total by k (bs ++ b ∷ []) j
  total-other k bs b j h =
      let z : total by k bs j ≡ pos 0 +ℤ total by k bs j = omega (arith, ints) in
      z ∙ ap (λ p. cond p (amount_at j b.rec) (pos 0) +ℤ total by k bs j) (sym h)
      ∙ sym (total-push by k bs b j)

  total-own : (bs : List Booked) (b : Booked) (j : ℕ)
      → amount_at j b.rec +ℤ total by (group_of by b) bs j
      ≡ total by (group_of by b) (bs ++ b ∷ []) j
  total-own bs b j = ap (λ p. cond (is_eq p) (amount_at j b.rec) (pos 0) +ℤ total by
      (group_of by b) bs j) (sym equal) ∙ sym (total-push by (group_of by b) bs b j)
    where
      equal : values_cmp (group_of by b) (group_of by b) ≡ Equal
      equal = tied_itself values_cmp_total (group_of by b)

  module _ (resources : ℕ) where
    -- the sums of a group at each resource
    abbrev totals : List Booked → List Value → List ℤ
    totals bs k = map (total by k bs) (range_with_len 0 resources)

    -- whether the row of a group is shown
    abbrev shows : List Booked → List Value → Bool
    shows bs k = is_shown (row_of resources by bs k)

    not-shown : (k : List Value) (bs : List Booked)
        → ((j : ℕ) → j < resources → total by k bs j ≡ pos 0) → shows bs k ≡ false
    not-shown k bs none = zeros-range (total by k bs) 0 resources resources (omega arith) none

    -- ---- what is shown

    -- a group that is shown is among groups that leave out those of 0 alone
    and-element : (k : List Value) (bs : List Booked) (gs : List (List Value))
        → (is_element values_cmp k gs ≡ false → (j : ℕ) → j < resources → total by k bs j ≡ pos 0)
        → shows bs k && is_element values_cmp k gs ≡ shows bs k
    and-element k bs gs covered = at (is_element values_cmp k gs) refl
      where
        right : (p : Bool) → p && true ≡ p
        right true = refl
        right false = refl

        wrong : (p : Bool) → p && false ≡ false
        wrong true = refl
        wrong false = refl

        at : (b : Bool) → is_element values_cmp k gs ≡ b → shows bs k && b ≡ shows bs k
        at true e = right (shows bs k)
        at false e = wrong (shows bs k) ∙ sym (not-shown k bs (covered e))

    -- the rows that are shown of rows that add up are those of a balance
    pub shown-sum_rows : (bs : List Booked) (rows : List SumRow) → AddsUp by resources bs rows
        → filter is_shown rows ≡ sum_rows resources by bs
    unfolding sum_rows
    shown-sum_rows bs rows h =
        ap (filter is_shown) h.same
        ∙ filter-row_by is_shown (totals bs) (groups_in rows)
        ∙ ap (map (row_by (totals bs))) groups
        ∙ sym (filter-row_by is_shown (totals bs) (groups_of by bs))
      where
        among : (k : List Value) → is_element values_cmp k (filter (shows bs) (groups_in rows))
            ≡ is_element values_cmp k (filter (shows bs) (groups_of by bs))
        among k =
            element-filter values_cmp_total values_cmp_exact (shows bs) k (groups_in rows)
            ∙ and-element k bs (groups_in rows) (h.covered k)
            ∙ sym (and-element k bs (groups_of by bs) (λ e j l. total-absent k bs j e))
            ∙ sym (element-filter values_cmp_total values_cmp_exact (shows bs) k (groups_of by bs))

        groups : filter (shows bs) (groups_in rows) ≡ filter (shows bs) (groups_of by bs)
        groups = rising-same values_cmp_total values_cmp_exact
            (filter (shows bs) (groups_in rows)) (filter (shows bs) (groups_of by bs))
            (IsStrictlySortedBy-filter values_cmp (shows bs) (groups_in rows) h.rising)
            (IsStrictlySortedBy-filter values_cmp (shows bs) (groups_of by bs)
            (rising-groups_of bs)) among

    -- the groups of a balance's rows are those that are shown
    groups-sum_rows : (bs : List Booked) (rows : List SumRow) → rows ≡ sum_rows resources by bs
        → groups_in rows ≡ filter (shows bs) (groups_of by bs)
    unfolding sum_rows
    groups-sum_rows bs rows e =
        ap groups_in (e ∙ filter-row_by is_shown (totals bs) (groups_of by bs))
        ∙ groups_in-row_by (totals bs) (filter (shows bs) (groups_of by bs))

    -- the rows of a balance add up its records
    pub AddsUp-sum_rows : (bs : List Booked) (rows : List SumRow) → rows ≡ sum_rows resources by bs
        → AddsUp by resources bs rows
    unfolding sum_rows
    AddsUp-sum_rows bs rows e = record {
      rising = subst IsRising (sym (groups-sum_rows bs rows e))
          (IsStrictlySortedBy-filter values_cmp (shows bs) (groups_of by bs) (rising-groups_of bs));
      same = e ∙ filter-row_by is_shown (totals bs) (groups_of by bs)
          ∙ ap (map (row_by (totals bs))) (sym (groups-sum_rows bs rows e));
      covered = λ k h. at k (is_element values_cmp k (groups_of by bs)) refl
          (sym (element-filter values_cmp_total values_cmp_exact (shows bs) k (groups_of by bs))
          ∙ ap (is_element values_cmp k) (sym (groups-sum_rows bs rows e)) ∙ h);
    }
      where
        left : (p : Bool) → p && true ≡ false → p ≡ false
        left true h = absurd (cc)
        left false h = refl

        at : (k : List Value) (b : Bool) → is_element values_cmp k (groups_of by bs) ≡ b
            → shows bs k && is_element values_cmp k (groups_of by bs) ≡ false
            → (j : ℕ) → j < resources → total by k bs j ≡ pos 0
        at k false p h j l = total-absent k bs j p
        at k true p h j l =
            ap (total by k bs) (omega arith)
            ∙ range-zeros (total by k bs) j 0 resources
            (left (shows bs k) (ap (λ b. shows bs k && b) (sym p) ∙ h)) l

    -- no rows add up no records
    pub AddsUp-nil : AddsUp by resources [] []
    unfolding IsStrictlySortedBy
    AddsUp-nil = record { rising = tt; same = refl; covered = λ k h j l. refl }

    -- ---- one record more

    module _ (bs : List Booked) (old : List SumRow) (h : AddsUp by resources bs old) where
      -- the sum of a group's row, and 0 where there is none
      pub sum_at-old : (k : List Value) (j : ℕ) → j < resources
          → sum_at (sums_at k old) j ≡ total by k bs j
      sum_at-old k j l =
          ap (λ rows. sum_at (sums_at k rows) j) h.same
          ∙ ap (λ s. sum_at s j) (sums_at-row_by (totals bs) k (groups_in old))
          ∙ at (is_element values_cmp k (groups_in old)) refl
        where
          at : (b : Bool) → is_element values_cmp k (groups_in old) ≡ b
              → sum_at (cond b (totals bs k) []) j ≡ total by k bs j
          at true e =
              range-get (total by k bs) j 0 resources l ∙ ap (total by k bs) (omega arith)
          at false e = sym (h.covered k e j l)

      -- a row that is found has as many sums as there are resources
      pub length-found : (k : List Value) → is_element values_cmp k (groups_in old) ≡ true
          → length (sums_at k old) ≡ resources
      length-found k has =
          ap (λ rows. length (sums_at k rows)) h.same
          ∙ ap length (sums_at-row_by (totals bs) k (groups_in old)
          ∙ ap (λ b. cond b (totals bs k) []) has)
          ∙ length-map (range_with_len 0 resources) (total by k bs)
          ∙ length-range_with_len 0 resources

      module _ (b : Booked) (k : List Value) (own : k ≡ group_of by b) where
        abbrev next : List Booked
        next = bs ++ b ∷ []

        others : (g : List Value) → is_eq (values_cmp k g) ≡ false → totals bs g ≡ totals next g
        others g e = range-same (total by g bs) (total by g next) resources 0 resources
            (omega arith)
            (λ j l. total-other g bs b j (ap (λ q. is_eq (values_cmp q g)) (sym own) ∙ e))

        own-sums : (v : List ℤ)
            → v ≡ map (λ j. amount_at j b.rec +ℤ sum_at (sums_at k old) j)
            (range_with_len 0 resources)
            → v ≡ totals next k
        own-sums v e =
            e
            ∙ range-same (λ j. amount_at j b.rec +ℤ sum_at (sums_at k old) j) (total by k next)
            resources 0 resources (omega arith)
            (λ j l. ap (λ t. amount_at j b.rec +ℤ t) (sum_at-old k j l)
            ∙ ap (λ q. amount_at j b.rec +ℤ total by q bs j) own
            ∙ total-own bs b j ∙ ap (λ q. total by q next j) (sym own))

        rows-next : (v : List ℤ) (new : List SumRow)
            → v ≡ map (λ j. amount_at j b.rec +ℤ sum_at (sums_at k old) j)
            (range_with_len 0 resources)
            → new ≡ with_row (record { group = k; sums = v }) old
            → new ≡ map (row_by (totals next)) (put_once values_cmp k (groups_in old))
        rows-next v new e n =
            n ∙ ap (λ s. with_row (record { group = k; sums = s }) old) (own-sums v e)
            ∙ ap (with_row (row_by (totals next) k)) h.same
            ∙ with_row-groups (totals bs) (totals next) k others (groups_in old) h.rising

        pub AddsUp-push : (v : List ℤ) (new : List SumRow)
            → v ≡ map (λ j. amount_at j b.rec +ℤ sum_at (sums_at k old) j)
            (range_with_len 0 resources)
            → new ≡ with_row (record { group = k; sums = v }) old
            → AddsUp by resources (bs ++ b ∷ []) new
        AddsUp-push v new e n = record {
          rising = subst IsRising (sym groups)
              (rising-put_once values_cmp_total values_cmp_exact k (groups_in old) h.rising);
          same = rows-next v new e n ∙ ap (map (row_by (totals next))) (sym groups);
          covered = λ g none j l. absent g j l (or-false (is_eq (values_cmp k g))
              (is_element values_cmp g (groups_in old))
              (sym (element-put_once values_cmp_total values_cmp_exact g k (groups_in old))
              ∙ ap (is_element values_cmp g) (sym groups) ∙ none));
        }
          where
            groups : groups_in new ≡ put_once values_cmp k (groups_in old)
            groups = ap groups_in (rows-next v new e n)
                ∙ groups_in-row_by (totals next) (put_once values_cmp k (groups_in old))

            absent : (g : List Value) (j : ℕ) → j < resources
                → (is_eq (values_cmp k g) ≡ false)
                × (is_element values_cmp g (groups_in old) ≡ false)
                → total by g next j ≡ pos 0
            absent g j l none =
                sym (total-other g bs b j
                (ap (λ q. is_eq (values_cmp q g)) (sym own) ∙ none.0))
                ∙ h.covered g none.1 j l

        -- the same in a row that stands
        pub AddsUp-raise : (v : List ℤ) (new : List SumRow)
            → is_element values_cmp k (groups_in old) ≡ true
            → v ≡ map (λ j. amount_at j b.rec +ℤ sum_at (sums_at k old) j)
            (range_with_len 0 (length (sums_at k old)))
            → new ≡ set_row k v old → AddsUp by resources (bs ++ b ∷ []) new
        AddsUp-raise v new has e n =
            AddsUp-push v new
            (e ∙ ap (λ n. map (λ j. amount_at j b.rec +ℤ sum_at (sums_at k old) j)
            (range_with_len 0 n)) (length-found k has))
            (n ∙ ap (set_row k v) h.same
            ∙ set_row-with_row k v (totals bs) (groups_in old) h.rising has
            ∙ ap (with_row (record { group = k; sums = v })) (sym h.same))
