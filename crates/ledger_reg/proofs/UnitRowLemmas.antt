-- The rows of a key that are made unit by unit are those of its table.
use Rattle.std.proofs.Common.{◌≡◌, ℕ, ◌+◌, ◌*◌, ◌/◌, ◌≤◌, ℤ, pos, ◌-ℤ◌, Bool}
use Rattle.std.proofs.Common.{true, false, cond, ◌&&◌, ◌||◌, nat_lt, nat_le, max, Option, List, []}
use Rattle.std.proofs.Common.{◌∷◌, map, refl, ap, ◌∙◌, sym, subst, arith}
use Rattle.std.specs.List.{filter}
use Rattle.std.specs.Ordering.{nat_cmp, is_eq}
use Rattle.reg_base.specs.declared.cut.Cut.TheVariants.{BeforeDate}
use Rattle.reg_base.specs.declared.records.Side.{Side}
use Rattle.reg_base.specs.declared.tables.Periodicity.{Periodicity}
use Rattle.reg_base.specs.declared.tables.Periodicity.TheVariants.{Period, Record, Recorder, Day}
use Rattle.reg_base.specs.declared.tables.Periodicity.TheVariants.{Week, TenDays, Month, Quarter}
use Rattle.reg_base.specs.declared.tables.Periodicity.TheVariants.{HalfYear, Year}
use Rattle.reg_base.specs.declared.tables.Unit.{Unit as TableUnit}
use Rattle.reg_base.specs.declared.tables.Range.{Range}
use Rattle.reg_base.specs.declared.tables.AccountRow.{AccountRow}
use Rattle.reg_base.specs.BookedEntries.{BookedEntry, entries_within, entries_in}
use Rattle.reg_base.specs.Sums.{sum_over}
use Rattle.reg_base.specs.Turnovers.{unit_cmp, unit_of_date}
use Rattle.reg_base.specs.Units.{starts_unit, start_day, unit_start, starts_between}
use Rattle.reg_base.specs.Units.{are_dates, IsStart}
use Rattle.reg_base.proofs.ForAbove.{unit_start-lt}
use Rattle.reg_base.proofs.ForTables.{sum_over-passed}
use Rattle.cfg_model.specs.declared.ledger.Chart.{Chart}
use Rattle.cfg_model.specs.declared.account.Nature.{Nature}
use Rattle.cfg_model.specs.AccountTables.{AccountKey, side_amount, debit_at, credit_at, net_at}
use Rattle.cfg_model.specs.AccountTables.{nature_at, entries_of_unit, opening_date, range_units}
use Rattle.cfg_model.specs.AccountTables.{has_amount, account_row, no_balance, with_nets}
use Rattle.cfg_model.specs.AccountTables.{account_turnover_row, account_both_row}
use Rattle.ledger_reg.specs.declared.sides.Amounts.{Amounts}
use Rattle.ledger_reg.specs.declared.units.Units.{Units}
use Rattle.ledger_reg.specs.Sides.{SidePlace}
use Rattle.ledger_reg.specs.Slots.{SlotAmounts, slot_at, amount_to}
use Rattle.ledger_reg.specs.UnitRows.{unit_at, starts_by, in_slot, net_of, net_after, unit_row}
use Rattle.ledger_reg.specs.UnitRows.{unit_rows, place_rows, key_of_place}
use Rattle.ledger_reg.proofs.MovedLemmas.{cond-and, moved_at}
use Rattle.ledger_reg.proofs.UnitNetLemmas.{same-unit, before-start, before-range, limited-side}
use Rattle.ledger_reg.proofs.UnitNetLemmas.{unit-midnight, sum_in, net_below, net-next, net-skip}
use Rattle.ledger_reg.proofs.UnitNetLemmas.{net-first}
use Rattle.ledger_reg.proofs.StartLemmas.{starts-none, starts-Record, starts-Recorder}
use Rattle.ledger_reg.proofs.DayRowLemmas.{unit_at-dates, IsOf, of-dates, of-Period, units-by}
use Rattle.ledger_reg.proofs.DayRowLemmas.{shown-front, dates-rows}

-- ---- the rows of a key

module _ (chart : Chart) (key : AccountKey) (range : Range) (bs : List BookedEntry) where
  abbrev side_in : (BookedEntry → Option Side) → BookedEntry → ℤ
  side_in side b =
      side_amount chart key (side b) (amount_to range b.entry.period b.entry.amount)

  abbrev side_of : (BookedEntry → Option Side) → BookedEntry → ℤ
  side_of side b = side_amount chart key (side b) b.entry.amount

  abbrev counted : BookedEntry → Bool
  counted b = nat_lt b.entry.period range.from || nat_le b.entry.period range.to

  limited : (side : BookedEntry → Option Side) (t : Bool) (b : BookedEntry)
      → cond t (side_in side b) (pos 0) ≡ cond (t && counted b) (side_of side b) (pos 0)
  limited side t b =
      ap (λ x. cond t x (pos 0)) (limited-side chart key (side b) (counted b) b.entry.amount)
      ∙ cond-and t (counted b) (side_of side b)

  -- what a side moves in a unit
  turned : (side : BookedEntry → Option Side) (u : TableUnit) (s : ℕ) → IsOf range.by u s
      → sum_over (side_of side) (entries_of_unit range.by u (entries_in range bs))
      ≡ sum_in range (side_in side) bs (s + 1)
  turned side u s is =
      sum_over-passed (side_of side)
      (λ b. is_eq (unit_cmp (unit_of_date range.by b.entry.period) u)) (entries_in range bs)
      ∙ sum_over-passed
      (λ b. cond (is_eq (unit_cmp (unit_of_date range.by b.entry.period) u)) (side_of side b)
      (pos 0)) (λ b. nat_le range.from b.entry.period && nat_le b.entry.period range.to) bs
      ∙ (λ i. sum_over (λ b. each b i) bs)
    where
      each : (b : BookedEntry)
          → cond (nat_le range.from b.entry.period && nat_le b.entry.period range.to)
          (cond (is_eq (unit_cmp (unit_of_date range.by b.entry.period) u)) (side_of side b)
          (pos 0)) (pos 0)
          ≡ cond (is_eq (nat_cmp (slot_at range b.entry.period) (s + 1))) (side_in side b) (pos 0)
      each b =
          let inside = nat_le range.from b.entry.period && nat_le b.entry.period range.to in
          cond-and inside (is_eq (unit_cmp (unit_of_date range.by b.entry.period) u))
          (side_of side b)
          ∙ ap (λ t. cond (inside && t) (side_of side b) (pos 0)) (is b.entry.period)
          ∙ ap (λ t. cond t (side_of side b) (pos 0)) (same-unit b.entry.period range.from range.to
          (unit_start range.by b.entry.period) s)
          ∙ sym (limited side (is_eq (nat_cmp (slot_at range b.entry.period) (s + 1))) b)

  -- what a side has before a date
  before : (side : BookedEntry → Option Side) (date : ℕ) (test : ℕ → Bool)
      → ((b : BookedEntry) → nat_lt b.entry.period date
      ≡ (test (slot_at range b.entry.period) && counted b))
      → sum_over (side_of side) (entries_within (BeforeDate date) bs)
      ≡ sum_over (λ b. cond (test (slot_at range b.entry.period)) (side_in side b) (pos 0)) bs
  before side date test is =
      sum_over-passed (side_of side) (λ b. nat_lt b.entry.period date) bs
      ∙ (λ i. sum_over (λ b. each b i) bs)
    where
      each : (b : BookedEntry) → cond (nat_lt b.entry.period date) (side_of side b) (pos 0)
          ≡ cond (test (slot_at range b.entry.period)) (side_in side b) (pos 0)
      each b =
          ap (λ t. cond t (side_of side b) (pos 0)) (is b)
          ∙ sym (limited side (test (slot_at range b.entry.period)) b)

  net-before : (date : ℕ) (test : ℕ → Bool)
      → ((b : BookedEntry) → nat_lt b.entry.period date
      ≡ (test (slot_at range b.entry.period) && counted b))
      → net_at chart key (entries_within (BeforeDate date) bs)
      ≡ sum_over (λ b. cond (test (slot_at range b.entry.period)) (side_in (λ x. x.entry.debit) b)
      (pos 0)) bs
      -ℤ sum_over (λ b. cond (test (slot_at range b.entry.period)) (side_in (λ x. x.entry.credit) b)
      (pos 0)) bs
  net-before date test is = λ i.
      before (λ b. b.entry.debit) date test is i -ℤ before (λ b. b.entry.credit) date test is i

  module _ (own : List SlotAmounts) (place : SidePlace)
      (moved : (n : ℕ) → in_slot own place n ≡ moved_at chart key range bs n)
      (same : (u : TableUnit) (opening : ℤ × ℤ) (d c : ℤ) (closing : ℤ × ℤ)
      → account_row (key_of_place place) u opening d c closing
      ≡ account_row key u opening d c closing) where
    -- the row of turnovers of a unit
    turn-row : (u : TableUnit) (s : ℕ) → IsOf range.by u s
        → account_turnover_row chart range.by (entries_in range bs) key u
        ≡ account_row key u no_balance (in_slot own place (s + 1)).debit
        (in_slot own place (s + 1)).credit no_balance
    turn-row u s is =
        (λ i. account_row key u no_balance (turned (λ b. b.entry.debit) u s is i)
        (turned (λ b. b.entry.credit) u s is i) no_balance)
        ∙ (λ i. account_row key u no_balance (sym (moved (s + 1)) i).debit
        (sym (moved (s + 1)) i).credit no_balance)

    abbrev units_of : Bool → Units
    units_of nets = record {
      by = range.by;
      nets = nets;
      starts = starts_by range.by range.from range.to;
    }

    -- as it is made
    turn-made : (nature : Nature) (net : ℤ) (s : ℕ) → IsOf range.by (unit_at range.by s) s
        → account_turnover_row chart range.by (entries_in range bs) key (unit_at range.by s)
        ≡ unit_row (units_of false) nature place net s (in_slot own place (s + 1))
    turn-made nature net s is =
        turn-row (unit_at range.by s) s is
        ∙ sym (same (unit_at range.by s) no_balance (in_slot own place (s + 1)).debit
        (in_slot own place (s + 1)).credit no_balance)

    both-made : (net : ℤ) (s : ℕ) → IsOf range.by (unit_at range.by s) s
        → net_at chart key
        (entries_within (BeforeDate (opening_date range (unit_at range.by s))) bs) ≡ net
        → account_both_row chart range bs key (unit_at range.by s)
        ≡ unit_row (units_of true) (nature_at chart key.account) place net s
        (in_slot own place (s + 1))
    both-made net s is opening =
        let nature = nature_at chart key.account in
        let a : Amounts = in_slot own place (s + 1) in
        (λ i. with_nets nature (opening i) (turn-row (unit_at range.by s) s is i))
        ∙ sym (same (unit_at range.by s)
        (Rattle.cfg_model.specs.AccountTables.by_nature nature net) a.debit a.credit
        (Rattle.cfg_model.specs.AccountTables.by_nature nature (net_after net a)))

    is-start : (by : Periodicity) (day : ℕ) → starts_unit by day ≡ true → IsStart by (86_400 * day)
    is-start by day starts =
        let number : 86_400 * day / 86_400 ≡ day = omega arith in
        record {
          first_second = omega arith;
          starts = ap (starts_unit by) number ∙ starts;
        }

    -- the net before a unit that is a date, and before the whole range
    opening-date : are_dates range.by ≡ true → (day : ℕ) → starts_unit range.by day ≡ true
        → day ≤ range.to / 86_400
        → net_at chart key
        (entries_within (BeforeDate (opening_date range (unit_at range.by (86_400 * day)))) bs)
        ≡ net_below chart key range bs day
    opening-date dates day starts last =
        ap (λ u. net_at chart key (entries_within (BeforeDate (opening_date range u)) bs))
        (unit_at-dates range.by dates (86_400 * day))
        ∙ net-before (max range.from (86_400 * day)) (λ n. nat_lt n (86_400 * day + 1))
        (λ b.
        let lt = unit_start-lt range.by b.entry.period (86_400 * day)
        (is-start range.by day starts) in
        before-start b.entry.period range.from range.to (unit_start range.by b.entry.period)
        (86_400 * day) (omega (arith, last)) lt.0 lt.1)

    opening-whole : range.by ≡ Period
        → net_at chart key
        (entries_within (BeforeDate (opening_date range (unit_at range.by 0))) bs)
        ≡ net_of (in_slot own place 0)
    opening-whole whole =
        ap (λ by. net_at chart key
        (entries_within (BeforeDate (opening_date range (unit_at by 0))) bs)) whole
        ∙ net-before range.from (λ n. is_eq (nat_cmp n 0))
        (λ b. before-range b.entry.period range.from range.to (unit_start range.by b.entry.period))
        ∙ ap net_of (sym (moved 0))

    of-whole : range.by ≡ Period → (date : ℕ)
        → is_eq (unit_cmp (unit_of_date range.by date) (unit_at range.by 0))
        ≡ is_eq (nat_cmp (unit_start range.by date) 0)
    of-whole whole date =
        subst (λ (by : Periodicity). is_eq (unit_cmp (unit_of_date by date) (unit_at by 0))
        ≡ is_eq (nat_cmp (unit_start by date) 0)) (sym whole) (of-Period date)

    -- all rows, where each is as it is made
    module _ (nets : Bool) (nature : Nature) (row : TableUnit → AccountRow)
        (whole-is : range.by ≡ Period → row (unit_at range.by 0)
        ≡ unit_row (units_of nets) nature place (net_of (in_slot own place 0)) 0
        (in_slot own place 1))
        (date-is : are_dates range.by ≡ true → (day : ℕ) → starts_unit range.by day ≡ true
        → day ≤ range.to / 86_400
        → row (unit_at range.by (86_400 * day))
        ≡ unit_row (units_of nets) nature place (net_below chart key range bs day) (86_400 * day)
        (in_slot own place (86_400 * day + 1))) where
      abbrev Made : List ℕ → Type 0
      Made starts = unit_rows (units_of nets) nature own place (net_of (in_slot own place 0)) starts
          ≡ filter has_amount (map row (map (unit_at range.by) starts))

      made-dates : are_dates range.by ≡ true → Made (starts_between range.by range.from range.to)
      made-dates dates =
          dates-rows (units_of nets) nature own place range.by (range.to / 86_400)
          (net_below chart key range bs) row (date-is dates)
          (λ day. ap (net_after (net_below chart key range bs day)) (moved (86_400 * day + 1))
          ∙ net-next chart key range bs day)
          (net-skip chart key range bs dates) range.from range.to refl
          (net_of (in_slot own place 0))
          (ap net_of (moved 0)
          ∙ net-first chart key range bs (start_day range.by (range.from / 86_400))
          (unit-midnight range.by range.from))

      made-date : (by : Periodicity) → range.by ≡ by
          → starts_by by range.from range.to ≡ starts_between by range.from range.to
          → are_dates by ≡ true → Made (starts_by range.by range.from range.to)
      made-date by is starts dates =
          subst Made (ap (λ b. starts_between b range.from range.to) is ∙ sym starts
          ∙ ap (λ b. starts_by b range.from range.to) (sym is))
          (made-dates (ap are_dates is ∙ dates))

      made-none : (by : Periodicity) → range.by ≡ by → starts_by by range.from range.to ≡ []
          → Made (starts_by range.by range.from range.to)
      made-none by is none =
          subst Made (sym (ap (λ b. starts_by b range.from range.to) is ∙ none)) refl

      made-whole : range.by ≡ Period → Made (0 ∷ [])
      made-whole is =
          let made = unit_row (units_of nets) nature place (net_of (in_slot own place 0)) 0
          (in_slot own place 1) in
          shown-front made []
          ∙ ap (λ r. cond (has_amount r) (r ∷ []) []) (sym (whole-is is))

      made-by : (by : Periodicity) → range.by ≡ by → Made (starts_by range.by range.from range.to)
      made-by Period is =
          subst Made (sym (ap (λ b. starts_by b range.from range.to) is)) (made-whole is)
      made-by Record is =
          made-none Record is (starts-none Record starts-Record range.from range.to)
      made-by Recorder is =
          made-none Recorder is (starts-none Recorder starts-Recorder range.from range.to)
      made-by Day is = made-date Day is refl refl
      made-by Week is = made-date Week is refl refl
      made-by TenDays is = made-date TenDays is refl refl
      made-by Month is = made-date Month is refl refl
      made-by Quarter is = made-date Quarter is refl refl
      made-by HalfYear is = made-date HalfYear is refl refl
      made-by Year is = made-date Year is refl refl

      pub made-rows : place_rows (units_of nets) nature own place
          ≡ filter has_amount (map row (range_units range))
      made-rows =
          made-by range.by refl
          ∙ ap (λ us. filter has_amount (map row us))
          (sym (units-by range.by range.from range.to))

    -- the rows of turnovers of a key
    pub turnover-rows : (nature : Nature) → place_rows (units_of false) nature own place
        ≡ filter has_amount
        (map (account_turnover_row chart range.by (entries_in range bs) key) (range_units range))
    turnover-rows nature =
        made-rows false nature (account_turnover_row chart range.by (entries_in range bs) key)
        (λ whole. turn-made nature (net_of (in_slot own place 0)) 0 (of-whole whole))
        (λ dates day starts last. turn-made nature (net_below chart key range bs day)
        (86_400 * day) (of-dates range.by dates (86_400 * day)))

    -- the rows of balances and turnovers of a key
    pub both-rows : place_rows (units_of true) (nature_at chart key.account) own place
        ≡ filter has_amount (map (account_both_row chart range bs key) (range_units range))
    both-rows =
        made-rows true (nature_at chart key.account) (account_both_row chart range bs key)
        (λ whole. both-made (net_of (in_slot own place 0)) 0 (of-whole whole)
        (opening-whole whole))
        (λ dates day starts last. both-made (net_below chart key range bs day)
        (86_400 * day) (of-dates range.by dates (86_400 * day))
        (opening-date dates day starts last))
