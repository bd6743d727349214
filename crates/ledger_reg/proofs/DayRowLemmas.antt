-- Units of a range, and rows that are made day by day.
use Rattle.std.proofs.Common.{◌≡◌, ℕ, zero, suc, ◌+◌, ◌-◌, ◌*◌, ◌/◌, ◌≤◌, ℤ, Bool}
use Rattle.std.proofs.Common.{true, false, cond, List, []}
use Rattle.std.proofs.Common.{◌∷◌, ◌++◌, map, refl, ap, ◌∙◌, sym, arith}
use Rattle.std.specs.List.{filter, range_with_len}
use Rattle.std.specs.Ordering.{nat_cmp, is_eq}
use Rattle.reg_base.specs.declared.tables.Periodicity.{Periodicity}
use Rattle.reg_base.specs.declared.tables.Periodicity.TheVariants.{Period, Record, Recorder, Day}
use Rattle.reg_base.specs.declared.tables.Periodicity.TheVariants.{Week, TenDays, Month, Quarter}
use Rattle.reg_base.specs.declared.tables.Periodicity.TheVariants.{HalfYear, Year}
use Rattle.reg_base.specs.declared.tables.Unit.{Unit as TableUnit}
use Rattle.reg_base.specs.declared.tables.Unit.TheVariants.{Start}
use Rattle.reg_base.specs.declared.tables.AccountRow.{AccountRow}
use Rattle.reg_base.specs.Turnovers.{unit_cmp, unit_of_date}
use Rattle.reg_base.specs.Units.{midnight, starts_unit, start_day, unit_start, starts_between}
use Rattle.reg_base.specs.Units.{are_dates}
use Rattle.cfg_model.specs.declared.account.Nature.{Nature}
use Rattle.cfg_model.specs.AccountTables.{range_units}
use Rattle.cfg_model.specs.AccountTables.{has_amount}
use Rattle.ledger_reg.specs.declared.units.Units.{Units}
use Rattle.ledger_reg.specs.Sides.{SidePlace}
use Rattle.ledger_reg.specs.Slots.{SlotAmounts}
use Rattle.ledger_reg.specs.UnitRows.{unit_at, starts_by, in_slot, net_after, unit_row}
use Rattle.ledger_reg.specs.UnitRows.{shown_row, unit_rows}
use Rattle.ledger_reg.proofs.UnitNetLemmas.{unit-midnight}

-- ---- units

pub unit_at-dates : (by : Periodicity) → are_dates by ≡ true → (s : ℕ) → unit_at by s ≡ Start s
unit_at-dates Period h s = cc
unit_at-dates Record h s = refl
unit_at-dates Recorder h s = refl
unit_at-dates Day h s = refl
unit_at-dates Week h s = refl
unit_at-dates TenDays h s = refl
unit_at-dates Month h s = refl
unit_at-dates Quarter h s = refl
unit_at-dates HalfYear h s = refl
unit_at-dates Year h s = refl

abbrev pub IsOf : Periodicity → TableUnit → ℕ → Type 0
IsOf by u s = (date : ℕ)
    → is_eq (unit_cmp (unit_of_date by date) u) ≡ is_eq (nat_cmp (unit_start by date) s)

pub of-dates : (by : Periodicity) → are_dates by ≡ true → (s date : ℕ)
    → is_eq (unit_cmp (unit_of_date by date) (unit_at by s))
    ≡ is_eq (nat_cmp (unit_start by date) s)
of-dates Period h s date = cc
of-dates Record h s date = refl
of-dates Recorder h s date = refl
of-dates Day h s date = refl
of-dates Week h s date = refl
of-dates TenDays h s date = refl
of-dates Month h s date = refl
of-dates Quarter h s date = refl
of-dates HalfYear h s date = refl
of-dates Year h s date = refl

no-day : (day : ℕ) → start_day Period day ≡ 0
unfolding start_day starts_unit
no-day zero = refl
no-day (suc day) = no-day day

start-Period : (date : ℕ) → unit_start Period date ≡ 0
start-Period date = unit-midnight Period date ∙ ap (λ n. 86_400 * n) (no-day (date / 86_400))

pub of-Period : (date : ℕ) → is_eq (unit_cmp (unit_of_date Period date) (unit_at Period 0))
    ≡ is_eq (nat_cmp (unit_start Period date) 0)
of-Period date = sym (ap (λ n. is_eq (nat_cmp n 0)) (start-Period date))

pub units-by : (by : Periodicity) (from to : ℕ)
    → range_units (record { from = from; to = to; by = by })
    ≡ map (unit_at by) (starts_by by from to)
units-by Period from to = refl
units-by Record from to = refl
units-by Recorder from to = refl
units-by Day from to = refl
units-by Week from to = refl
units-by TenDays from to = refl
units-by Month from to = refl
units-by Quarter from to = refl
units-by HalfYear from to = refl
units-by Year from to = refl

-- ---- rows day by day

pub shown-front : (row : AccountRow) (rows : List AccountRow)
    → shown_row row ++ rows ≡ cond (has_amount row) (row ∷ rows) rows
shown-front row rows = at (has_amount row)
  where
    at : (b : Bool) → cond b (row ∷ []) [] ++ rows ≡ cond b (row ∷ rows) rows
    at true = refl
    at false = refl

module _ (units : Units) (nature : Nature) (own : List SlotAmounts) (place : SidePlace)
    (by : Periodicity) (last : ℕ) (net : ℕ → ℤ) (row : TableUnit → AccountRow)
    (row-is : (day : ℕ) → starts_unit by day ≡ true → day ≤ last
    → row (unit_at by (86_400 * day)) ≡ unit_row units nature place (net day) (86_400 * day)
    (in_slot own place (86_400 * day + 1)))
    (next : (day : ℕ) → net_after (net day) (in_slot own place (86_400 * day + 1))
    ≡ net (day + 1))
    (skip : (day : ℕ) → starts_unit by day ≡ false → net day ≡ net (day + 1)) where
  abbrev starts_from : ℕ → ℕ → List ℕ
  starts_from day count = map midnight (filter (starts_unit by) (range_with_len day count))

  abbrev rows_at : List ℕ → List AccountRow
  rows_at starts = filter has_amount (map row (map (unit_at by) starts))

  days-rows : (count day : ℕ) → count ≤ last + 1 - day
      → unit_rows units nature own place (net day) (starts_from day count)
      ≡ rows_at (starts_from day count)
  days-rows zero day few = refl
  days-rows (suc count) day few =
      at (starts_unit by day) refl (days-rows count (day + 1) (omega (arith, few)))
    where
      rest : List ℕ
      rest = filter (starts_unit by) (range_with_len (day + 1) count)

      at : (b : Bool) → starts_unit by day ≡ b
          → unit_rows units nature own place (net (day + 1)) (map midnight rest)
          ≡ rows_at (map midnight rest)
          → unit_rows units nature own place (net day) (map midnight (cond b (day ∷ rest) rest))
          ≡ rows_at (map midnight (cond b (day ∷ rest) rest))
      at true starts ih =
          let made : AccountRow = unit_row units nature place (net day) (86_400 * day)
          (in_slot own place (86_400 * day + 1)) in
          ap (λ n. shown_row made ++ unit_rows units nature own place n (map midnight rest))
          (next day)
          ∙ ap (λ rows. shown_row made ++ rows) ih
          ∙ shown-front made (rows_at (map midnight rest))
          ∙ ap (λ r. cond (has_amount r) (r ∷ rows_at (map midnight rest))
          (rows_at (map midnight rest))) (sym (row-is day starts (omega (arith, few))))
      at false none ih =
          ap (λ n. unit_rows units nature own place n (map midnight rest)) (skip day none) ∙ ih

  pub dates-rows : (from to : ℕ) → last ≡ to / 86_400
      → (opening : ℤ) → opening ≡ net (start_day by (from / 86_400))
      → unit_rows units nature own place opening (starts_between by from to)
      ≡ filter has_amount (map row (map (unit_at by) (starts_between by from to)))
  unfolding starts_between
  dates-rows from to end opening is =
      let first = start_day by (from / 86_400) in
      ap (λ n. unit_rows units nature own place n (starts_from first (to / 86_400 + 1 - first))) is
      ∙ days-rows (to / 86_400 + 1 - first) first (omega (arith, end))
