-- Unit starts are what they are meant to be: the greatest start up to a date, and the least above.
use Rattle.std.proofs.Common.{◌≡◌, ℕ, ◌+◌, ◌-◌, ◌*◌, ◌/◌, ◌<◌, ◌≤◌, ◌↔◌, true, Option, Some, None}
use Rattle.std.proofs.Common.{refl, ap, ◌∙◌, arith, inl, inr, option_map}
use Rattle.std.proofs.lemmas.Bool.{cases_lt, both_ways}
use Rattle.reg_base.specs.declared.tables.Periodicity.{Periodicity}
use Rattle.reg_base.specs.Units.{midnight, starts_unit, start_day, unit_start, next_day, next_unit}
use Rattle.reg_base.specs.Units.{IsStart, IsUnitStart, IsNextUnit, IsLastUnit, are_dates}
use Rattle.reg_base.proofs.UnitLemmas.{start_day-le, start_day-starts, start_day-greatest}
use Rattle.reg_base.proofs.UnitLemmas.{start_day-monotone, find-Some, find-None}

pub whole_days : (day : ℕ) → 86_400 * day / 86_400 ≡ day
whole_days day = omega arith

pub IsStart-midnight : (by : Periodicity) (day : ℕ) → starts_unit by day ≡ true
    → IsStart by (midnight day)
IsStart-midnight by day starts = record {
  first_second = ap midnight (whole_days day);
  starts = ap (starts_unit by) (whole_days day) ∙ starts;
}

days_le : (other date : ℕ) → other ≤ date → other / 86_400 ≤ date / 86_400
days_le other date le = omega arith

midnight-le : (other day : ℕ) → 86_400 * (other / 86_400) ≡ other → other / 86_400 ≤ day
    → other ≤ 86_400 * day
midnight-le other day whole le = omega arith

midnight-ge : (other day : ℕ) → 86_400 * (other / 86_400) ≡ other → day ≤ other / 86_400
    → 86_400 * day ≤ other
midnight-ge other day whole ge = omega arith

days_lt : (other date : ℕ) → 86_400 * (other / 86_400) ≡ other → date < other
    → date / 86_400 < other / 86_400
days_lt other date whole lt = omega arith

above_days : (date day : ℕ) → date / 86_400 < day → date < 86_400 * day
above_days date day lt = omega arith

module _ (by : Periodicity) where
  -- a start is not above the date: neither is it above its unit's start
  pub unit_start-greatest : (date other : ℕ) → IsStart by other → other ≤ date
      → other ≤ unit_start by date
  unfolding unit_start
  unit_start-greatest date other is le =
      midnight-le other (start_day by (date / 86_400)) is.first_second
      (start_day-greatest by (other / 86_400) (date / 86_400) is.starts (days_le other date le))

  pub unit_start-le : (date : ℕ) → unit_start by date ≤ date
  unfolding unit_start
  unit_start-le date = omega (arith, start_day-le by (date / 86_400))

  pub unit_start-is : (date : ℕ) → are_dates by ≡ true → IsUnitStart by date (unit_start by date)
  unfolding unit_start
  unit_start-is date dates = record {
    is_start = IsStart-midnight by (start_day by (date / 86_400))
        (start_day-starts by dates (date / 86_400));
    not_above = unit_start-le date;
    greatest = λ other is le. unit_start-greatest date other is le;
  }

  pub unit_start-monotone : (date later : ℕ) → date ≤ later
      → unit_start by date ≤ unit_start by later
  unfolding unit_start
  unit_start-monotone date later le =
      omega (
        arith,
        start_day-monotone by (date / 86_400) (later / 86_400) (days_le date later le),
      )

  -- the unit of a date starts before another start where the date is before it
  pub unit_start-lt : (date start : ℕ) → IsStart by start
      → (unit_start by date < start) ↔ (date < start)
  unit_start-lt date start is = (
    λ before. elim (cases_lt date start) [
      | inl lt ↦ lt
      | inr ge ↦ absurd (omega (arith, unit_start-greatest date start is ge))
    ],
    λ before. omega (arith, unit_start-le date),
  )

  -- the day of the next start, where there is one
  next_unit-Some : (date start : ℕ) (next : Option ℕ) → next_day by (date / 86_400) ≡ next
      → option_map midnight next ≡ Some start → IsNextUnit by date start
  unfolding next_day
  next_unit-Some date start None found is = cc
  next_unit-Some date start (Some day) found is =
      let first = date / 86_400 + 1 in
      let f = find-Some by (36_525 - first) first day found in
      let same : midnight day ≡ start = cc in
      rw (← same) (record {
        is_start = IsStart-midnight by day f.starts;
        above = above_days date day (omega (arith, f.low));
        least = λ other is_other lt.
            midnight-ge other day is_other.first_second
            (elim (cases_lt (other / 86_400) day) [
              | inl before ↦ absurd (both_ways (starts_unit by (other / 86_400))
                  (f.none (other / 86_400)
                  (omega (arith, days_lt other date is_other.first_second lt)) before)
                  is_other.starts)
              | inr ge ↦ ge
            ]);
      })

  pub next_unit-is : (date start : ℕ) → next_unit by date ≡ Some start
      → IsNextUnit by date start
  unfolding next_unit
  next_unit-is date start found = next_unit-Some date start (next_day by (date / 86_400)) refl found

  next_unit-before_end : (date day : ℕ) → next_day by (date / 86_400) ≡ Some day → day < 36_525
  unfolding next_day
  next_unit-before_end date day found =
      let first = date / 86_400 + 1 in
      let f = find-Some by (36_525 - first) first day found in omega (arith, f.low, f.high)

  next_unit-last : (date : ℕ) → next_day by (date / 86_400) ≡ None → IsLastUnit by date
  unfolding next_day
  next_unit-last date none other is lt =
      let first = date / 86_400 + 1 in
      midnight-ge other 36_525 is.first_second
      (elim (cases_lt (other / 86_400) 36_525) [
        | inl before ↦ absurd (both_ways (starts_unit by (other / 86_400))
            (find-None by (36_525 - first) first none (other / 86_400)
            (omega (arith, days_lt other date is.first_second lt)) (omega arith))
            is.starts)
        | inr ge ↦ ge
      ])

  -- there is none exactly where no unit starts behind the date before 2100
  pub next_unit-None : (date : ℕ) → (next_unit by date ≡ None) ↔ IsLastUnit by date
  unfolding next_unit
  next_unit-None date = at (next_day by (date / 86_400)) refl
    where
      at : (next : Option ℕ) → next_day by (date / 86_400) ≡ next
          → (option_map midnight next ≡ None) ↔ IsLastUnit by date
      at None e = (λ none. next_unit-last date e, λ last. refl)
      at (Some day) e = (
        λ none. cc,
        λ last.
            let is = next_unit-Some date (midnight day) (Some day) e refl in
            absurd (omega (
              arith,
              last (midnight day) is.is_start is.above,
              next_unit-before_end date day e,
            )),
      )
