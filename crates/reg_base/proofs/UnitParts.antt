-- The first day of a part of the year is the start of the unit of each day in the part.
use Rattle.std.proofs.Common.{◌≡◌, ℕ, ◌+◌, ◌-◌, ◌%◌, ◌<◌, ◌≤◌, ◌==◌, inl}
use Rattle.std.proofs.Common.{inr, pos, refl, ap, sym, subst, ◌∙◌, arith, ℤ, Option, Some, IfSome}
use Rattle.std.proofs.lemmas.Bool.{cases_lt, cases_order, eqb-true, eq-eqb, and_parts}
use Rattle.std.proofs.lemmas.Bool.{false_from_ne_true}
use Rattle.jiff_core.specs.Calendar.{day_count, IsCivilDate}
use Rattle.jiff_core.proofs.SignedLemmas.{signed_arith}
use Rattle.jiff_core.proofs.CalendarLemmas.{day_count-lt_year, day_count-lt_month, day_count-day}
use Rattle.jiff_core.proofs.CalendarLemmas.{days_in_month_bounds}
use Rattle.reg_base.specs.declared.day.Day.{Day as CalendarDay}
use Rattle.reg_base.specs.declared.tables.Periodicity.{Periodicity}
use Rattle.reg_base.specs.declared.tables.Periodicity.TheVariants.{Quarter, HalfYear, Year}
use Rattle.reg_base.specs.Days.{IsDayNumber, IsInCentury, part_start}
use Rattle.reg_base.specs.Units.{calendar_day, is_first, begins_part, starts_unit, start_day}
use Rattle.reg_base.proofs.DayLemmas.{civil-has_day, day_number_bounds, day_from_year-number}
use Rattle.reg_base.proofs.DateTextLemmas.{calendar_day-number}
use Rattle.reg_base.proofs.UnitLemmas.{start_day-unique}

-- the first of a month is not behind a day of that month or of a later one
first-le : (y : ℤ) (month m d : ℕ) → IsCivilDate y month 1 → 1 ≤ d → month ≤ m
    → day_count y month 1 ≤ day_count y m d
first-le y month m d civil some le =
    elim (cases_lt month m) [
      | inl lt ↦ omega (arith, day_count-lt_month y month 1 m d civil some lt)
      | inr ge ↦
          let same : month ≡ m = omega arith in
          omega (
            arith,
            ap (λ n. day_count y n 1) same,
            day_count-day y m 1 d (omega arith) some,
          )
    ]

-- where the first of a month lies behind the first of the part, up to a day of the part
module _ (months : ℕ) (none : (x other : ℕ) → x - x % months < other → other ≤ x
    → other % months ≡ 0 → ⊥) where
  no_part : (c g : CalendarDay) → IsCivilDate (pos c.year) c.month c.day
      → IsCivilDate (pos g.year) g.month g.day
      → IsCivilDate (pos c.year) (part_start months c).month 1
      → g.day ≡ 1 → (g.month - 1) % months ≡ 0
      → day_count (pos c.year) (part_start months c).month 1 < day_count (pos g.year) g.month g.day
      → day_count (pos g.year) g.month g.day ≤ day_count (pos c.year) c.month c.day → ⊥
  no_part c g civil civil_g civil_f first part above below =
      elim (cases_order g.year c.year) [
        | inl same ↦
            let y : pos g.year ≡ pos c.year = ap pos same in
            let over = rw (y, first) at above in
            let under = rw (y, first) at below in
            let civil_here : IsCivilDate (pos c.year) g.month 1 = (
              civil.0,
              civil_g.1,
              (omega arith, omega (arith, days_in_month_bounds (pos c.year) g.month)),
            ) in
            let high : g.month ≤ c.month = elim (cases_lt c.month g.month) [
              | inl later ↦ absurd (omega (
                arith,
                day_count-lt_month (pos c.year) c.month c.day g.month 1 civil (omega arith) later,
                under,
              ))
              | inr le ↦ le
            ] in
            let low : (part_start months c).month < g.month =
            elim (cases_lt (part_start months c).month g.month) [
              | inl later ↦ later
              | inr le ↦ absurd (omega (
                arith,
                first-le (pos c.year) g.month (part_start months c).month 1 civil_here
                    (omega arith) le,
                over,
              ))
            ] in
            none (c.month - 1) (g.month - 1) (omega arith) (omega arith) part
        | inr (inl before) ↦ absurd (omega (
          arith,
          day_count-lt_year (pos g.year) g.month g.day (pos c.year) (part_start months c).month 1
              civil_g (omega arith) (omega (arith, signed_arith)),
        ))
        | inr (inr behind) ↦ absurd (omega (
          arith,
          day_count-lt_year (pos c.year) c.month c.day (pos g.year) g.month g.day civil
              civil_g.2.0 (omega (arith, signed_arith)),
        ))
      ]

  module _ (by : Periodicity)
      (told : (day : ℕ) → starts_unit by day ≡ begins_part months (calendar_day day))
      (whole : (x : ℕ) → (x - x % months) % months ≡ 0) where
    start_day-first_of : (day number : ℕ) → day < 36_525
        → IsDayNumber (part_start months (calendar_day day)) number
        → start_day by day ≡ number - 4_382_544
    start_day-first_of day number within is =
        let c = calendar_day day in
        let f = part_start months c in
        let n = calendar_day-number day within in
        let century : IsInCentury f = record { first = n.1.first; last = n.1.last } in
        let bounds = day_number_bounds f number is century in
        let start = number - 4_382_544 in
        let at_start : calendar_day start ≡ f =
        day_from_year-number f start number is century (omega arith) in
        let civil = civil-has_day c (omega (arith, n.1.last)) n.0.real in
        let civil_f = civil-has_day f (omega (arith, n.1.last)) is.real in
        let first = first-le (pos c.year) f.month c.month c.day civil_f civil.2.0 (omega arith) in
        let month : f.month - 1 ≡ (c.month - 1) - (c.month - 1) % months = omega arith in
        start_day-unique by start day (omega (arith, first, is.counted, n.0.counted))
        (told start ∙ ap (begins_part months) at_start
        ∙ eq-eqb ((f.month - 1) % months) 0
        (ap (λ m. m % months) month ∙ whole (c.month - 1)))
        (λ other above le. false_from_ne_true (starts_unit by other) (λ starts.
        let g = calendar_day other in
        let m = calendar_day-number other (omega arith) in
        let civil_g = civil-has_day g (omega (arith, m.1.last)) m.0.real in
        let parts = and_parts (is_first g) ((g.month - 1) % months == 0)
        (sym (told other) ∙ starts) in
        no_part c g civil civil_g civil_f (eqb-true g.day 1 parts.0)
        (eqb-true ((g.month - 1) % months) 0 parts.1)
        (omega (arith, m.0.counted, is.counted)) (omega (arith, m.0.counted, n.0.counted))))

-- the day that is found as the first of the part
pub part_number : (months : ℕ) (c day : CalendarDay) (found : Option ℕ) (number : ℕ)
    → IfSome found (IsDayNumber (part_start months c)) → found ≡ Some number → c ≡ day
    → 4_382_544 ≤ number
    → IsDayNumber (part_start months day) (4_382_544 + (number - 4_382_544))
part_number months c day found number is same at_day first =
    let n : IsDayNumber (part_start months c) number = (rw same at is) in
    let back : number ≡ 4_382_544 + (number - 4_382_544) = omega arith in
    subst (λ x. IsDayNumber (part_start months day) x) back
    (subst (λ x. IsDayNumber (part_start months x) number) at_day n)

module _ (by : Periodicity) (day first : ℕ) (within : day < 36_525) where
  pub start_day-quarter : by ≡ Quarter
      → IsDayNumber (part_start 3 (calendar_day day)) (4_382_544 + first)
      → first ≡ start_day by day
  unfolding starts_unit
  start_day-quarter same is =
      sym (ap (λ b. start_day b day) same
      ∙ start_day-first_of 3 (λ x other above le is. omega arith) Quarter (λ day. refl)
      (λ x. omega arith) day (4_382_544 + first) within is
      ∙ omega arith)

  pub start_day-half_year : by ≡ HalfYear
      → IsDayNumber (part_start 6 (calendar_day day)) (4_382_544 + first)
      → first ≡ start_day by day
  unfolding starts_unit
  start_day-half_year same is =
      sym (ap (λ b. start_day b day) same
      ∙ start_day-first_of 6 (λ x other above le is. omega arith) HalfYear (λ day. refl)
      (λ x. omega arith) day (4_382_544 + first) within is
      ∙ omega arith)

  pub start_day-year : by ≡ Year
      → IsDayNumber (part_start 12 (calendar_day day)) (4_382_544 + first)
      → first ≡ start_day by day
  unfolding starts_unit
  start_day-year same is =
      sym (ap (λ b. start_day b day) same
      ∙ start_day-first_of 12 (λ x other above le is. omega arith) Year (λ day. refl)
      (λ x. omega arith) day (4_382_544 + first) within is
      ∙ omega arith)
