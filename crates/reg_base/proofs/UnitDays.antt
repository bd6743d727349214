-- The day on which a unit starts, by arithmetic on the day of the calendar.
use Rattle.std.proofs.Common.{◌≡◌, ℕ, zero, suc, ◌+◌, ◌-◌, ◌%◌, ◌<◌, ◌≤◌, ◌==◌, ◌||◌}
use Rattle.std.proofs.Common.{Bool, true, false, inl, inr, pos, refl, ap, sym, ◌∙◌, arith}
use Rattle.std.proofs.lemmas.Bool.{cases_lt, ne_eqb, eq-eqb, or_from, or_right, both_ways}
use Rattle.std.proofs.lemmas.Bool.{false_from_ne_true}
use Rattle.std.proofs.lemmas.Bool.Decides.{nat_tests}
use Rattle.jiff_core.specs.Calendar.{days_in_year, days_in_month}
use Rattle.jiff_core.proofs.CalendarLemmas.{days_in_month_bounds, days_in_year_bounds}
use Rattle.reg_base.specs.declared.day.Day.{Day as CalendarDay}
use Rattle.reg_base.specs.declared.tables.Periodicity.{Periodicity}
use Rattle.reg_base.specs.declared.tables.Periodicity.TheVariants.{Day, Week, TenDays, Month}
use Rattle.reg_base.specs.Dates.{day_from_month, day_from_year}
use Rattle.reg_base.specs.Days.{into_ten}
use Rattle.reg_base.specs.Units.{calendar_day, weekday, starts_unit, start_day, are_dates}
use Rattle.reg_base.proofs.DayLemmas.{day_from_month-here, day_from_month-later}
use Rattle.reg_base.proofs.DayLemmas.{day_from_year-here, day_from_year-later}
use Rattle.reg_base.proofs.UnitLemmas.{start_day-here, start_day-skip, start_day-unique}
use Rattle.reg_base.proofs.UnitLemmas.{starts_unit-are_dates}

-- the day before, in the same month
abbrev earlier : CalendarDay → CalendarDay
earlier d = record { year = d.year; month = d.month; day = d.day - 1 }

-- the first day that is counted from the first of a month is the first
day_from_month-first : (more year month days : ℕ) → days ≡ 0
    → (day_from_month more year month days).day ≡ 1
unfolding day_from_month
day_from_month-first zero year month days none = omega arith
day_from_month-first (suc more) year month days none =
    let bounds = days_in_month_bounds (pos year) month in
    ap (λ (d : CalendarDay). d.day) (day_from_month-here more year month days (omega arith))
    ∙ omega arith

-- a day that is not the first of its month has the day before it in the month
day_from_month-before : (more year month days next : ℕ) → next ≡ days + 1
    → 2 ≤ (day_from_month more year month next).day
    → day_from_month more year month days ≡ earlier (day_from_month more year month next)
unfolding day_from_month
day_from_month-before zero year month days next same later =
    let day : days + 1 ≡ next + 1 - 1 = omega arith in
    λ i. record { year = year; month = month; day = day i }
day_from_month-before (suc more) year month days next same later =
    elim (cases_lt next (days_in_month (pos year) month)) [
      | inl lt ↦
          let day : days + 1 ≡ next + 1 - 1 = omega arith in
          rw (
            day_from_month-here more year month days (omega arith),
            day_from_month-here more year month next lt,
          ) (λ i. record { year = year; month = month; day = day i })
      | inr ge ↦ elim (cases_lt days (days_in_month (pos year) month)) [
        | inl last ↦
            let first : (day_from_month (suc more) year month next).day ≡ 1 =
            ap (λ (d : CalendarDay). d.day) (day_from_month-later more year month next ge)
            ∙ day_from_month-first more year (month + 1)
            (next - days_in_month (pos year) month) (omega arith) in
            absurd (omega (arith, first))
        | inr past ↦
            rw (
              day_from_month-later more year month days past,
              day_from_month-later more year month next ge,
            )
            (day_from_month-before more year (month + 1)
            (days - days_in_month (pos year) month) (next - days_in_month (pos year) month)
            (omega arith) (rw (day_from_month-later more year month next ge) at later))
      ]
    ]

day_from_year-first : (more year days : ℕ) → days ≡ 0 → (day_from_year more year days).day ≡ 1
unfolding day_from_year
day_from_year-first zero year days none = day_from_month-first 11 year 1 days none
day_from_year-first (suc more) year days none =
    let bounds = days_in_year_bounds (pos year) in
    ap (λ (d : CalendarDay). d.day) (day_from_year-here more year days (omega arith))
    ∙ day_from_month-first 11 year 1 days none

day_from_year-before : (more year days next : ℕ) → next ≡ days + 1
    → 2 ≤ (day_from_year more year next).day
    → day_from_year more year days ≡ earlier (day_from_year more year next)
unfolding day_from_year
day_from_year-before zero year days next same later =
    day_from_month-before 11 year 1 days next same later
day_from_year-before (suc more) year days next same later =
    elim (cases_lt next (days_in_year (pos year))) [
      | inl lt ↦
          rw (day_from_year-here more year days (omega arith), day_from_year-here more year next lt)
          (day_from_month-before 11 year 1 days next same
          (rw (day_from_year-here more year next lt) at later))
      | inr ge ↦ elim (cases_lt days (days_in_year (pos year))) [
        | inl last ↦
            let first : (day_from_year (suc more) year next).day ≡ 1 =
            ap (λ (d : CalendarDay). d.day) (day_from_year-later more year next ge)
            ∙ day_from_year-first more (year + 1) (next - days_in_year (pos year))
            (omega arith) in
            absurd (omega (arith, first))
        | inr past ↦
            rw (
              day_from_year-later more year days past,
              day_from_year-later more year next ge,
            )
            (day_from_year-before more (year + 1) (days - days_in_year (pos year))
            (next - days_in_year (pos year)) (omega arith)
            (rw (day_from_year-later more year next ge) at later))
      ]
    ]

-- the day of the month of a day, and of the day before it
calendar_day-first : (calendar_day 0).day ≡ 1
calendar_day-first = day_from_year-first 99 2000 0 refl

calendar_day-before : (day : ℕ) → 2 ≤ (calendar_day (suc day)).day
    → (calendar_day (suc day)).day ≡ (calendar_day day).day + 1
calendar_day-before day later =
    let before = day_from_year-before 99 2000 day (suc day) (omega arith) later in
    omega (arith, ap (λ (d : CalendarDay). d.day) before)

-- so many days before a day its month is still the same
pub calendar_day-back : (back day : ℕ) → back < (calendar_day day).day → back ≤ day
calendar_day-back zero day later = omega arith
calendar_day-back (suc back) zero later = absurd (omega (arith, calendar_day-first))
calendar_day-back (suc back) (suc day) later =
    let before = calendar_day-before day (omega arith) in
    omega (arith, calendar_day-back back day (omega arith))

-- units whose starts are told by the day of the month
module _ (by : Periodicity) (test : ℕ → Bool)
    (told : (day : ℕ) → starts_unit by day ≡ test (calendar_day day).day) where
  start_day-back : (first back day : ℕ) → 1 ≤ first → test first ≡ true
      → ((other : ℕ) → first < other → other ≤ first + back → test other ≡ false)
      → (calendar_day day).day ≡ first + back → start_day by day ≡ day - back
  start_day-back first zero day some starts none same =
      let here : (calendar_day day).day ≡ first = omega arith in
      start_day-here by day (told day ∙ ap test here ∙ starts) ∙ omega arith
  start_day-back first (suc back) zero some starts none same =
      absurd (omega (arith, calendar_day-first))
  start_day-back first (suc back) (suc day) some starts none same =
      let before = calendar_day-before day (omega arith) in
      start_day-skip by day (told (suc day)
      ∙ none (calendar_day (suc day)).day (omega arith) (omega arith))
      ∙ start_day-back first back day some starts (λ other above le. none other above (omega arith))
      (omega arith)
      ∙ omega arith

-- the first of the month
pub start_day-month : (by : Periodicity) (day back : ℕ) → by ≡ Month
    → back + 1 ≡ (calendar_day day).day → day - back ≡ start_day by day
unfolding starts_unit
start_day-month by day back is_month same =
    sym (ap (λ b. start_day b day) is_month
    ∙ start_day-back Month (λ d. d == 1) (λ d. refl) 1 back day (omega arith) refl
    (λ other above le. ne_eqb other 1 (λ is. absurd (omega arith))) (omega arith))

abbrev is_tenth : ℕ → Bool
is_tenth d = (d == 1) || (d == 11) || (d == 21)

not_tenth : (d : ℕ) → (d ≡ 1 → ⊥) → (d ≡ 11 → ⊥) → (d ≡ 21 → ⊥) → is_tenth d ≡ false
not_tenth d one eleven last =
    or_from ((d == 1) || (d == 11)) (d == 21)
    (or_from (d == 1) (d == 11) (ne_eqb d 1 one) (ne_eqb d 11 eleven)) (ne_eqb d 21 last)

-- the 1st, the 11th or the 21st, up to the next of them or the end of the month
start_day-tenth : (day first end back : ℕ) → is_tenth first ≡ true → 1 ≤ first
    → ((other : ℕ) → first < other → other < end → is_tenth other ≡ false)
    → (calendar_day day).day < end → first ≤ (calendar_day day).day
    → back + first ≡ (calendar_day day).day → start_day TenDays day ≡ day - back
unfolding starts_unit
start_day-tenth day first end back tenth some none below above same =
    start_day-back TenDays is_tenth (λ d. refl) first back day some tenth
    (λ other over le. none other over (omega arith)) (omega arith)

into_ten-first : (d : ℕ) → d < 11 → into_ten d ≡ d - 1
into_ten-first d lt = grind (arith, nat_tests)

into_ten-middle : (d : ℕ) → 11 ≤ d → d < 21 → into_ten d ≡ d - 11
into_ten-middle d ge lt = grind (arith, nat_tests)

into_ten-last : (d : ℕ) → 21 ≤ d → into_ten d ≡ d - 21
into_ten-last d ge = grind (arith, nat_tests)

pub into_ten-lt : (d : ℕ) → 1 ≤ d → into_ten d < d
into_ten-lt d some =
    elim (cases_lt d 11) [
      | inl lt ↦ omega (arith, into_ten-first d lt)
      | inr ge ↦ elim (cases_lt d 21) [
        | inl lt ↦ omega (arith, into_ten-middle d ge lt)
        | inr late ↦ omega (arith, into_ten-last d late)
      ]
    ]

start_day-tens : (day : ℕ) → 1 ≤ (calendar_day day).day → (calendar_day day).day ≤ 31
    → start_day TenDays day ≡ day - into_ten (calendar_day day).day
start_day-tens day some last =
    let d = (calendar_day day).day in
    elim (cases_lt d 11) [
      | inl lt ↦ start_day-tenth day 1 11 (into_ten d) refl (omega arith)
          (λ other above below. not_tenth other (λ is. absurd (omega arith))
          (λ is. absurd (omega arith)) (λ is. absurd (omega arith)))
          lt some (omega (arith, into_ten-first d lt))
      | inr ge ↦ elim (cases_lt d 21) [
        | inl lt ↦ start_day-tenth day 11 21 (into_ten d) refl (omega arith)
            (λ other above below. not_tenth other (λ is. absurd (omega arith))
            (λ is. absurd (omega arith)) (λ is. absurd (omega arith)))
            lt ge (omega (arith, into_ten-middle d ge lt))
        | inr late ↦ start_day-tenth day 21 32 (into_ten d) refl (omega arith)
            (λ other above below. not_tenth other (λ is. absurd (omega arith))
            (λ is. absurd (omega arith)) (λ is. absurd (omega arith)))
            (omega arith) late (omega (arith, into_ten-last d late))
      ]
    ]

pub start_day-ten : (by : Periodicity) (day back d : ℕ) → by ≡ TenDays
    → d ≡ (calendar_day day).day → 1 ≤ d → d ≤ 31 → back ≡ into_ten d
    → day - back ≡ start_day by day
start_day-ten by day back d tens same some last into =
    let far : into_ten (calendar_day day).day ≡ back = ap into_ten (sym same) ∙ sym into in
    sym (ap (λ b. start_day b day) tens ∙ start_day-tens day (omega arith) (omega arith)
    ∙ ap (λ b. day - b) far)

-- ---- weeks

monday : (day : ℕ) → 2 ≤ day → (day - (day + 5) % 7 + 5) % 7 ≡ 0
monday day later = omega arith

no_monday : (other day : ℕ) → day - (day + 5) % 7 < other → other ≤ day → (other + 5) % 7 ≡ 0 → ⊥
no_monday other day above le is = omega arith

week_starts : (day : ℕ) → ((day - weekday day == 0) || (weekday (day - weekday day) == 0)) ≡ true
week_starts zero = refl
week_starts (suc zero) = refl
week_starts (suc (suc day)) =
    or_right (suc (suc day) - weekday (suc (suc day)) == 0) _
    (eq-eqb (weekday (suc (suc day) - weekday (suc (suc day)))) 0
    (monday (suc (suc day)) (omega arith)))

-- the Monday of the week, or the first day
pub start_day-week : (by : Periodicity) (day : ℕ) → by ≡ Week
    → day - (day + 5) % 7 ≡ start_day by day
unfolding starts_unit
start_day-week by day is_week =
    sym (ap (λ b. start_day b day) is_week
    ∙ start_day-unique Week (day - weekday day) day (omega arith) (week_starts day)
    (λ other above le. or_from (other == 0) (weekday other == 0)
    (ne_eqb other 0 (λ is. absurd (omega arith)))
    (ne_eqb (weekday other) 0 (no_monday other day above le))))

pub start_day-day : (by : Periodicity) (day : ℕ) → by ≡ Day → day ≡ start_day by day
unfolding starts_unit
start_day-day by day is_day =
    sym (ap (λ b. start_day b day) is_day ∙ start_day-here Day day refl)

-- ---- what has no units

pub start_day-none : (by : Periodicity) → are_dates by ≡ false → (day : ℕ) → start_day by day ≡ 0
unfolding start_day
start_day-none by none zero = refl
start_day-none by none (suc day) =
    start_day-skip by day (false_from_ne_true (starts_unit by (suc day))
    (λ is. both_ways (are_dates by) none (starts_unit-are_dates by (suc day) is)))
    ∙ start_day-none by none day
