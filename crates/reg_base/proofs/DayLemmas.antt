-- The calendar's count of days, from a day of the years 2000 to 2099 and back.
use Rattle.std.proofs.Common.{◌≡◌, ℕ, zero, suc, ◌+◌, ◌-◌, ◌*◌, ◌<◌, ◌≤◌, inl, inr, true, nat_le}
use Rattle.std.proofs.Common.{Option, Some, IfSome, Ok, refl, ◌∙◌, arith, rules, tests, ℤ, pos}
use Rattle.std.proofs.Common.{◌+ℤ◌, ◌≤ℤ◌}
use Rattle.std.specs.Int.{IsInRange}
use Rattle.std.proofs.lemmas.Bool.{cases_lt}
use Rattle.std.proofs.lemmas.Int.{by_lt_z}
use Rattle.std.proofs.lemmas.Bool.Decides.{nat_tests}
use Rattle.jiff_core.specs.Calendar.{days_in_year, days_in_month, day_count, days_of_years}
use Rattle.jiff_core.specs.Calendar.{days_of_months, days_from_civil, IsCivilDate}
use Rattle.jiff_core.proofs.SignedLemmas.{signed_arith}
use Rattle.jiff_core.proofs.CalendarLemmas.{days_from_civil-day_count, day_count-lt_year}
use Rattle.jiff_core.proofs.CalendarLemmas.{day_count-day, day_count-next_month}
use Rattle.jiff_core.proofs.CalendarLemmas.{day_count-next_year, day_count-later_year}
use Rattle.jiff_core.proofs.CalendarLemmas.{day_count-day_of_year, day_of_year_bound}
use Rattle.jiff_core.proofs.CalendarLemmas.{day_of_year_before, days_in_month_bounds}
use Rattle.reg_base.specs.declared.day.Day.{Day}
use Rattle.reg_base.specs.Dates.{day_from_month, day_from_year, has_day, date_of}
use Rattle.reg_base.specs.Days.{IsDayNumber, IsInCentury}

pub day_count-2000 : day_count (pos 2000) 1 1 ≡ 4_382_910
unfolding day_count days_of_years days_of_months
day_count-2000 = refl

pub day_count-1999 : day_count (pos 1999) 12 31 ≡ 4_382_909
unfolding day_count days_of_years days_of_months
day_count-1999 = refl

pub day_count-2099 : day_count (pos 2099) 12 31 ≡ 4_419_434
unfolding day_count days_of_years days_of_months
day_count-2099 = refl

pub day_count-2100 : day_count (pos 2100) 1 1 ≡ 4_419_435
unfolding day_count days_of_years days_of_months
day_count-2100 = refl

pub has_day-is : (d : Day) → IsInRange 1 12 d.month → IsInRange 1
    (days_in_month (pos d.year) d.month) d.day → has_day d ≡ true
has_day-is d month day = grind (arith, nat_tests)

pub civil-has_day : (d : Day) → d.year < 10000 → has_day d ≡ true
    → IsCivilDate (pos d.year) d.month d.day
civil-has_day d short real = (
  (omega (arith, signed_arith), omega (arith, signed_arith)),
  grind (arith, nat_tests),
  grind (arith, nat_tests),
)

-- the kit's day number of a day that the calendar has
pub IsDayNumber-from_civil : (d : Day) (number : ℕ) → IsInRange 1 12 d.month
    → IsInRange 1 (days_in_month (pos d.year) d.month) d.day
    → days_from_civil (pos d.year) d.month d.day +ℤ pos 4_371_587 ≡ pos number
    → IsDayNumber d number
IsDayNumber-from_civil d number month day count = record {
  real = has_day-is d month day;
  counted = omega (arith, signed_arith, days_from_civil-day_count (pos d.year) d.month d.day);
}

pub IsDayNumber-from_ymd : (d : Day) (y : ℤ) (m n number : ℕ) → y ≡ pos d.year → m ≡ d.month
    → n ≡ d.day → IsInRange 1 12 m → IsInRange 1 (days_in_month y m) n
    → days_from_civil y m n +ℤ pos 4_371_587 ≡ pos number → IsDayNumber d number
IsDayNumber-from_ymd d y m n number year month day month_in day_in count =
    IsDayNumber-from_civil d number (rw month at month_in) (rw (year, month, day) at day_in)
    (rw (year, month, day) at count)

pub counted-from_civil : (y : ℤ) (m d number : ℕ) → days_from_civil y m d +ℤ pos 4_371_587
    ≡ pos number → number + 366 ≡ day_count y m d
counted-from_civil y m d number count = omega (arith, signed_arith, days_from_civil-day_count y m d)

-- a day with such a number lies in 2000 to 2099
pub year_bounds : (y : ℤ) (m d number : ℕ) → IsCivilDate y m d → number + 366 ≡ day_count y m d
    → 4_382_544 ≤ number → number < 4_419_069 → (pos 2000 ≤ℤ y) × (y ≤ℤ pos 2099)
year_bounds y m d number civil count first last =
    let low : pos 2000 ≤ℤ y = by_lt_z y (pos 2000)
    (λ lt. absurd
    (omega (arith, day_count-2000, day_count-lt_year y m d (pos 2000) 1 1 civil (omega arith) lt)))
    (λ ge. ge) in
    let high : y ≤ℤ pos 2099 = by_lt_z (pos 2099) y
    (λ lt. absurd
    (omega (
      arith,
      day_count-2099,
      day_count-lt_year (pos 2099) 12 31 y m d (
        (omega (arith, signed_arith), omega (arith, signed_arith)),
        (omega arith, omega arith),
        (omega arith, omega arith),
      ) civil.2.0 lt,
    )))
    (λ ge. ge) in
    (low, high)

-- the numbers of the days of 2000 to 2099
pub day_number_bounds : (d : Day) (number : ℕ) → IsDayNumber d number → IsInCentury d
    → (4_382_544 ≤ number) × (number < 4_419_069)
day_number_bounds d number n century =
    let civil = civil-has_day d (omega arith) n.real in
    let after : day_count (pos 1999) 12 31 < day_count (pos d.year) d.month d.day =
    day_count-lt_year (pos 1999) 12 31 (pos d.year) d.month d.day (
      (omega (arith, signed_arith), omega (arith, signed_arith)),
      (omega arith, omega arith),
      (omega arith, omega arith),
    ) civil.2.0 (omega (arith, signed_arith)) in
    let before : day_count (pos d.year) d.month d.day < day_count (pos 2100) 1 1 =
    day_count-lt_year (pos d.year) d.month d.day (pos 2100) 1 1 civil (omega arith)
    (omega (arith, signed_arith)) in
    omega (arith, n.counted, day_count-1999, day_count-2100)

-- where the day's month comes later, this month has passed before it
month_passed : (y : ℤ) (m d month : ℕ) → IsCivilDate y m d → 1 ≤ month → month < m
    → day_count y month 1 + days_in_month y month ≤ day_count y m d
month_passed y m d month civil one later =
    let days = days_in_month_bounds y month in
    let passed = day_of_year_before y month (days_in_month y month) (m - 1) one (omega arith)
    (omega arith) in
    omega (
      arith,
      passed,
      day_count-day_of_year y m d civil.2.0,
      day_count-day_of_year y month 1 (omega arith),
    )

pub day_from_month-here : (more year month days : ℕ) → days < days_in_month (pos year) month
    → day_from_month (suc more) year month days
    ≡ record { year = year; month = month; day = days + 1 }
unfolding day_from_month
day_from_month-here more year month days lt = grind (arith, nat_tests)

pub day_from_month-later : (more year month days : ℕ) → days_in_month (pos year) month ≤ days
    → day_from_month (suc more) year month days ≡ day_from_month more year (month + 1)
    (days - days_in_month (pos year) month)
unfolding day_from_month
day_from_month-later more year month days ge = grind (arith, nat_tests)

month_is : (year month days m d : ℕ) → IsCivilDate (pos year) m d → month ≡ m
    → days + day_count (pos year) month 1 ≡ day_count (pos year) m d → days + 1 ≡ d
month_is year month days m d civil same count =
    omega (arith, rw same at count, day_count-day (pos year) m 1 d (omega arith) civil.2.0)

-- the months are passed over until the one in which the day lies
pub day_from_month-is : (more year month days m d : ℕ) → IsCivilDate (pos year) m d → 1 ≤ month
    → month ≤ m → m ≤ month + more → days + day_count (pos year) month 1 ≡ day_count (pos year) m d
    → day_from_month more year month days ≡ record { year = year; month = m; day = d }
unfolding day_from_month
day_from_month-is zero year month days m d civil one low high count =
    let same : month ≡ m = omega arith in
    let day = month_is year month days m d civil same count in
    rw (same, day)
day_from_month-is (suc more) year month days m d civil one low high count =
    elim (cases_lt days (days_in_month (pos year) month)) [
      | inl lt ↦
          let same : month ≡ m = elim (cases_lt month m) [
            | inl later ↦ absurd (omega (arith, month_passed (pos year) m d month civil one later))
            | inr not_later ↦ omega arith
          ] in
          let day = month_is year month days m d civil same count in
          day_from_month-here more year month days lt ∙ rw (same, day)
      | inr ge ↦
          let later : month < m = elim (cases_lt month m) [
            | inl later ↦ later
            | inr not_later ↦
                let same : month ≡ m = omega arith in
                let last : d ≤ days_in_month (pos year) month = (rw same civil.2.1) in
                absurd (omega (arith, month_is year month days m d civil same count))
          ] in
          day_from_month-later more year month days ge
          ∙ day_from_month-is more year (month + 1) (days - days_in_month (pos year) month) m d
          civil (omega arith) (omega arith) (omega arith)
          (omega (arith, day_count-next_month (pos year) month one))
    ]

pub day_from_year-here : (more year days : ℕ) → days < days_in_year (pos year)
    → day_from_year (suc more) year days ≡ day_from_month 11 year 1 days
unfolding day_from_year
day_from_year-here more year days lt = grind (arith, nat_tests)

pub day_from_year-later : (more year days : ℕ) → days_in_year (pos year) ≤ days
    → day_from_year (suc more) year days ≡ day_from_year more (year + 1)
    (days - days_in_year (pos year))
unfolding day_from_year
day_from_year-later more year days ge = grind (arith, nat_tests)

-- where the day's year comes later, this year has passed before it
year_passed : (year y m d : ℕ) → IsCivilDate (pos y) m d → year < y
    → day_count (pos year) 1 1 + days_in_year (pos year) ≤ day_count (pos y) m d
year_passed year y m d civil later =
    let passed = day_count-later_year (pos year) (pos y) (omega (arith, signed_arith))
    (omega (arith, signed_arith)) in
    omega (arith, passed, day_count-day_of_year (pos y) m d civil.2.0)

-- a day lies within the days of its year
year_end : (y m d : ℕ) → IsCivilDate (pos y) m d → day_count (pos y) m d < day_count (pos y) 1 1
    + days_in_year (pos y)
year_end y m d civil =
    omega (arith, day_count-day_of_year (pos y) m d civil.2.0, day_of_year_bound (pos y) m d civil)

year_holds : (year days y m d : ℕ) → IsCivilDate (pos y) m d → y ≡ year
    → days + day_count (pos year) 1 1 ≡ day_count (pos y) m d → days < days_in_year (pos year)
year_holds year days y m d civil same count =
    omega (arith, rw same at count, rw same at (year_end y m d civil))

in_year : (year days y m d : ℕ) → IsCivilDate (pos y) m d → y ≡ year
    → days + day_count (pos year) 1 1 ≡ day_count (pos y) m d
    → day_from_month 11 year 1 days ≡ record { year = y; month = m; day = d }
in_year year days y m d civil same count =
    rw (← same) (day_from_month-is 11 y 1 days m d civil (omega arith) civil.1.0
    (omega (arith, civil.1.1)) (rw (← same) at count))

-- the years are passed over until the one in which the day lies
pub day_from_year-is : (more year days y m d : ℕ) → IsCivilDate (pos y) m d → year ≤ y
    → y ≤ year + more → days + day_count (pos year) 1 1 ≡ day_count (pos y) m d
    → day_from_year more year days ≡ record { year = y; month = m; day = d }
unfolding day_from_year
day_from_year-is zero year days y m d civil low high count =
    in_year year days y m d civil (omega arith) count
day_from_year-is (suc more) year days y m d civil low high count =
    elim (cases_lt days (days_in_year (pos year))) [
      | inl lt ↦
          let same : y ≡ year = elim (cases_lt year y) [
            | inl later ↦ absurd (omega (arith, year_passed year y m d civil later))
            | inr not_later ↦ omega arith
          ] in
          day_from_year-here more year days lt ∙ in_year year days y m d civil same count
      | inr ge ↦
          let later : year < y = elim (cases_lt year y) [
            | inl later ↦ later
            | inr not_later ↦
                let same : y ≡ year = omega arith in
                absurd (omega (arith, year_holds year days y m d civil same count))
          ] in
          day_from_year-later more year days ge
          ∙ day_from_year-is more (year + 1) (days - days_in_year (pos year)) y m d civil
          (omega arith) (omega arith)
          (omega (
            arith,
            day_count-next_year (pos year) (pos (year + 1))
                (omega (arith, signed_arith)) (omega (arith, signed_arith)),
          ))
    ]

-- the day of the calendar with this number is the one that passing over years and months finds
pub day_from_year-number : (d : Day) (days number : ℕ) → IsDayNumber d number → IsInCentury d
    → number ≡ 4_382_544 + days → day_from_year 99 2000 days ≡ d
day_from_year-number d days number n century same =
    day_from_year-is 99 2000 days d.year d.month d.day (civil-has_day d (omega arith) n.real)
    century.first (omega arith) (omega (arith, n.counted, day_count-2000))

-- the same bounds of a number that was found
pub found_bounds : (d : Day) (found : Option ℕ) (number : ℕ) → IfSome found (IsDayNumber d)
    → found ≡ Some number → 2000 ≤ d.year → d.year ≤ 2099
    → (4_382_544 ≤ number) × (number < 4_419_069)
found_bounds d found number is same first last =
    day_number_bounds d number (rw same at is) (record { first = first; last = last })

-- the date of a day of the century, by the number that was found
pub date_of-number : (d : Day) (second : ℕ) (found : Option ℕ) (number : ℕ)
    → IfSome found (IsDayNumber d) → found ≡ Some number → 2000 ≤ d.year → d.year ≤ 2099
    → Ok (86400 * (number - 4_382_544) + second) ≡ date_of d second
unfolding date_of
date_of-number d second found number is same first last =
    let n : IsDayNumber d number = (rw same at is) in
    let days : number - 4_382_544 ≡ day_count (pos d.year) d.month d.day
    - day_count (pos 2000) 1 1 = omega (arith, n.counted, day_count-2000) in
    let real = n.real in
    let low : nat_le 2000 d.year ≡ true = search (rules, tests) in
    let high : nat_le d.year 2099 ≡ true = search (rules, tests) in
    rw (real, low, high, days)
