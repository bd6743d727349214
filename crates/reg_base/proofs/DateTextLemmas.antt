-- The text of a date is read back to it.
use Rattle.std.proofs.Common.{◌≡◌, ℕ, zero, suc, ◌+◌, ◌-◌, ◌*◌, ◌/◌, ◌%◌, ◌^◌, ◌<◌, ◌≤◌, true}
use Rattle.std.proofs.Common.{nat_lt, nat_le, inl, inr, List, length, ◌++◌, Ok, pos, refl, ◌∙◌}
use Rattle.std.proofs.Common.{arith, rules, tests}
use Rattle.std.specs.List.{slice_range}
use Rattle.std.specs.Int.{IsInRange}
use Rattle.std.proofs.lemmas.Bool.{cases_lt}
use Rattle.std.proofs.lemmas.Bool.Decides.{nat_tests}
use Rattle.std.proofs.Math.Nat.{mod-eq_of_lt}
use Rattle.jiff_core.specs.Calendar.{day_count, days_in_year, days_in_month}
use Rattle.jiff_core.proofs.SignedLemmas.{signed_arith}
use Rattle.jiff_core.proofs.CalendarLemmas.{day_count-day, day_count-next_month}
use Rattle.jiff_core.proofs.CalendarLemmas.{day_count-next_year, day_count-last_of_year}
use Rattle.jiff_core.proofs.CalendarLemmas.{days_in_month_bounds}
use Rattle.reg_base.specs.declared.day.Day.{Day}
use Rattle.reg_base.specs.Numbers.{decimal_value, last_digits}
use Rattle.reg_base.specs.Dates.{number_between, day_spelt, second_spelt, date_of, parse_long_date}
use Rattle.reg_base.specs.Dates.{parse_date, parse_date_end, day_from_month, day_from_year, day_of}
use Rattle.reg_base.specs.Dates.{day_text, second_text, date_text}
use Rattle.reg_base.specs.Days.{IsDayNumber, IsInCentury}
use Rattle.reg_base.specs.Units.{calendar_day}
use Rattle.reg_base.proofs.DigitLemmas.{all_digits-last_digits, read_on-last_digits}
use Rattle.reg_base.proofs.DayLemmas.{day_count-2000, day_count-2100, has_day-is}
use Rattle.reg_base.proofs.DayLemmas.{day_from_month-here, day_from_month-later, day_from_year-here}
use Rattle.reg_base.proofs.DayLemmas.{day_from_year-later}

-- where the last digits of a small number stand in a text, they are read as it
number_between-last_digits : (text : List ℕ) (from to k n : ℕ)
    → slice_range text from to ≡ last_digits k n → n < 10 ^ k → number_between text from to ≡ Ok n
unfolding number_between
number_between-last_digits text from to k n stands small =
    let digits = all_digits-last_digits k n in
    let low : n % 10 ^ k ≡ n = mod-eq_of_lt small in
    let value : decimal_value (last_digits k n) ≡ n = read_on-last_digits 0 k n ∙ omega arith in
    rw (stands, digits, value)

day_spelt-text : (day : Day) (second : ℕ) → day.year < 10000 → day.month < 100 → day.day < 100
    → day_spelt (day_text day ++ second_text second) ≡ Ok day
unfolding day_spelt day_text second_text
day_spelt-text day second year month of_month =
    let text = day_text day ++ second_text second in
    rw (
      number_between-last_digits text 0 4 4 day.year refl year,
      number_between-last_digits text 5 7 2 day.month refl month,
      number_between-last_digits text 8 10 2 day.day refl of_month,
    )

second_spelt-text : (day : Day) (second : ℕ) → second < 86400
    → second_spelt (day_text day ++ second_text second) ≡ Ok second
unfolding second_spelt day_text second_text
second_spelt-text day second within =
    let text = day_text day ++ second_text second in
    let hour : nat_lt (second / 3600) 24 ≡ true = grind (arith, nat_tests) in
    let minute : nat_lt (second / 60 % 60) 60 ≡ true = grind (arith, nat_tests) in
    let rest : nat_lt (second % 60) 60 ≡ true = grind (arith, nat_tests) in
    let sum : 3600 * (second / 3600) + 60 * (second / 60 % 60) + second % 60 ≡ second =
    omega arith in
    rw (
      number_between-last_digits text 11 13 2 (second / 3600) refl (omega arith),
      number_between-last_digits text 14 16 2 (second / 60 % 60) refl (omega arith),
      number_between-last_digits text 17 19 2 (second % 60) refl (omega arith),
      hour,
      minute,
      rest,
      sum,
    )

-- the calendar has the day, in one of these years, and so many days come before it
record IsFound (first last : ℕ) (d : Day) (before : ℕ) : Type 0 where
  low : first ≤ d.year
  high : d.year ≤ last
  month_in : IsInRange 1 12 d.month
  day_in : IsInRange 1 (days_in_month (pos d.year) d.month) d.day
  counted : before ≡ day_count (pos d.year) d.month d.day

IsFound-wider : (first last wide_first wide_last : ℕ) (d : Day) (before same : ℕ)
    → IsFound first last d before → wide_first ≤ first → last ≤ wide_last → before ≡ same
    → IsFound wide_first wide_last d same
IsFound-wider first last wide_first wide_last d before same f low high e = record {
  low = omega (arith, f.low);
  high = omega (arith, f.high);
  month_in = f.month_in;
  day_in = f.day_in;
  counted = omega (arith, f.counted);
}

IsFound-here : (year month days : ℕ) → 1 ≤ month → month ≤ 12
    → days < days_in_month (pos year) month → IsFound year year
    (record { year = year; month = month; day = days + 1 }) (days + day_count (pos year) month 1)
IsFound-here year month days one last within = record {
  low = omega arith;
  high = omega arith;
  month_in = (one, last);
  day_in = (omega arith, omega arith);
  counted = omega (arith, day_count-day (pos year) month 1 (days + 1) (omega arith) (omega arith));
}

day_from_month-found : (more year month days : ℕ) → 1 ≤ month → month + more ≡ 12
    → days + day_count (pos year) month 1 ≤ day_count (pos year) 12 31
    → IsFound year year (day_from_month more year month days) (days + day_count (pos year) month 1)
unfolding day_from_month
day_from_month-found zero year month days one last within =
    let same : month ≡ 12 = omega arith in
    let december : days < days_in_month (pos year) 12 =
    omega (
      arith,
      rw same at within,
      day_count-day (pos year) 12 1 31 (omega arith)
          (omega arith),
    ) in
    IsFound-here year month days one (omega arith) (rw same december)
day_from_month-found (suc more) year month days one last within =
    elim (cases_lt days (days_in_month (pos year) month)) [
      | inl lt ↦ rw (day_from_month-here more year month days lt)
          (IsFound-here year month days one (omega arith) lt)
      | inr ge ↦
          let next = day_count-next_month (pos year) month one in
          let later = day_from_month-found more year (month + 1)
          (days - days_in_month (pos year) month) (omega arith) (omega arith) (omega arith) in
          rw (day_from_month-later more year month days ge)
          (IsFound-wider year year year year _ _ _ later (omega arith) (omega arith) (omega arith))
    ]

in_this_year : (year days : ℕ) → days < days_in_year (pos year)
    → IsFound year year (day_from_month 11 year 1 days) (days + day_count (pos year) 1 1)
in_this_year year days within =
    day_from_month-found 11 year 1 days (omega arith) (omega arith)
    (omega (arith, day_count-last_of_year (pos year)))

first_of_next : (year : ℕ) → day_count (pos (year + 1)) 1 1
    ≡ day_count (pos year) 1 1 + days_in_year (pos year)
first_of_next year =
    day_count-next_year (pos year) (pos (year + 1)) (omega (arith, signed_arith))
    (omega (arith, signed_arith))

day_from_year-found : (more year days : ℕ) → days + day_count (pos year) 1 1
    < day_count (pos (year + more + 1)) 1 1 → IsFound year (year + more)
    (day_from_year more year days) (days + day_count (pos year) 1 1)
unfolding day_from_year
day_from_year-found zero year days within =
    let same : year + 0 + 1 ≡ year + 1 = omega arith in
    let here : days < days_in_year (pos year) =
    omega (arith, rw same at within, first_of_next year) in
    IsFound-wider year year year (year + 0) _ _ _ (in_this_year year days here) (omega arith)
    (omega arith) refl
day_from_year-found (suc more) year days within =
    elim (cases_lt days (days_in_year (pos year))) [
      | inl lt ↦ rw (day_from_year-here more year days lt)
          (IsFound-wider year year year (year + suc more) _ _ _ (in_this_year year days lt)
          (omega arith) (omega arith) refl)
      | inr ge ↦
          let same : year + suc more + 1 ≡ year + 1 + more + 1 = omega arith in
          let next = first_of_next year in
          let later = day_from_year-found more (year + 1) (days - days_in_year (pos year))
          (omega (arith, rw same at within)) in
          rw (day_from_year-later more year days ge)
          (IsFound-wider (year + 1) (year + 1 + more) year (year + suc more) _ _ _ later
          (omega arith) (omega arith) (omega arith))
    ]

-- the day of the calendar with a number has this number
pub calendar_day-number : (day : ℕ) → day < 36_525
    → IsDayNumber (calendar_day day) (4_382_544 + day) × IsInCentury (calendar_day day)
calendar_day-number day within =
    let f = day_from_year-found 99 2000 day (omega (arith, day_count-2000, day_count-2100)) in (
      record {
        real = has_day-is (calendar_day day) f.month_in f.day_in;
        counted = omega (arith, f.counted, day_count-2000);
      },
      record { first = f.low; last = f.high },
    )

day_of-found : (date : ℕ) → date < 3_155_760_000 → IsFound 2000 2099 (day_of date)
    (date / 86400 + day_count (pos 2000) 1 1)
unfolding day_of
day_of-found date within =
    day_from_year-found 99 2000 (date / 86400) (omega (arith, day_count-2000, day_count-2100))

date_of-day_of : (date : ℕ) → date < 3_155_760_000 → date_of (day_of date) (date % 86400) ≡ Ok date
unfolding date_of
date_of-day_of date within =
    let f = day_of-found date within in
    let real = has_day-is (day_of date) f.month_in f.day_in in
    let low : nat_le 2000 (day_of date).year ≡ true = search (rules, tests, f.low) in
    let high : nat_le (day_of date).year 2099 ≡ true = search (rules, tests, f.high) in
    let sum : 86400
    * (day_count (pos (day_of date).year) (day_of date).month (day_of date).day
    - day_count (pos 2000) 1 1) + date % 86400 ≡ date = omega (arith, f.counted) in
    rw (real, low, high, sum)

pub length-date_text : (date : ℕ) → length (date_text date) ≡ 19
unfolding date_text day_text second_text
length-date_text date = refl

-- the text of a date is read back to the date
pub parse_long_date-text : (date : ℕ) → date < 3_155_760_000
    → parse_long_date (date_text date) ≡ Ok date
unfolding parse_long_date date_text
parse_long_date-text date within =
    let f = day_of-found date within in
    let days = days_in_month_bounds (pos (day_of date).year) (day_of date).month in
    rw (
      length-date_text date,
      day_spelt-text (day_of date) (date % 86400) (omega (arith, f.high))
          (omega (arith, f.month_in)) (omega (arith, f.day_in, days)),
      second_spelt-text (day_of date) (date % 86400) (omega arith),
    ) (date_of-day_of date within)

pub parse_date-text : (date : ℕ) → date < 3_155_760_000 → parse_date (date_text date) ≡ Ok date
unfolding parse_date
parse_date-text date within = rw (length-date_text date) (parse_long_date-text date within)

pub parse_date_end-text : (date : ℕ) → date < 3_155_760_000
    → parse_date_end (date_text date) ≡ Ok date
unfolding parse_date_end
parse_date_end-text date within = rw (length-date_text date) (parse_long_date-text date within)
