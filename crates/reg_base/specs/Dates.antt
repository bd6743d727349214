-- Dates: seconds since 2000-01-01T00:00:00, how a date is spelt, and its text.
use Rattle.std.specs.Prelude.{ℕ, zero, suc, ◌+◌, ◌-◌, ◌*◌, ◌/◌, ◌%◌, ◌==◌, ◌&&◌, nat_lt, nat_le}
use Rattle.std.specs.Prelude.{if◌then◌else◌, Bool, List, ◌++◌, ◌∷◌, length, slice_index}
use Rattle.std.specs.Prelude.{slice_range, pos, Result, Ok, Err}
use Rattle.std.specs.List.{list_all}
use Rattle.std.specs.Char.{is_ascii_digit}
use Rattle.jiff_core.specs.Calendar.{days_in_year, days_in_month, day_count}
use Rattle.reg_base.specs.declared.day.Day.{Day}
use Rattle.reg_base.specs.declared.date.DateFault.{DateFault}
use Rattle.reg_base.specs.declared.date.DateFault.TheVariants.{NotADate, OutOfYears}
use Rattle.reg_base.specs.Results.{◌>>=◌, unless}
use Rattle.reg_base.specs.Numbers.{decimal_value, last_digits}

-- the number that the digits from one place to another spell
unfoldable pub number_between : List ℕ → ℕ → ℕ → Result ℕ DateFault
number_between text from to =
    let digits = slice_range text from to in
    if list_all is_ascii_digit digits then Ok (decimal_value digits) else Err NotADate

-- the day that the text begins with, spelt `YYYY-MM-DD`, in the calendar or not
unfoldable pub day_spelt : List ℕ → Result Day DateFault
day_spelt text = do
  _ ← unless ((slice_index text 4 == 45) && (slice_index text 7 == 45)) NotADate
  year ← number_between text 0 4
  month ← number_between text 5 7
  day ← number_between text 8 10
  Ok (record { year = year; month = month; day = day })

-- the second of the day that stands behind it, spelt `Thh:mm:ss`
unfoldable pub second_spelt : List ℕ → Result ℕ DateFault
second_spelt text = do
  _ ← unless ((slice_index text 10 == 84) && (slice_index text 13 == 58)
      && (slice_index text 16 == 58)) NotADate
  hour ← number_between text 11 13
  minute ← number_between text 14 16
  second ← number_between text 17 19
  _ ← unless (nat_lt hour 24 && nat_lt minute 60 && nat_lt second 60) NotADate
  Ok (3600 * hour + 60 * minute + second)

-- whether the calendar has the day
abbrev pub has_day : Day → Bool
has_day d =
    nat_le 1 d.month && nat_le d.month 12 && nat_le 1 d.day
    && nat_le d.day (days_in_month (pos d.year) d.month)

-- the days from 2000-01-01 to a day of that year or a later one
abbrev pub days_before : Day → ℕ
days_before d = day_count (pos d.year) d.month d.day - day_count (pos 2000) 1 1

-- the date of a second of a day, if the calendar has the day and it lies in 2000 to 2099
unfoldable pub date_of : Day → ℕ → Result ℕ DateFault
date_of d second = do
  _ ← unless (has_day d) NotADate
  _ ← unless (nat_le 2000 d.year && nat_le d.year 2099) OutOfYears
  Ok (86400 * days_before d + second)

-- the date that a text of 19 bytes spells, a day and a time
unfoldable pub parse_long_date : List ℕ → Result ℕ DateFault
parse_long_date text = do
  _ ← unless (length text == 19) NotADate
  day ← day_spelt text
  second ← second_spelt text
  date_of day second

-- the date that the text spells, where a day alone is its first second
unfoldable pub parse_date : List ℕ → Result ℕ DateFault
parse_date text =
    if length text == 10 then (day_spelt text >>= λ day. date_of day 0) else parse_long_date text

-- the date that the text spells, where a day alone is its last second
unfoldable pub parse_date_end : List ℕ → Result ℕ DateFault
parse_date_end text =
    if length text == 10 then (day_spelt text >>= λ day. date_of day 86_399)
    else parse_long_date text

-- the day so many days after the first of a month, which comes within so many months
unfoldable pub day_from_month : ℕ → ℕ → ℕ → ℕ → Day
day_from_month zero year month days = record { year = year; month = month; day = days + 1 }
day_from_month (suc more) year month days =
    if nat_lt days (days_in_month (pos year) month)
    then record { year = year; month = month; day = days + 1 }
    else day_from_month more year (month + 1) (days - days_in_month (pos year) month)

-- the day so many days after the first of a year, which comes within so many years
unfoldable pub day_from_year : ℕ → ℕ → ℕ → Day
day_from_year zero year days = day_from_month 11 year 1 days
day_from_year (suc more) year days =
    if nat_lt days (days_in_year (pos year)) then day_from_month 11 year 1 days
    else day_from_year more (year + 1) (days - days_in_year (pos year))

-- the day of a date
unfoldable pub day_of : ℕ → Day
day_of date = day_from_year 99 2000 (date / 86400)

-- the text of a day, `YYYY-MM-DD`
unfoldable pub day_text : Day → List ℕ
day_text d = last_digits 4 d.year ++ (45 ∷ last_digits 2 d.month) ++ (45 ∷ last_digits 2 d.day)

-- the text of a second of a day, `Thh:mm:ss`
unfoldable pub second_text : ℕ → List ℕ
second_text s =
    (84 ∷ last_digits 2 (s / 3600)) ++ (58 ∷ last_digits 2 (s / 60 % 60))
    ++ (58 ∷ last_digits 2 (s % 60))

-- the text of a date, a day and a time
unfoldable pub date_text : ℕ → List ℕ
date_text date = day_text (day_of date) ++ second_text (date % 86400)
