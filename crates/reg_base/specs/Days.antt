-- Private: how days go with the calendar's count of days from -9999-01-01, and how far into their
-- ten days or their part of the year they are.
use Rattle.std.specs.Prelude.{◌≡◌, ℕ, ◌+◌, ◌-◌, ◌%◌, ◌≤◌, nat_lt, if◌then◌else◌, true, pos}
use Rattle.jiff_core.specs.Calendar.{day_count}
use Rattle.reg_base.specs.declared.day.Day.{Day}
use Rattle.reg_base.specs.Dates.{has_day}

-- the calendar has the day, and so many days come before it
pub record IsDayNumber (d : Day) (number : ℕ) : Type 0 where
  pub real : has_day d ≡ true
  pub counted : number + 366 ≡ day_count (pos d.year) d.month d.day

-- the day lies in the years 2000 to 2099
pub record IsInCentury (d : Day) : Type 0 where
  pub first : 2000 ≤ d.year
  pub last : d.year ≤ 2099

-- the days from the 1st, the 11th or the 21st to a day of the month
abbrev pub into_ten : ℕ → ℕ
into_ten day = if nat_lt day 11 then day - 1 else if nat_lt day 21 then day - 11 else day - 21

-- the first day of the part of the year, of so many months, that a day lies in
abbrev pub part_start : ℕ → Day → Day
part_start months d =
    record { year = d.year; month = d.month - (d.month - 1) % months; day = 1 }
