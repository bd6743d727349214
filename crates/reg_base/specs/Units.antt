-- Units of time: days, weeks, ten days, months, quarters, half years and years.
use Rattle.std.specs.Prelude.{◌≡◌, ◌<◌, ◌≤◌, ℕ, zero, suc, ◌+◌, ◌-◌, ◌*◌, ◌/◌, ◌%◌, ◌==◌}
use Rattle.std.specs.Prelude.{◌&&◌, ◌||◌, Bool, true, false, if◌then◌else◌, Option, option_map}
use Rattle.std.specs.Prelude.{List, map, filter}
use Rattle.std.specs.List.{find, range_with_len}
use Rattle.reg_base.specs.declared.day.Day.{Day as CalendarDay}
use Rattle.reg_base.specs.declared.tables.Periodicity.{Periodicity}
use Rattle.reg_base.specs.declared.tables.Periodicity.TheVariants.{Period, Record, Recorder, Day}
use Rattle.reg_base.specs.declared.tables.Periodicity.TheVariants.{Week, TenDays, Month, Quarter}
use Rattle.reg_base.specs.declared.tables.Periodicity.TheVariants.{HalfYear, Year}
use Rattle.reg_base.specs.Dates.{day_from_year}

-- the days of the years 2000 to 2099, which are counted from 0
abbrev pub century_days : ℕ
century_days = 36_525

-- the number of the day of a date
abbrev pub day_number_of : ℕ → ℕ
day_number_of date = date / 86_400

-- the first second of a day
abbrev pub midnight : ℕ → ℕ
midnight day = 86_400 * day

-- the day of the calendar with this number
abbrev pub calendar_day : ℕ → CalendarDay
calendar_day day = day_from_year 99 2000 day

-- the place of a day in its week, from 0 for Monday: day 0, 2000-01-01, is a Saturday
abbrev pub weekday : ℕ → ℕ
weekday day = (day + 5) % 7

-- whether a day of the calendar is the first of the month
abbrev pub is_first : CalendarDay → Bool
is_first c = c.day == 1

-- whether a day of the calendar begins a part of the year of so many months
abbrev pub begins_part : ℕ → CalendarDay → Bool
begins_part months c = is_first c && ((c.month - 1) % months == 0)

-- whether a day of the calendar is the 1st, the 11th or the 21st
abbrev pub begins_ten : CalendarDay → Bool
begins_ten c = (c.day == 1) || (c.day == 11) || (c.day == 21)

-- whether a unit starts on the day: of weeks the first one starts on day 0, the others on Mondays
unfoldable pub starts_unit : Periodicity → ℕ → Bool
starts_unit Period day = false
starts_unit Record day = false
starts_unit Recorder day = false
starts_unit Day day = true
starts_unit Week day = (day == 0) || (weekday day == 0)
starts_unit TenDays day = begins_ten (calendar_day day)
starts_unit Month day = is_first (calendar_day day)
starts_unit Quarter day = begins_part 3 (calendar_day day)
starts_unit HalfYear day = begins_part 6 (calendar_day day)
starts_unit Year day = begins_part 12 (calendar_day day)

-- the last day up to this one on which a unit starts: on day 0 units of each sort do
unfoldable pub start_day : Periodicity → ℕ → ℕ
start_day by zero = zero
start_day by (suc day) = if starts_unit by (suc day) then suc day else start_day by day

-- the start of the unit of a date
unfoldable pub unit_start : Periodicity → ℕ → ℕ
unit_start by date = midnight (start_day by (day_number_of date))

-- the first day behind this one on which a unit starts, if one does before 2100
unfoldable pub next_day : Periodicity → ℕ → Option ℕ
next_day by day = find (starts_unit by) (range_with_len (day + 1) (century_days - (day + 1)))

-- the start of the unit behind that of a date, if it is before 2100
unfoldable pub next_unit : Periodicity → ℕ → Option ℕ
next_unit by date = option_map midnight (next_day by (day_number_of date))

-- the starts of the units from that of one date to that of another, in order
unfoldable pub starts_between : Periodicity → ℕ → ℕ → List ℕ
starts_between by from to = let first = start_day by (day_number_of from) in
    map midnight
    (filter (starts_unit by) (range_with_len first (day_number_of to + 1 - first)))

-- a date at which a unit starts
pub record IsStart (by : Periodicity) (date : ℕ) : Type 0 where
  pub first_second : midnight (day_number_of date) ≡ date
  pub starts : starts_unit by (day_number_of date) ≡ true

-- the greatest start of a unit that is not above the date
pub record IsUnitStart (by : Periodicity) (date start : ℕ) : Type 0 where
  pub is_start : IsStart by start
  pub not_above : start ≤ date
  pub greatest : (other : ℕ) → IsStart by other → other ≤ date → other ≤ start

-- the least start of a unit above the date
pub record IsNextUnit (by : Periodicity) (date start : ℕ) : Type 0 where
  pub is_start : IsStart by start
  pub above : date < start
  pub least : (other : ℕ) → IsStart by other → date < other → start ≤ other

-- no unit starts above the date and before 2100
abbrev pub IsLastUnit : Periodicity → ℕ → Type 0
IsLastUnit by date =
    (other : ℕ) → IsStart by other → date < other → midnight century_days ≤ other

-- whether units of a table are dates, from days to years
abbrev pub are_dates : Periodicity → Bool
are_dates Period = false
are_dates Record = false
are_dates Recorder = false
are_dates Day = true
are_dates Week = true
are_dates TenDays = true
are_dates Month = true
are_dates Quarter = true
are_dates HalfYear = true
are_dates Year = true
