-- Worked rows of units and of ends of ranges, computed from their definitions.
use Rattle.std.proofs.Common.{◌≡◌, ℕ, Option, Some, None, Ok, Err, List, [], ◌∷◌, map, refl, codes}
use Rattle.jiff_core.specs.Calendar.{day_count, days_of_years, days_of_months}
use Rattle.reg_base.specs.declared.date.DateFault.TheVariants.{NotADate, OutOfYears}
use Rattle.reg_base.specs.declared.tables.Periodicity.{Periodicity}
use Rattle.reg_base.specs.declared.tables.Periodicity.TheVariants.{Period, Record, Recorder, Day}
use Rattle.reg_base.specs.declared.tables.Periodicity.TheVariants.{Week, TenDays, Month, Quarter}
use Rattle.reg_base.specs.declared.tables.Periodicity.TheVariants.{HalfYear, Year}
use Rattle.reg_base.specs.Dates.{day_from_year, day_from_month, parse_date_end, parse_long_date}
use Rattle.reg_base.specs.Dates.{number_between, day_spelt, second_spelt, date_of}
use Rattle.reg_base.specs.Units.{starts_unit, start_day, unit_start, next_day, next_unit}
use Rattle.reg_base.specs.Units.{starts_between}

-- the units that are dates
sizes : List Periodicity
sizes = Day ∷ Week ∷ TenDays ∷ Month ∷ Quarter ∷ HalfYear ∷ Year ∷ []

-- where the units of a date start, and where the next ones do
starts : ℕ → List ℕ
starts date = map (λ by. unit_start by date) sizes

nexts : ℕ → List (Option ℕ)
nexts date = map (λ by. next_unit by date) sizes

-- 29 February 2024, at one
leap_day : starts 762_483_600
    ≡ 762_480_000 ∷ 762_220_800 ∷ 761_788_800 ∷ 760_060_800 ∷ 757_382_400 ∷ 757_382_400
    ∷ 757_382_400 ∷ []
unfolding starts sizes unit_start start_day starts_unit day_from_year day_from_month
leap_day = refl

leap_day-next : nexts 762_483_600
    ≡ Some 762_566_400 ∷ Some 762_825_600 ∷ Some 762_566_400 ∷ Some 762_566_400 ∷ Some 765_244_800
    ∷ Some 773_107_200 ∷ Some 789_004_800 ∷ []
unfolding nexts sizes next_unit next_day starts_unit day_from_year day_from_month
leap_day-next = refl

-- 31 December 2023, a Sunday
last_of_year : starts 757_299_600
    ≡ 757_296_000 ∷ 756_777_600 ∷ 756_432_000 ∷ 754_704_000 ∷ 749_433_600 ∷ 741_484_800
    ∷ 725_846_400 ∷ []
unfolding starts sizes unit_start start_day starts_unit day_from_year day_from_month
last_of_year = refl

last_of_year-next : nexts 757_299_600
    ≡ Some 757_382_400 ∷ Some 757_382_400 ∷ Some 757_382_400 ∷ Some 757_382_400 ∷ Some 757_382_400
    ∷ Some 757_382_400 ∷ Some 757_382_400 ∷ []
unfolding nexts sizes next_unit next_day starts_unit day_from_year day_from_month
last_of_year-next = refl

-- 31 December 2099
last_of_century : starts 3_155_677_200
    ≡ 3_155_673_600 ∷ 3_155_414_400 ∷ 3_154_809_600 ∷ 3_153_081_600 ∷ 3_147_811_200 ∷ 3_139_862_400
    ∷ 3_124_224_000 ∷ []
unfolding starts sizes unit_start start_day starts_unit day_from_year day_from_month
last_of_century = refl

last_of_century-next : nexts 3_155_677_200
    ≡ None ∷ None ∷ None ∷ None ∷ None ∷ None ∷ None ∷ []
unfolding nexts sizes next_unit next_day starts_unit day_from_year day_from_month
last_of_century-next = refl

-- 1 January 2000, a Saturday
first_of_century : starts 3_600
    ≡ 0 ∷ 0 ∷ 0 ∷ 0 ∷ 0 ∷ 0 ∷ 0 ∷ []
unfolding starts sizes unit_start start_day starts_unit day_from_year day_from_month
first_of_century = refl

first_of_century-next : nexts 3_600
    ≡ Some 86_400 ∷ Some 172_800 ∷ Some 864_000 ∷ Some 2_678_400 ∷ Some 7_862_400 ∷ Some 15_724_800
    ∷ Some 31_622_400 ∷ []
unfolding nexts sizes next_unit next_day starts_unit day_from_year day_from_month
first_of_century-next = refl

-- the first week has two days, 1 and 2 January 2000; the second begins on Monday the third
first_weeks : map (unit_start Week) (3_600 ∷ 90_000 ∷ 176_400 ∷ 777_600 ∷ [])
    ≡ 0 ∷ 0 ∷ 172_800 ∷ 777_600 ∷ []
unfolding unit_start start_day starts_unit
first_weeks = refl

first_weeks-next : map (next_unit Week) (3_600 ∷ 90_000 ∷ 176_400 ∷ 777_600 ∷ [])
    ≡ Some 172_800 ∷ Some 172_800 ∷ Some 777_600 ∷ Some 1_382_400 ∷ []
unfolding next_unit next_day starts_unit
first_weeks-next = refl

-- ten days at the 10th, 11th, 20th and 21st of February, and at 31 January
ten_days : map (unit_start TenDays)
    (760_921_200 ∷ 760_924_800 ∷ 761_706_000 ∷ 761_792_400 ∷ 759_978_000 ∷ [])
    ≡ 760_060_800 ∷ 760_924_800 ∷ 760_924_800 ∷ 761_788_800 ∷ 759_110_400 ∷ []
unfolding unit_start start_day starts_unit day_from_year day_from_month
ten_days = refl

ten_days-next : map (next_unit TenDays)
    (760_921_200 ∷ 760_924_800 ∷ 761_706_000 ∷ 761_792_400 ∷ 759_978_000 ∷ [])
    ≡ Some 760_924_800 ∷ Some 761_788_800 ∷ Some 761_788_800 ∷ Some 762_566_400 ∷ Some 760_060_800
    ∷ []
unfolding next_unit next_day starts_unit day_from_year day_from_month
ten_days-next = refl

-- what has no such units starts with the century, and nothing comes behind
no_units : map (λ by. unit_start by 762_483_600) (Period ∷ Record ∷ Recorder ∷ []) ≡ 0 ∷ 0 ∷ 0 ∷ []
unfolding unit_start start_day starts_unit
no_units = refl

no_units-next : map (λ by. next_unit by 3_155_414_400) (Period ∷ Record ∷ Recorder ∷ [])
    ≡ None ∷ None ∷ None ∷ []
unfolding next_unit next_day starts_unit
no_units-next = refl

-- the starts of ten days from 5 February to 11 March 2024
tens_between : starts_between TenDays 760_449_600 763_430_400
    ≡ 760_060_800 ∷ 760_924_800 ∷ 761_788_800 ∷ 762_566_400 ∷ 763_430_400 ∷ []
unfolding starts_between start_day starts_unit day_from_year day_from_month
tens_between = refl

weeks_between : starts_between Week 86_400 777_600
    ≡ 0 ∷ 172_800 ∷ 777_600 ∷ []
unfolding starts_between start_day starts_unit
weeks_between = refl

-- a day alone is its last second, a time its own second
day_alone : parse_date_end (codes "2024-01-31") ≡ Ok 760_060_799
unfolding parse_date_end parse_long_date number_between day_spelt second_spelt date_of day_count
    days_of_years days_of_months
day_alone = refl

first_second : parse_date_end (codes "2024-01-31T00:00:00") ≡ Ok 759_974_400
unfolding parse_date_end parse_long_date number_between day_spelt second_spelt date_of day_count
    days_of_years days_of_months
first_second = refl

leap_day_alone : parse_date_end (codes "2024-02-29") ≡ Ok 762_566_399
unfolding parse_date_end parse_long_date number_between day_spelt second_spelt date_of day_count
    days_of_years days_of_months
leap_day_alone = refl

last_day : parse_date_end (codes "2099-12-31") ≡ Ok 3_155_759_999
unfolding parse_date_end parse_long_date number_between day_spelt second_spelt date_of day_count
    days_of_years days_of_months
last_day = refl

no_leap_day : parse_date_end (codes "2023-02-29") ≡ Err NotADate
unfolding parse_date_end parse_long_date number_between day_spelt second_spelt date_of day_count
    days_of_years days_of_months
no_leap_day = refl

century_before : parse_date_end (codes "1999-12-31") ≡ Err OutOfYears
unfolding parse_date_end parse_long_date number_between day_spelt second_spelt date_of day_count
    days_of_years days_of_months
century_before = refl

month_alone : parse_date_end (codes "2024-01") ≡ Err NotADate
unfolding parse_date_end parse_long_date number_between day_spelt second_spelt date_of day_count
    days_of_years days_of_months
month_alone = refl
