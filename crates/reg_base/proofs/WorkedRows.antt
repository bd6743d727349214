-- Worked rows of numbers, sums, dates, points and cuts, computed from their definitions.
use Rattle.std.proofs.Common.{◌≡◌, ℕ, ◌+◌, nat_lt, [], ◌∷◌, refl, codes, Result, Ok, Err, pos}
use Rattle.std.proofs.Common.{negsuc}
use Rattle.jiff_core.specs.Calendar.{day_count, days_of_years, days_of_months}
use Rattle.reg_base.specs.declared.num.NumFault.TheVariants.{NotANumber, TooManyDecimals, TooLarge}
use Rattle.reg_base.specs.declared.date.DateFault.TheVariants.{NotADate, OutOfYears}
use Rattle.reg_base.specs.declared.cut.Cut.TheVariants.{Now, BeforeDate, ThroughDate, BeforePoint}
use Rattle.reg_base.specs.declared.cut.Cut.TheVariants.{ThroughPoint}
use Rattle.reg_base.specs.Results.{◌>>=◌, unless, each, check_each}
use Rattle.reg_base.specs.Shares.{share}
use Rattle.reg_base.specs.Numbers.{parse_num, digits_from, last_digits_from, decimals_from}
use Rattle.reg_base.specs.Numbers.{units_of, sum_text, units_text, number_text}
use Rattle.reg_base.specs.Dates.{parse_date, parse_long_date, number_between, day_spelt}
use Rattle.reg_base.specs.Dates.{second_spelt, date_of, date_text, day_text, second_text, day_of}
use Rattle.reg_base.specs.Dates.{day_from_year, day_from_month}
use Rattle.reg_base.specs.Points.{parse_point, point_text, is_whole_number, doc_number}
use Rattle.reg_base.specs.Cuts.{parse_cut, cut_before, cut_through, cut_by_word, cut_alone}

-- numbers
too_many_decimals : parse_num (codes "1.2345") 3 ≡ Err TooManyDecimals
unfolding parse_num digits_from last_digits_from decimals_from units_of
too_many_decimals = refl

letter : parse_num (codes "1x") 3 ≡ Err (NotANumber 1)
unfolding parse_num digits_from last_digits_from decimals_from units_of
letter = refl

letter_behind_decimals : parse_num (codes "1.2345x") 3 ≡ Err (NotANumber 6)
unfolding parse_num digits_from last_digits_from decimals_from units_of
letter_behind_decimals = refl

nothing : parse_num (codes "") 3 ≡ Err (NotANumber 0)
unfolding parse_num digits_from last_digits_from decimals_from units_of
nothing = refl

sign_alone : parse_num (codes "-") 3 ≡ Err (NotANumber 1)
unfolding parse_num digits_from last_digits_from decimals_from units_of
sign_alone = refl

point_last : parse_num (codes "1.") 3 ≡ Err (NotANumber 2)
unfolding parse_num digits_from last_digits_from decimals_from units_of
point_last = refl

point_first : parse_num (codes ".5") 3 ≡ Err (NotANumber 0)
unfolding parse_num digits_from last_digits_from decimals_from units_of
point_first = refl

plus : parse_num (codes "+1") 3 ≡ Err (NotANumber 0)
unfolding parse_num digits_from last_digits_from decimals_from units_of
plus = refl

decimals_at_scale_zero : parse_num (codes "1.5") 0 ≡ Err TooManyDecimals
unfolding parse_num digits_from last_digits_from decimals_from units_of
decimals_at_scale_zero = refl

too_large : parse_num (codes "1000000000000000") 0 ≡ Err TooLarge
unfolding parse_num digits_from last_digits_from decimals_from units_of
too_large = refl

largest : parse_num (codes "-999999999.999999") 6
    ≡ Ok (record { units = negsuc 999_999_999_999_998 })
unfolding parse_num digits_from last_digits_from decimals_from units_of
largest = refl

zeros_in_front : parse_num (codes "-007.5") 3 ≡ Ok (record { units = negsuc 7499 })
unfolding parse_num digits_from last_digits_from decimals_from units_of
zeros_in_front = refl

minus_nothing : parse_num (codes "-0") 2 ≡ Ok (record { units = pos 0 })
unfolding parse_num digits_from last_digits_from decimals_from units_of
minus_nothing = refl

-- sums
whole_sum : sum_text (pos 120) 0 ≡ codes "120"
unfolding sum_text units_text number_text
whole_sum = refl

no_sum : sum_text (pos 0) 2 ≡ codes "0.00"
unfolding sum_text units_text number_text
no_sum = refl

sum_of_cents : sum_text (pos 4286) 2 ≡ codes "42.86"
unfolding sum_text units_text number_text
sum_of_cents = refl

part_of_one : sum_text (pos 5) 3 ≡ codes "0.005"
unfolding sum_text units_text number_text
part_of_one = refl

sum_below_zero : sum_text (negsuc 999) 3 ≡ codes "-1.000"
unfolding sum_text units_text number_text
sum_below_zero = refl

-- dates
first_second : parse_date (codes "2000-01-01") ≡ Ok 0
unfolding number_between day_spelt second_spelt date_of parse_long_date parse_date day_count
    days_of_years days_of_months
first_second = refl

last_second : parse_date (codes "2099-12-31T23:59:59") ≡ Ok 3_155_759_999
unfolding number_between day_spelt second_spelt date_of parse_long_date parse_date day_count
    days_of_years days_of_months
last_second = refl

morning : parse_date (codes "2024-01-10T09:00:00") ≡ Ok 758_192_400
unfolding number_between day_spelt second_spelt date_of parse_long_date parse_date day_count
    days_of_years days_of_months
morning = refl

leap_day : parse_date (codes "2024-02-29") ≡ Ok 762_480_000
unfolding number_between day_spelt second_spelt date_of parse_long_date parse_date day_count
    days_of_years days_of_months
leap_day = refl

day_that_is_none : parse_date (codes "2024-02-30") ≡ Err NotADate
unfolding number_between day_spelt second_spelt date_of parse_long_date parse_date day_count
    days_of_years days_of_months
day_that_is_none = refl

end_of_a_day : parse_date (codes "2024-01-10T24:00:00") ≡ Err NotADate
unfolding number_between day_spelt second_spelt date_of parse_long_date parse_date day_count
    days_of_years days_of_months
end_of_a_day = refl

leap_second : parse_date (codes "2024-12-31T23:59:60") ≡ Err NotADate
unfolding number_between day_spelt second_spelt date_of parse_long_date parse_date day_count
    days_of_years days_of_months
leap_second = refl

small_mark : parse_date (codes "2024-01-10t09:00:00") ≡ Err NotADate
unfolding number_between day_spelt second_spelt date_of parse_long_date parse_date day_count
    days_of_years days_of_months
small_mark = refl

year_before : parse_date (codes "1999-12-31") ≡ Err OutOfYears
unfolding number_between day_spelt second_spelt date_of parse_long_date parse_date day_count
    days_of_years days_of_months
year_before = refl

year_zero : parse_date (codes "0000-02-29") ≡ Err OutOfYears
unfolding number_between day_spelt second_spelt date_of parse_long_date parse_date day_count
    days_of_years days_of_months
year_zero = refl

year_after : parse_date (codes "2100-01-01") ≡ Err OutOfYears
unfolding number_between day_spelt second_spelt date_of parse_long_date parse_date day_count
    days_of_years days_of_months
year_after = refl

morning_text : date_text 758_192_400 ≡ codes "2024-01-10T09:00:00"
unfolding date_text day_text second_text day_of day_from_year day_from_month
morning_text = refl

last_text : date_text 3_155_759_999 ≡ codes "2099-12-31T23:59:59"
unfolding date_text day_text second_text day_of day_from_year day_from_month
last_text = refl

-- points
point : parse_point (codes "2024-01-10T09:00:00#1") ≡ Ok (record { date = 758_192_400; doc = 1 })
unfolding is_whole_number doc_number parse_point number_between day_spelt second_spelt date_of
    parse_long_date parse_date day_count days_of_years days_of_months
point = refl

largest_document : parse_point (codes "2000-01-01T00:00:00#4294967295")
    ≡ Ok (record { date = 0; doc = 4_294_967_295 })
unfolding is_whole_number doc_number parse_point number_between day_spelt second_spelt date_of
    parse_long_date parse_date day_count days_of_years days_of_months
largest_document = refl

document_past_it : parse_point (codes "2000-01-01T00:00:00#4294967296") ≡ Err NotADate
unfolding is_whole_number doc_number parse_point number_between day_spelt second_spelt date_of
    parse_long_date parse_date day_count days_of_years days_of_months
document_past_it = refl

zero_in_front : parse_point (codes "2024-01-10T09:00:00#01") ≡ Err NotADate
unfolding is_whole_number doc_number parse_point number_between day_spelt second_spelt date_of
    parse_long_date parse_date day_count days_of_years days_of_months
zero_in_front = refl

day_alone : parse_point (codes "2024-01-10#1") ≡ Err NotADate
unfolding is_whole_number doc_number parse_point number_between day_spelt second_spelt date_of
    parse_long_date parse_date day_count days_of_years days_of_months
day_alone = refl

two_faults : parse_point (codes "1999-12-31T00:00:00#01") ≡ Err NotADate
unfolding is_whole_number doc_number parse_point number_between day_spelt second_spelt date_of
    parse_long_date parse_date day_count days_of_years days_of_months
two_faults = refl

year_fault_alone : parse_point (codes "1999-12-31T00:00:00#1") ≡ Err OutOfYears
unfolding is_whole_number doc_number parse_point number_between day_spelt second_spelt date_of
    parse_long_date parse_date day_count days_of_years days_of_months
year_fault_alone = refl

point_again : point_text (record { date = 758_192_400; doc = 1 }) ≡ codes "2024-01-10T09:00:00#1"
unfolding point_text number_text date_text day_text second_text day_of day_from_year day_from_month
point_again = refl

-- cuts
now : parse_cut (codes "now") ≡ Ok Now
unfolding cut_before cut_through cut_by_word cut_alone parse_cut is_whole_number doc_number
    parse_point number_between day_spelt second_spelt date_of parse_long_date parse_date day_count
    days_of_years days_of_months
now = refl

before_date : parse_cut (codes "before 2024-01-10T09:00:00") ≡ Ok (BeforeDate 758_192_400)
unfolding cut_before cut_through cut_by_word cut_alone parse_cut is_whole_number doc_number
    parse_point number_between day_spelt second_spelt date_of parse_long_date parse_date day_count
    days_of_years days_of_months
before_date = refl

date_alone : parse_cut (codes "2024-01-10T09:00:00") ≡ Ok (BeforeDate 758_192_400)
unfolding cut_before cut_through cut_by_word cut_alone parse_cut is_whole_number doc_number
    parse_point number_between day_spelt second_spelt date_of parse_long_date parse_date day_count
    days_of_years days_of_months
date_alone = refl

through_day : parse_cut (codes "through 2024-01-10") ≡ Ok (ThroughDate 758_160_000)
unfolding cut_before cut_through cut_by_word cut_alone parse_cut is_whole_number doc_number
    parse_point number_between day_spelt second_spelt date_of parse_long_date parse_date day_count
    days_of_years days_of_months
through_day = refl

before_point : parse_cut (codes "before 2024-01-10T09:00:00#2")
    ≡ Ok (BeforePoint (record { date = 758_192_400; doc = 2 }))
unfolding cut_before cut_through cut_by_word cut_alone parse_cut is_whole_number doc_number
    parse_point number_between day_spelt second_spelt date_of parse_long_date parse_date day_count
    days_of_years days_of_months
before_point = refl

through_point : parse_cut (codes "through 2024-01-10T09:00:00#2")
    ≡ Ok (ThroughPoint (record { date = 758_192_400; doc = 2 }))
unfolding cut_before cut_through cut_by_word cut_alone parse_cut is_whole_number doc_number
    parse_point number_between day_spelt second_spelt date_of parse_long_date parse_date day_count
    days_of_years days_of_months
through_point = refl

point_alone : parse_cut (codes "2024-01-10T09:00:00#1") ≡ Err NotADate
unfolding cut_before cut_through cut_by_word cut_alone parse_cut is_whole_number doc_number
    parse_point number_between day_spelt second_spelt date_of parse_long_date parse_date day_count
    days_of_years days_of_months
point_alone = refl

two_spaces : parse_cut (codes "before  2024-01-10") ≡ Err NotADate
unfolding cut_before cut_through cut_by_word cut_alone parse_cut is_whole_number doc_number
    parse_point number_between day_spelt second_spelt date_of parse_long_date parse_date day_count
    days_of_years days_of_months
two_spaces = refl

word_alone : parse_cut (codes "before") ≡ Err NotADate
unfolding cut_before cut_through cut_by_word cut_alone parse_cut is_whole_number doc_number
    parse_point number_between day_spelt second_spelt date_of parse_long_date parse_date day_count
    days_of_years days_of_months
word_alone = refl

-- readers of lists, over one that adds one to a number below 3
plus_one : ℕ → Result ℕ ℕ
plus_one n = unless (nat_lt n 3) n >>= λ _. Ok (n + 1)

each_read : each plus_one (1 ∷ 2 ∷ []) ≡ Ok (2 ∷ 3 ∷ [])
unfolding plus_one
each_read = refl

first_not_read : each plus_one (1 ∷ 5 ∷ 4 ∷ []) ≡ Err 5
unfolding plus_one
first_not_read = refl

each_passes : check_each plus_one (1 ∷ 2 ∷ []) ≡ Ok tt
unfolding plus_one
each_passes = refl

first_not_passed : check_each plus_one (2 ∷ 5 ∷ 4 ∷ []) ≡ Err 5
unfolding plus_one
first_not_passed = refl

-- shares: 100.00 for 7.000, of which 3.000 are taken
share_of_seven : share (pos 10_000) (pos 3_000) (pos 7_000) ≡ pos 4_286
unfolding share
share_of_seven = refl

-- a half goes away from zero, whether the number there is odd or even
half_to_odd : share (pos 5) (pos 1) (pos 2) ≡ pos 3
unfolding share
half_to_odd = refl

half_to_even : share (pos 3) (pos 1) (pos 2) ≡ pos 2
unfolding share
half_to_even = refl

half_below_zero : share (negsuc 4) (pos 1) (pos 2) ≡ negsuc 2
unfolding share
half_below_zero = refl

half_below_zero_to_even : share (negsuc 2) (pos 1) (pos 2) ≡ negsuc 1
unfolding share
half_below_zero_to_even = refl

-- less than a half goes towards zero
less_than_half : share (negsuc 0) (pos 1) (pos 3) ≡ pos 0
unfolding share
less_than_half = refl
