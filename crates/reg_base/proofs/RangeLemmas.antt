-- What is read as a number, a date, a point or a cut is in range.
use Rattle.std.proofs.Common.{ℕ, pos, neg_ℤ, unsigned_abs, ◌+◌, ◌-◌, ◌*◌, ◌^◌, ◌++◌, Bool, true}
use Rattle.std.proofs.Common.{false, cond, ◌<◌, ◌≤◌, ◌&&◌, ◌==◌, nat_lt, nat_le, List, drop, take}
use Rattle.std.proofs.Common.{length, slice_index, bytes_eq, codes, IfOk, Ok, Err, arith}
use Rattle.std.proofs.lemmas.Bool.Decides.{nat_tests}
use Rattle.std.specs.List.{before_first, after_first}
use Rattle.jiff_core.specs.Calendar.{day_count}
use Rattle.jiff_core.proofs.SignedLemmas.{signed_arith}
use Rattle.jiff_core.proofs.CalendarLemmas.{day_count-lt_year}
use Rattle.reg_base.specs.declared.cut.Cut.TheVariants.{Now, BeforeDate, ThroughDate, BeforePoint}
use Rattle.reg_base.specs.declared.cut.Cut.TheVariants.{ThroughPoint}
use Rattle.reg_base.specs.declared.date.DateFault.TheVariants.{NotADate, OutOfYears}
use Rattle.reg_base.specs.declared.day.Day.{Day}
use Rattle.std.proofs.lemmas.Int.{ints}
use Rattle.reg_base.specs.declared.num.Num.{Num}
use Rattle.reg_base.specs.declared.num.NumFault.TheVariants.{TooManyDecimals, TooLarge}
use Rattle.reg_base.specs.Numbers.{largest_units, decimal_value, sign_len, digits_from}
use Rattle.reg_base.specs.Numbers.{decimals_from, units_of, num_of, parse_num}
use Rattle.reg_base.specs.Dates.{number_between, day_spelt, second_spelt, has_day, date_of}
use Rattle.reg_base.specs.Dates.{parse_long_date, parse_date, parse_date_end}
use Rattle.reg_base.specs.Results.{◌>>=◌, unless}
use Rattle.reg_base.specs.Points.{IsPoint, is_whole_number, doc_number, parse_point}
use Rattle.reg_base.specs.Cuts.{IsCut, has_byte, cut_before, cut_through, cut_by_word, cut_alone}
use Rattle.reg_base.specs.Cuts.{parse_cut}
use Rattle.reg_base.proofs.DayLemmas.{civil-has_day, day_count-2000, day_count-2100}
use Rattle.reg_base.proofs.ResultLemmas.{IfOk-then, IfOk-next, IfOk-unless, IfOk-if}

-- a second of 2000 to 2099
abbrev IsDate : ℕ → Type 0
IsDate date = date < 3_155_760_000

-- a second of a day
abbrev IsOfDay : ℕ → Type 0
IsOfDay second = second < 86400

-- the second that three numbers make
second_of-within : (hour minute second : ℕ)
    → IfOk (unless (nat_lt hour 24 && nat_lt minute 60 && nat_lt second 60) NotADate
    >>= λ _. Ok (3600 * hour + 60 * minute + second)) IsOfDay
second_of-within hour minute second =
    IfOk-unless IsOfDay (nat_lt hour 24 && nat_lt minute 60 && nat_lt second 60) NotADate
    (λ _. Ok (3600 * hour + 60 * minute + second)) (λ within. grind (arith, nat_tests))

second_spelt-within : (text : List ℕ) → IfOk (second_spelt text) IsOfDay
unfolding second_spelt
second_spelt-within text =
    IfOk-unless IsOfDay
    ((slice_index text 10 == 84) && (slice_index text 13 == 58) && (slice_index text 16 == 58))
    NotADate _ (λ _.
    IfOk-next IsOfDay (number_between text 11 13) _ (λ hour.
    IfOk-next IsOfDay (number_between text 14 16) _ (λ minute.
    IfOk-next IsOfDay (number_between text 17 19) _
    (λ second. second_of-within hour minute second))))

date_of-within : (d : Day) (second : ℕ) → second < 86400 → IfOk (date_of d second) IsDate
unfolding date_of
date_of-within d second small =
    IfOk-unless IsDate (has_day d) NotADate _ (λ real.
    IfOk-unless IsDate (nat_le 2000 d.year && nat_le d.year 2099) OutOfYears _ (λ years.
    let high : d.year ≤ 2099 = grind (arith, nat_tests) in
    let civil = civil-has_day d (omega arith) real in
    let before : day_count (pos d.year) d.month d.day < day_count (pos 2100) 1 1 =
    day_count-lt_year (pos d.year) d.month d.day (pos 2100) 1 1 civil (omega arith)
    (omega (arith, signed_arith)) in
    omega (arith, before, day_count-2000, day_count-2100)))

pub parse_long_date-within : (text : List ℕ) → IfOk (parse_long_date text) IsDate
unfolding parse_long_date
parse_long_date-within text =
    IfOk-unless IsDate (length text == 19) NotADate _ (λ _.
    IfOk-next IsDate (day_spelt text) _ (λ day.
    IfOk-then IsOfDay IsDate (second_spelt text) _ (second_spelt-within text)
    (λ second within. date_of-within day second within)))

pub parse_date-within : (text : List ℕ) → IfOk (parse_date text) IsDate
unfolding parse_date
parse_date-within text =
    IfOk-if IsDate (length text == 10) (day_spelt text >>= λ day. date_of day 0)
    (parse_long_date text)
    (IfOk-next IsDate (day_spelt text) _ (λ day. date_of-within day 0 (omega arith)))
    (parse_long_date-within text)

pub parse_date_end-within : (text : List ℕ) → IfOk (parse_date_end text) IsDate
unfolding parse_date_end
parse_date_end-within text =
    IfOk-if IsDate (length text == 10) (day_spelt text >>= λ day. date_of day 86_399)
    (parse_long_date text)
    (IfOk-next IsDate (day_spelt text) _ (λ day. date_of-within day 86_399 (omega arith)))
    (parse_long_date-within text)

-- a number of 32 bits
abbrev IsSmall : ℕ → Type 0
IsSmall number = number < 2 ^ 32

doc_number-small : (digits : List ℕ) → IfOk (doc_number digits) IsSmall
unfolding doc_number
doc_number-small digits =
    IfOk-unless IsSmall (is_whole_number digits) NotADate _ (λ _.
    IfOk-unless IsSmall (nat_lt (decimal_value digits) (2 ^ 32)) NotADate _
    (λ small. grind (arith, nat_tests)))

pub parse_point-IsPoint : (text : List ℕ) → IfOk (parse_point text) IsPoint
unfolding parse_point
parse_point-IsPoint text =
    IfOk-unless IsPoint (slice_index text 19 == 35) NotADate _ (λ _.
    IfOk-then IsSmall IsPoint (doc_number (drop 20 text)) _ (doc_number-small (drop 20 text))
    (λ doc small.
    IfOk-then IsDate IsPoint (parse_long_date (take 19 text)) _
    (parse_long_date-within (take 19 text))
    (λ date within. record { in_century = within; small = small })))

cut_before-IsCut : (place : List ℕ) → IfOk (cut_before place) IsCut
unfolding cut_before
cut_before-IsCut place =
    IfOk-if IsCut (has_byte 35 place) (parse_point place >>= λ p. Ok (BeforePoint p))
    (parse_date place >>= λ d. Ok (BeforeDate d))
    (IfOk-then IsPoint IsCut (parse_point place) _ (parse_point-IsPoint place) (λ p is. is))
    (IfOk-then IsDate IsCut (parse_date place) _ (parse_date-within place) (λ d is. is))

cut_through-IsCut : (place : List ℕ) → IfOk (cut_through place) IsCut
unfolding cut_through
cut_through-IsCut place =
    IfOk-if IsCut (has_byte 35 place) (parse_point place >>= λ p. Ok (ThroughPoint p))
    (parse_date place >>= λ d. Ok (ThroughDate d))
    (IfOk-then IsPoint IsCut (parse_point place) _ (parse_point-IsPoint place) (λ p is. is))
    (IfOk-then IsDate IsCut (parse_date place) _ (parse_date-within place) (λ d is. is))

cut_by_word-IsCut : (word place : List ℕ) → IfOk (cut_by_word word place) IsCut
unfolding cut_by_word
cut_by_word-IsCut word place =
    IfOk-if IsCut (bytes_eq word (codes "before")) (cut_before place) _ (cut_before-IsCut place)
    (IfOk-if IsCut (bytes_eq word (codes "through")) (cut_through place) (Err NotADate)
    (cut_through-IsCut place) tt)

cut_alone-IsCut : (text : List ℕ) → IfOk (cut_alone text) IsCut
unfolding cut_alone
cut_alone-IsCut text =
    IfOk-if IsCut (bytes_eq text (codes "now")) (Ok Now) _ tt
    (IfOk-then IsDate IsCut (parse_date text) _ (parse_date-within text) (λ d is. is))

pub parse_cut-IsCut : (text : List ℕ) → IfOk (parse_cut text) IsCut
unfolding parse_cut
parse_cut-IsCut text =
    IfOk-if IsCut (has_byte 32 text) _ (cut_alone text)
    (cut_by_word-IsCut (before_first (λ b. b == 32) text) (after_first (λ b. b == 32) text))
    (cut_alone-IsCut text)

-- a number within the largest one, either side of zero
abbrev IsWithinLargest : Num → Type 0
IsWithinLargest n = unsigned_abs n.units ≤ largest_units

-- units within the largest number
abbrev IsSmallEnough : ℕ → Type 0
IsSmallEnough units = units ≤ largest_units

units_of-within : (whole decimals : List ℕ) (scale : ℕ)
    → IfOk (units_of whole decimals scale) IsSmallEnough
unfolding units_of
units_of-within whole decimals scale =
    IfOk-unless IsSmallEnough (nat_le (length decimals) scale) TooManyDecimals _ (λ _.
    let units = decimal_value (whole ++ decimals) * 10 ^ (scale - length decimals) in
    IfOk-unless IsSmallEnough (nat_le units largest_units) TooLarge (λ _. Ok units)
    (λ small. grind (arith, nat_tests)))

num_of-within : (sign units : ℕ) → units ≤ largest_units → IsWithinLargest (num_of sign units)
num_of-within sign units small = at (sign == 1)
  where
    at : (v : Bool) → unsigned_abs (cond v (neg_ℤ (pos units)) (pos units)) ≤ largest_units
    at true = omega (arith, ints)
    at false = small

pub parse_num-within : (text : List ℕ) (scale : ℕ) → IfOk (parse_num text scale) IsWithinLargest
unfolding parse_num
parse_num-within text scale =
    IfOk-next IsWithinLargest (digits_from text (sign_len text)) _ (λ whole.
    IfOk-next IsWithinLargest (decimals_from text (sign_len text + length whole)) _ (λ decimals.
    IfOk-then IsSmallEnough IsWithinLargest (units_of whole decimals scale) _
    (units_of-within whole decimals scale)
    (λ units small. num_of-within (sign_len text) units small)))
