-- Numbers: how one is spelt, and what a sum's text is.
use Rattle.std.specs.Prelude.{ℕ, zero, suc, ◌+◌, ◌-◌, ◌*◌, ◌/◌, ◌%◌, ◌^◌, ◌==◌, nat_lt, nat_le}
use Rattle.std.specs.Prelude.{if◌then◌else◌, List, [], ◌∷◌, ◌++◌, length, drop, fold, slice_index}
use Rattle.std.specs.Prelude.{take_while, Result, Ok, Err, ℤ, pos, negsuc, neg_ℤ}
use Rattle.std.specs.Char.{is_ascii_digit}
use Rattle.reg_base.specs.declared.num.Num.{Num}
use Rattle.reg_base.specs.declared.num.NumFault.{NumFault}
use Rattle.reg_base.specs.declared.num.NumFault.TheVariants.{NotANumber, TooManyDecimals, TooLarge}
use Rattle.reg_base.specs.Results.{◌>>=◌, unless}

-- the largest number, in units, either side of zero
abbrev pub largest_units : ℕ
largest_units = 999_999_999_999_999

-- the number that decimal digits spell behind those of n
abbrev pub read_on : ℕ → List ℕ → ℕ
read_on n digits = fold (λ m digit. m * 10 + (digit - 48)) n digits

-- the number that decimal digits spell
abbrev pub decimal_value : List ℕ → ℕ
decimal_value digits = read_on 0 digits

-- 1 behind a minus sign, and 0 without one
abbrev pub sign_len : List ℕ → ℕ
sign_len text = if slice_index text 0 == 45 then 1 else 0

-- the digits from this place on, of which there has to be one
unfoldable pub digits_from : List ℕ → ℕ → Result (List ℕ) NumFault
digits_from text place =
    let digits = take_while is_ascii_digit (drop place text) in
    if length digits == 0 then Err (NotANumber place) else Ok digits

-- the digits from this place to the end of the text
unfoldable pub last_digits_from : List ℕ → ℕ → Result (List ℕ) NumFault
last_digits_from text place = do
  digits ← digits_from text place
  _ ← unless (place + length digits == length text) (NotANumber (place + length digits))
  Ok digits

-- the decimals, where the whole part ends at this place: none, or a point and then digits
unfoldable pub decimals_from : List ℕ → ℕ → Result (List ℕ) NumFault
decimals_from text place =
    if place == length text then Ok []
    else (if slice_index text place == 46 then last_digits_from text (place + 1)
    else Err (NotANumber place))

-- the units of these digits with these decimals, if they fit the scale and are not too many
unfoldable pub units_of : List ℕ → List ℕ → ℕ → Result ℕ NumFault
units_of whole decimals scale = do
  _ ← unless (nat_le (length decimals) scale) TooManyDecimals
  let units = decimal_value (whole ++ decimals) * 10 ^ (scale - length decimals)
  _ ← unless (nat_le units largest_units) TooLarge
  Ok units

-- so many units, below zero behind a minus sign
abbrev pub num_of : ℕ → ℕ → Num
num_of sign units = record { units = if sign == 1 then neg_ℤ (pos units) else pos units }

-- the number that the text spells at the scale, or the first fault
unfoldable pub parse_num : List ℕ → ℕ → Result Num NumFault
parse_num text scale = do
  whole ← digits_from text (sign_len text)
  decimals ← decimals_from text (sign_len text + length whole)
  units ← units_of whole decimals scale
  Ok (num_of (sign_len text) units)

-- the last digits of n, so many, with zeros in front where n has fewer
abbrev pub last_digits : ℕ → ℕ → List ℕ
last_digits zero n = []
last_digits (suc k) n = (48 + n / 10 ^ k % 10) ∷ last_digits k n

-- the digits of n without leading zeros, of which there are at most so many
abbrev pub digits_within : ℕ → ℕ → List ℕ
digits_within zero n = []
digits_within (suc k) n =
    if nat_lt n 10 then (48 + n) ∷ [] else digits_within k (n / 10) ++ ((48 + n % 10) ∷ [])

-- the text of a whole number below 10 ^ 40
unfoldable pub number_text : ℕ → List ℕ
number_text n = digits_within 40 n

-- the text of units at a scale: the whole part, and behind a point as many decimals as the scale
unfoldable pub units_text : ℕ → ℕ → List ℕ
units_text units zero = number_text units
units_text units (suc k) = number_text (units / 10 ^ suc k) ++ (46 ∷ last_digits (suc k) units)

-- the text of a sum at a scale, with a minus sign below zero
unfoldable pub sum_text : ℤ → ℕ → List ℕ
sum_text (pos n) scale = units_text n scale
sum_text (negsuc n) scale = 45 ∷ units_text (suc n) scale
