-- The texts of points and cuts are read back to them.
use Rattle.std.proofs.Common.{◌≡◌, ℕ, zero, suc, ◌+◌, ◌/◌, ◌%◌, ◌^◌, ◌<◌, ◌==◌, true, false, ◌||◌}
use Rattle.std.proofs.Common.{nat_lt, List, length, get_or, ◌++◌, ◌∷◌, Ok, refl, ◌∙◌, arith, rules}
use Rattle.std.proofs.Common.{tests, inl, inr}
use Rattle.std.specs.List.{list_all}
use Rattle.std.specs.Char.{is_ascii_digit}
use Rattle.std.specs.Fmt.{decimal}
use Rattle.std.proofs.lemmas.Bool.{cases_lt}
use Rattle.std.proofs.lemmas.Bool.Decides.{nat_tests}
use Rattle.std.proofs.lemmas.Str.Parse.{IsNumeralModel, numerals_by_fold}
use Rattle.std.proofs.lemmas.Fmt.{digits_decimal, digits_value-decimal, decimal_nonempty}
use Rattle.std.proofs.lemmas.Fmt.{first_decimal}
use Rattle.reg_base.specs.declared.cut.Cut.{Cut}
use Rattle.reg_base.specs.declared.cut.Cut.TheVariants.{Now, BeforeDate, ThroughDate, BeforePoint}
use Rattle.reg_base.specs.declared.cut.Cut.TheVariants.{ThroughPoint}
use Rattle.reg_base.specs.declared.point.Point.{Point}
use Rattle.reg_base.specs.Numbers.{read_on, decimal_value, last_digits, number_text}
use Rattle.reg_base.specs.Dates.{date_text, day_text, second_text}
use Rattle.reg_base.specs.Cuts.{IsCut, has_byte, parse_cut, cut_by_word, cut_before, cut_through}
use Rattle.reg_base.specs.Cuts.{cut_alone, cut_text}
use Rattle.std.proofs.lemmas.List.Folds.{list_any-append}
use Rattle.reg_base.specs.Points.{IsPoint, has_leading_zero, is_whole_number, doc_number}
use Rattle.reg_base.specs.Points.{parse_point, point_text}
use Rattle.reg_base.proofs.NumberLemmas.{decimal-number_text}
use Rattle.reg_base.proofs.DateTextLemmas.{parse_date-text, parse_long_date-text}

-- our words for what std reads of digits
pub numerals : IsNumeralModel (λ digits. list_all is_ascii_digit digits ≡ true) (read_on 0)
numerals = numerals_by_fold _ (search rules) read_on (search rules)

number_text-decimal : (n : ℕ) → n < 2 ^ 64 → decimal n ≡ number_text n
number_text-decimal n small = decimal-number_text n (omega arith)

pub all_digits-number_text : (n : ℕ) → n < 2 ^ 64 → list_all is_ascii_digit (number_text n) ≡ true
all_digits-number_text n small =
    rw (number_text-decimal n small) at (digits_decimal numerals n small)

pub decimal_value-number_text : (n : ℕ) → n < 2 ^ 64 → decimal_value (number_text n) ≡ n
decimal_value-number_text n small =
    rw (number_text-decimal n small) at (digits_value-decimal numerals n small)

pub number_text-some : (n : ℕ) → n < 2 ^ 64 → 0 < length (number_text n)
number_text-some n small = rw (number_text-decimal n small) at (decimal_nonempty n small)

number_text-first : (n : ℕ) → 0 < n → n < 2 ^ 64 → 48 < get_or (number_text n) 0 0
number_text-first n some small = rw (number_text-decimal n small) at (first_decimal n some small)

not_zero_first : (digits : List ℕ) → 48 < get_or digits 0 0 → has_leading_zero digits ≡ false
not_zero_first digits first = grind (arith, nat_tests)

zero_alone : has_leading_zero (number_text 0) ≡ false
unfolding number_text
zero_alone = refl

no_leading_zero : (n : ℕ) → n < 2 ^ 64 → has_leading_zero (number_text n) ≡ false
no_leading_zero n small =
    elim (cases_lt 0 n) [
      | inl some ↦ not_zero_first (number_text n) (number_text-first n some small)
      | inr none ↦ let same : n ≡ 0 = omega arith in rw same zero_alone
    ]

doc_number-text : (n : ℕ) → n < 2 ^ 32 → doc_number (number_text n) ≡ Ok n
unfolding doc_number is_whole_number
doc_number-text n small =
    let wide : n < 2 ^ 64 = omega arith in
    let zero_free = no_leading_zero n wide in
    let some : nat_lt 0 (length (number_text n)) ≡ true =
    search (rules, tests, number_text-some n wide) in
    let digits = all_digits-number_text n wide in
    let value = decimal_value-number_text n wide in
    let fits : nat_lt n (2 ^ 32) ≡ true = search (rules, tests) in
    rw (zero_free, some, digits, value, fits)

-- the text of a point is read back to the point
pub parse_point-text : (p : Point) → IsPoint p → parse_point (point_text p) ≡ Ok p
unfolding parse_point point_text date_text day_text second_text
parse_point-text p is =
    rw (doc_number-text p.doc is.small, parse_long_date-text p.date is.in_century)

-- a date's text has no `#`, and a point's has one
no_hash_in_digits : (k n : ℕ) → has_byte 35 (last_digits k n) ≡ false
no_hash_in_digits zero n = refl
no_hash_in_digits (suc k) n =
    let digit : (48 + n / 10 ^ k % 10 == 35) ≡ false = grind (arith, nat_tests) in
    rw digit (no_hash_in_digits k n)

has_byte-append : (byte : ℕ) (front back : List ℕ) → has_byte byte (front ++ back)
    ≡ (has_byte byte front || has_byte byte back)
has_byte-append byte front back = list_any-append (λ b. b == byte) front back

no_hash : (n : ℕ) → (48 + n == 35) ≡ false
no_hash n = grind (arith, nat_tests)

no_hash_in_date : (date : ℕ) → has_byte 35 (date_text date) ≡ false
unfolding date_text day_text second_text
no_hash_in_date date = simp no_hash

hash_in_point : (p : Point) → has_byte 35 (point_text p) ≡ true
unfolding point_text
hash_in_point p =
    has_byte-append 35 (date_text p.date) (35 ∷ number_text p.doc) ∙ rw (no_hash_in_date p.date)

no_space : (n : ℕ) → (48 + n == 32) ≡ false
no_space n = grind (arith, nat_tests)

-- the text of a cut is read back to the cut
pub parse_cut-text : (cut : Cut) → IsCut cut → parse_cut (cut_text cut) ≡ Ok cut
unfolding parse_cut cut_by_word cut_before cut_through cut_alone cut_text
parse_cut-text Now h = refl
parse_cut-text (BeforeDate d) h = rw (no_hash_in_date d, parse_date-text d h)
parse_cut-text (ThroughDate d) h = rw (no_hash_in_date d, parse_date-text d h)
parse_cut-text (BeforePoint p) h = rw (hash_in_point p, parse_point-text p h)
parse_cut-text (ThroughPoint p) h = rw (hash_in_point p, parse_point-text p h)
