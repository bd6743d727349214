-- The texts of codes, names, dates, points and cuts are UTF-8.
use Rattle.std.proofs.Common.{◌≡◌, ℕ, ◌/◌, ◌%◌, ◌<◌, true, nat_lt, List, [], ◌∷◌, ◌++◌, IsUtf8}
use Rattle.std.proofs.Common.{codes, refl, arith}
use Rattle.std.proofs.lemmas.Bool.Decides.{nat_tests}
use Rattle.std.proofs.lemmas.Str.{IsUtf8-append, IsUtf8-from_ascii}
use Rattle.std.specs.Char.{is_ascii_digit}
use Rattle.std.specs.List.{list_all}
use Rattle.reg_base.specs.declared.cut.Cut.{Cut}
use Rattle.reg_base.specs.declared.cut.Cut.TheVariants.{Now, BeforeDate, ThroughDate, BeforePoint}
use Rattle.reg_base.specs.declared.cut.Cut.TheVariants.{ThroughPoint}
use Rattle.reg_base.specs.declared.point.Point.{Point}
use Rattle.reg_base.specs.Codes.{is_code, is_name}
use Rattle.reg_base.specs.Cuts.{IsCut, cut_text}
use Rattle.reg_base.specs.Dates.{day_of, day_text, second_text, date_text}
use Rattle.reg_base.specs.Numbers.{last_digits, number_text}
use Rattle.reg_base.specs.Points.{IsPoint, point_text}
use Rattle.reg_base.proofs.CodeLemmas.{IsAscii-from_test, IsAscii-code, IsAscii-name}
use Rattle.reg_base.proofs.DigitLemmas.{all_digits-last_digits}
use Rattle.reg_base.proofs.PointTextLemmas.{all_digits-number_text}

below-tested : (b : ℕ) → nat_lt b 128 ≡ true → b < 128
below-tested b h = grind (arith, nat_tests)

digit-below : (b : ℕ) → is_ascii_digit b ≡ true → b < 128
digit-below b h = grind (arith, nat_tests)

-- bytes that are seen to be below 128, as those of a text in the source
pub IsUtf8-tested : (bytes : List ℕ) → list_all (λ b. nat_lt b 128) bytes ≡ true → IsUtf8 bytes
IsUtf8-tested bytes h =
    IsUtf8-from_ascii bytes (IsAscii-from_test (λ b. nat_lt b 128) below-tested bytes h)

IsUtf8-digits : (digits : List ℕ) → list_all is_ascii_digit digits ≡ true → IsUtf8 digits
IsUtf8-digits digits h =
    IsUtf8-from_ascii digits (IsAscii-from_test is_ascii_digit digit-below digits h)

pub IsUtf8-code : (text : List ℕ) → is_code text ≡ true → IsUtf8 text
IsUtf8-code text h = IsUtf8-from_ascii text (IsAscii-code text h)

pub IsUtf8-name : (text : List ℕ) → is_name text ≡ true → IsUtf8 text
IsUtf8-name text h = IsUtf8-from_ascii text (IsAscii-name text h)

-- a mark of one byte, and digits behind it
marked : (mark k n : ℕ) → list_all (λ b. nat_lt b 128) (mark ∷ []) ≡ true
    → IsUtf8 (mark ∷ last_digits k n)
marked mark k n h =
    IsUtf8-append (mark ∷ []) (last_digits k n) (IsUtf8-tested (mark ∷ []) h)
    (IsUtf8-digits (last_digits k n) (all_digits-last_digits k n))

pub IsUtf8-date_text : (date : ℕ) → IsUtf8 (date_text date)
unfolding date_text day_text second_text
IsUtf8-date_text date =
    let day = day_of date in
    let s = date % 86400 in
    let front : IsUtf8
    (last_digits 4 day.year ++ (45 ∷ last_digits 2 day.month) ++ (45 ∷ last_digits 2 day.day)) =
    IsUtf8-append (last_digits 4 day.year) _
    (IsUtf8-digits (last_digits 4 day.year) (all_digits-last_digits 4 day.year))
    (IsUtf8-append (45 ∷ last_digits 2 day.month) _ (marked 45 2 day.month refl)
    (marked 45 2 day.day refl)) in
    let back : IsUtf8
    ((84 ∷ last_digits 2 (s / 3600)) ++ (58 ∷ last_digits 2 (s / 60 % 60))
    ++ (58 ∷ last_digits 2 (s % 60))) =
    IsUtf8-append (84 ∷ last_digits 2 (s / 3600)) _ (marked 84 2 (s / 3600) refl)
    (IsUtf8-append (58 ∷ last_digits 2 (s / 60 % 60)) _ (marked 58 2 (s / 60 % 60) refl)
    (marked 58 2 (s % 60) refl)) in
    IsUtf8-append (day_text day) (second_text s) front back

pub IsUtf8-point_text : (point : Point) → IsPoint point → IsUtf8 (point_text point)
unfolding point_text
IsUtf8-point_text point is =
    IsUtf8-append (date_text point.date) _ (IsUtf8-date_text point.date)
    (IsUtf8-append (35 ∷ []) _ (IsUtf8-tested (35 ∷ []) refl)
    (IsUtf8-digits (number_text point.doc)
    (all_digits-number_text point.doc (omega (arith, is.small)))))

pub IsUtf8-cut_text : (cut : Cut) → IsCut cut → IsUtf8 (cut_text cut)
unfolding cut_text
IsUtf8-cut_text Now is = IsUtf8-tested (codes "now") refl
IsUtf8-cut_text (BeforeDate date) is =
    IsUtf8-append (codes "before ") _ (IsUtf8-tested (codes "before ") refl) (IsUtf8-date_text date)
IsUtf8-cut_text (ThroughDate date) is =
    IsUtf8-append (codes "through ") _ (IsUtf8-tested (codes "through ") refl)
    (IsUtf8-date_text date)
IsUtf8-cut_text (BeforePoint point) is =
    IsUtf8-append (codes "before ") _ (IsUtf8-tested (codes "before ") refl)
    (IsUtf8-point_text point is)
IsUtf8-cut_text (ThroughPoint point) is =
    IsUtf8-append (codes "through ") _ (IsUtf8-tested (codes "through ") refl)
    (IsUtf8-point_text point is)
