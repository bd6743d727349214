-- The text of a number at a scale is read back to the number.
use Rattle.std.proofs.Common.{◌≡◌, ℕ, zero, suc, ◌+◌, ◌-◌, ◌*◌, ◌/◌, ◌^◌, ◌<◌, ◌≤◌, ◌==◌, Bool}
use Rattle.std.proofs.Common.{true, false, nat_le, List, [], ◌∷◌, ◌++◌, length, get_or, take, drop}
use Rattle.std.proofs.Common.{Ok, ℤ, pos, negsuc, unsigned_abs, refl, ap, sym, ◌∙◌, arith, rules}
use Rattle.std.proofs.Common.{tests}
use Rattle.std.specs.List.{list_all, prefix_len, take_while}
use Rattle.std.specs.Char.{is_ascii_digit}
use Rattle.std.proofs.lemmas.Bool.{and_parts}
use Rattle.std.proofs.lemmas.Bool.Decides.{nat_tests}
use Rattle.std.proofs.lemmas.List.{length-append, append-nil, get_or-drop}
use Rattle.std.proofs.lemmas.List.Sums.{fold-append}
use Rattle.std.proofs.Math.Seq.{take-append_seam, drop-append_seam, drop-append-add}
use Rattle.reg_base.specs.Numbers.{largest_units, read_on, decimal_value, sign_len, digits_from}
use Rattle.reg_base.specs.Numbers.{last_digits_from, decimals_from, units_of, num_of, parse_num}
use Rattle.reg_base.specs.Numbers.{last_digits, number_text, units_text, sum_text}
use Rattle.reg_base.proofs.DigitLemmas.{all_digits-last_digits, read_on-last_digits}
use Rattle.reg_base.proofs.DigitLemmas.{length-last_digits}
use Rattle.reg_base.proofs.PointTextLemmas.{all_digits-number_text, decimal_value-number_text}
use Rattle.reg_base.proofs.PointTextLemmas.{number_text-some}

-- elements that pass, in front of something else, are all that a walk takes
pub prefix_len-all : (test : ℕ → Bool) (xs rest : List ℕ) → list_all test xs ≡ true
    → test (get_or rest 0 0) ≡ false → prefix_len test (xs ++ rest) ≡ length xs
prefix_len-all test [] [] all stop = refl
prefix_len-all test [] (x ∷ rest) all stop = rw stop refl
prefix_len-all test (x ∷ xs) rest all stop =
    let parts = and_parts (test x) (list_all test xs) all in
    let first = parts.0 in
    let more = prefix_len-all test xs rest parts.1 stop in
    rw first (omega arith)

digits_from-stands : (text : List ℕ) (place : ℕ) (digits rest : List ℕ)
    → drop place text ≡ digits ++ rest → list_all is_ascii_digit digits ≡ true → 0 < length digits
    → is_ascii_digit (get_or rest 0 0) ≡ false → digits_from text place ≡ Ok digits
unfolding digits_from
digits_from-stands text place digits rest stands all some stop =
    let taken : take_while is_ascii_digit (digits ++ rest) ≡ digits =
    ap (λ n. take n (digits ++ rest)) (prefix_len-all is_ascii_digit digits rest all stop)
    ∙ take-append_seam digits rest in
    let found : (length digits == 0) ≡ false = grind (arith, nat_tests) in
    rw (stands, taken, found)

decimals_from-end : (text : List ℕ) (place : ℕ) → place ≡ length text
    → decimals_from text place ≡ Ok []
unfolding decimals_from
decimals_from-end text place end =
    let here : (place == length text) ≡ true = search (rules, tests) in
    rw here refl

decimals_from-point : (text : List ℕ) (place : ℕ) (digits : List ℕ) → get_or text place 0 ≡ 46
    → drop (place + 1) text ≡ digits → length text ≡ place + 1 + length digits
    → list_all is_ascii_digit digits ≡ true → 0 < length digits
    → decimals_from text place ≡ Ok digits
unfolding decimals_from last_digits_from
decimals_from-point text place digits point stands end all some =
    let on : (place == length text) ≡ false = grind (arith, nat_tests) in
    let last : (place + 1 + length digits == length text) ≡ true = grind (arith, nat_tests) in
    let read = digits_from-stands text (place + 1) digits []
    (stands ∙ sym (append-nil digits)) all some refl in
    rw (on, point, read, last)

units_of-all : (whole decimals : List ℕ) (scale units : ℕ) → length decimals ≡ scale
    → decimal_value (whole ++ decimals) ≡ units → units ≤ largest_units
    → units_of whole decimals scale ≡ Ok units
unfolding units_of
units_of-all whole decimals scale units as_many value within =
    let few : nat_le (length decimals) scale ≡ true = grind (arith, nat_tests) in
    let none : scale - length decimals ≡ 0 = omega arith in
    let once : decimal_value (whole ++ decimals) * 1 ≡ units = omega arith in
    let same : decimal_value (whole ++ decimals) * 10 ^ (scale - length decimals) ≡ units =
    rw none once in
    let fits : nat_le units largest_units ≡ true = search (rules, tests) in
    rw (few, same, fits)

parse_num-parts : (front whole rest decimals : List ℕ) (scale units : ℕ)
    → sign_len (front ++ (whole ++ rest)) ≡ length front → list_all is_ascii_digit whole ≡ true
    → 0 < length whole → is_ascii_digit (get_or rest 0 0) ≡ false
    → decimals_from (front ++ (whole ++ rest)) (length front + length whole) ≡ Ok decimals
    → units_of whole decimals scale ≡ Ok units → parse_num (front ++ (whole ++ rest)) scale
    ≡ Ok (num_of (length front) units)
unfolding parse_num
parse_num-parts front whole rest decimals scale units sign all some stop behind count =
    let text = front ++ (whole ++ rest) in
    let read = digits_from-stands text (length front) whole rest
    (drop-append_seam front (whole ++ rest)) all some stop in
    rw (sign, read, behind, count)

-- what is behind a sign and a whole part
behind_whole : (front whole rest : List ℕ) (n : ℕ) → drop (length front + (length whole + n))
    (front ++ (whole ++ rest)) ≡ drop n rest
behind_whole front whole rest n =
    drop-append-add front (whole ++ rest) (length whole + n) ∙ drop-append-add whole rest n

length-parts : (front whole rest : List ℕ) → length (front ++ (whole ++ rest))
    ≡ length front + length whole + length rest
length-parts front whole rest = simp length-append (omega arith)

decimals_from-parts : (front whole decimals : List ℕ) → list_all is_ascii_digit decimals ≡ true
    → 0 < length decimals → decimals_from (front ++ (whole ++ (46 ∷ decimals)))
    (length front + length whole) ≡ Ok decimals
decimals_from-parts front whole decimals all some =
    let text = front ++ (whole ++ (46 ∷ decimals)) in
    let place = length front + length whole in
    let split : length front + (length whole + 0) ≡ place = omega arith in
    let here : place + 0 ≡ place = omega arith in
    let next : length front + (length whole + 1) ≡ place + 1 = omega arith in
    let stands = rw split at (behind_whole front whole (46 ∷ decimals) 0) in
    let point = rw here at (sym (get_or-drop place text 0 0) ∙ ap (λ xs. get_or xs 0 0) stands) in
    decimals_from-point text place decimals point
    (rw next at (behind_whole front whole (46 ∷ decimals) 1))
    (omega (arith, length-parts front whole (46 ∷ decimals))) all some

-- units that are printed behind a sign are read as they are
parse_num-units : (front : List ℕ) (n scale : ℕ) → sign_len (front ++ units_text n scale)
    ≡ length front → n ≤ largest_units → parse_num (front ++ units_text n scale) scale
    ≡ Ok (num_of (length front) n)
unfolding units_text
parse_num-units front n zero sign within =
    let whole = number_text n in
    let wide : n < 2 ^ 64 = omega arith in
    let all = all_digits-number_text n wide in
    let bare : whole ++ [] ≡ whole = append-nil whole in
    let end = decimals_from-end (front ++ (whole ++ [])) (length front + length whole)
    (omega (arith, length-parts front whole [])) in
    let count = units_of-all whole [] 0 n refl
    (ap decimal_value bare ∙ decimal_value-number_text n wide) within in
    rw bare at (parse_num-parts front whole [] [] 0 n (rw (← bare) at sign) all
    (number_text-some n wide) refl end count)
parse_num-units front n (suc k) sign within =
    let part = n / 10 ^ suc k in
    let whole = number_text part in
    let decimals = last_digits (suc k) n in
    let wide : part < 2 ^ 64 = omega arith in
    let all = all_digits-number_text part wide in
    let some : 0 < length decimals = omega (arith, length-last_digits (suc k) n) in
    let behind = decimals_from-parts front whole decimals (all_digits-last_digits (suc k) n) some in
    let value : decimal_value (whole ++ decimals) ≡ n =
    fold-append (λ m digit. m * 10 + (digit - 48)) 0 whole decimals
    ∙ ap (λ m. read_on m decimals) (decimal_value-number_text part wide)
    ∙ read_on-last_digits part (suc k) n ∙ omega arith in
    let count = units_of-all whole decimals (suc k) n (length-last_digits (suc k) n) value within in
    parse_num-parts front whole (46 ∷ decimals) decimals (suc k) n sign all
    (number_text-some part wide) refl behind count

not_minus : (x : ℕ) → is_ascii_digit x ≡ true → (x == 45) ≡ false
not_minus x digit = grind (arith, nat_tests)

-- digits begin with no minus sign
sign_len-digits : (digits rest : List ℕ) → list_all is_ascii_digit digits ≡ true → 0 < length digits
    → sign_len (digits ++ rest) ≡ 0
sign_len-digits [] rest all some = absurd (omega arith)
sign_len-digits (x ∷ digits) rest all some =
    rw (not_minus x (and_parts (is_ascii_digit x) (list_all is_ascii_digit digits) all).0) refl

sign_len-units : (n scale : ℕ) → n < 2 ^ 64 → sign_len (units_text n scale) ≡ 0
unfolding units_text
sign_len-units n zero wide =
    rw (append-nil (number_text n))
    at (sign_len-digits (number_text n) [] (all_digits-number_text n wide)
    (number_text-some n wide))
sign_len-units n (suc k) wide =
    let part : n / 10 ^ suc k < 2 ^ 64 = omega arith in
    sign_len-digits _ _ (all_digits-number_text _ part) (number_text-some _ part)

-- the text of a number at a scale is read back to the number
pub parse_num-sum_text : (units : ℤ) (scale : ℕ) → unsigned_abs units ≤ largest_units
    → parse_num (sum_text units scale) scale ≡ Ok (record { units = units })
unfolding sum_text
parse_num-sum_text (pos n) scale within =
    parse_num-units [] n scale (sign_len-units n scale (omega arith)) within
parse_num-sum_text (negsuc n) scale within = parse_num-units (45 ∷ []) (suc n) scale refl within
