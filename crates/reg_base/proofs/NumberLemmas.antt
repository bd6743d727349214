-- Digits that are read with a cap, and what is read behind them.
use Rattle.std.proofs.Common.{◌≡◌, ℕ, zero, suc, ◌+◌, ◌-◌, ◌*◌, ◌^◌, ◌<◌, ◌≤◌, min, List, [], ◌∷◌}
use Rattle.std.proofs.Common.{◌++◌, ap, sym, ◌∙◌, arith, lit<}
use Rattle.std.proofs.lemmas.List.Sums.{fold-append}
use Rattle.std.proofs.Math.Nat.{mul-le-mul_left}
use Rattle.std.proofs.lemmas.Bool.Decides.{nat_tests}
use Rattle.std.proofs.lemmas.Fmt.{AppendsLastDigit, decimal_from_appends_wide}
use Rattle.std.proofs.lemmas.Fmt.{length-decimal-le_wide}
use Rattle.std.specs.Fmt.{decimal}
use Rattle.reg_base.specs.Numbers.{read_on, digits_within, number_text}

-- reading on from a capped number is, capped, reading on from the number
pub read_on-min : (cap n : ℕ) (digits : List ℕ) → min (read_on (min n cap) digits) cap
    ≡ min (read_on n digits) cap
read_on-min cap n [] = omega arith
read_on-min cap n (d ∷ digits) =
    let one : min (min n cap * 10 + (d - 48)) cap ≡ min (n * 10 + (d - 48)) cap = omega arith in
    sym (read_on-min cap (min n cap * 10 + (d - 48)) digits)
    ∙ ap (λ m. min (read_on m digits) cap) one
    ∙ read_on-min cap (n * 10 + (d - 48)) digits

-- a capped product is the product of the capped number, capped
pub min-mul : (cap n factor : ℕ) → 0 < factor → min (min n cap * factor) cap ≡ min (n * factor) cap
min-mul cap n factor some =
    let below : min n cap * factor ≤ n * factor = grind arith in
    let least : cap * 1 ≤ cap * factor = mul-le-mul_left cap some in
    grind arith

-- the capped steps of reading digits and then noughts come to the capped units
pub min-units : (cap first second power shift : ℕ) (whole decimals : List ℕ)
    → first ≡ min (read_on 0 whole) cap → second ≡ min (read_on first decimals) cap
    → power ≡ 10 ^ shift → 0 < power → min (second * power) cap
    ≡ min (read_on 0 (whole ++ decimals) * 10 ^ shift) cap
min-units cap first second power shift whole decimals a b e some =
    let read : second ≡ min (read_on (read_on 0 whole) decimals) cap =
    b ∙ ap (λ n. min (read_on n decimals) cap) a ∙ read_on-min cap (read_on 0 whole) decimals in
    ap (λ n. min (n * power) cap) read ∙ min-mul cap _ power some
    ∙ ap (λ n. min (n * power) cap)
    (sym (fold-append (λ m digit. m * 10 + (digit - 48)) 0 whole decimals))
    ∙ ap (λ p. min (read_on 0 (whole ++ decimals) * p) cap) e

-- std's digits of a number are those of its text
pub decimal-number_text : (n : ℕ) → n < 10 ^ 40 → decimal n ≡ number_text n
unfolding number_text
decimal-number_text n small =
    let appends : AppendsLastDigit digits_within =
    record { one = λ k m h. grind (arith, nat_tests); more = λ k m h. grind (arith, nat_tests) } in
    let wide : n < 10 ^ 64 = omega arith in
    sym (decimal_from_appends_wide digits_within appends 40 n wide
    (length-decimal-le_wide 40 n (lit< tt) small wide))

pub power_of_ten-le : (i : ℕ) → i < 4 → 10 ^ i ≤ 1000
power_of_ten-le zero h = omega arith
power_of_ten-le (suc zero) h = omega arith
power_of_ten-le (suc (suc zero)) h = omega arith
power_of_ten-le (suc (suc (suc zero))) h = omega arith
power_of_ten-le (suc (suc (suc (suc i)))) h = absurd (omega arith)
