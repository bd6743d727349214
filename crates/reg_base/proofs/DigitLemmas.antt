-- What is read of digits that were printed.
use Rattle.std.proofs.Common.{◌≡◌, ℕ, zero, suc, ◌+◌, ◌-◌, ◌*◌, ◌/◌, ◌%◌, ◌^◌, ◌<◌, true, length}
use Rattle.std.proofs.Common.{refl, ap, ◌∙◌, arith}
use Rattle.std.specs.List.{list_all}
use Rattle.std.specs.Char.{is_ascii_digit}
use Rattle.std.proofs.lemmas.Bool.Decides.{nat_tests}
use Rattle.std.proofs.Math.Arith.{mod-mul}
use Rattle.reg_base.specs.Numbers.{read_on, last_digits}

pub power-positive : (k : ℕ) → 0 < 10 ^ k
power-positive zero = omega arith
power-positive (suc k) = omega (arith, power-positive k)

pub is_ascii_digit-last : (n : ℕ) → is_ascii_digit (48 + n % 10) ≡ true
is_ascii_digit-last n = grind (arith, nat_tests)

pub all_digits-last_digits : (k n : ℕ) → list_all is_ascii_digit (last_digits k n) ≡ true
all_digits-last_digits zero n = refl
all_digits-last_digits (suc k) n =
    rw (is_ascii_digit-last (n / 10 ^ k)) (all_digits-last_digits k n)

pub length-last_digits : (k n : ℕ) → length (last_digits k n) ≡ k
length-last_digits zero n = refl
length-last_digits (suc k) n = ap suc (length-last_digits k n)

-- the last two parts of a remainder
mod-power : (k n : ℕ) → n % 10 ^ suc k ≡ (n / 10 ^ k % 10) * 10 ^ k + n % 10 ^ k
mod-power k n =
    let split : 10 ^ suc k ≡ 10 * 10 ^ k = omega arith in
    rw split (mod-mul n {m = 10} {c = 10 ^ k} (omega arith) (power-positive k))

spread : (m digit power low whole tens : ℕ) → tens ≡ 10 * power → whole ≡ digit * power + low
    → (m * 10 + digit) * power + low ≡ m * tens + whole
spread m digit power low whole tens more e = rw (more, e) (omega arith)

-- the last digits spell the remainder
pub read_on-last_digits : (m k n : ℕ) → read_on m (last_digits k n) ≡ m * 10 ^ k + n % 10 ^ k
read_on-last_digits m zero n = omega arith
read_on-last_digits m (suc k) n =
    let digit : 48 + n / 10 ^ k % 10 - 48 ≡ n / 10 ^ k % 10 = omega arith in
    let more : 10 ^ suc k ≡ 10 * 10 ^ k = omega arith in
    ap (λ d. read_on (m * 10 + d) (last_digits k n)) digit
    ∙ read_on-last_digits (m * 10 + n / 10 ^ k % 10) k n
    ∙ spread m (n / 10 ^ k % 10) (10 ^ k) (n % 10 ^ k) (n % 10 ^ suc k) (10 ^ suc k) more
    (mod-power k n)
