-- Codes and names are short and ASCII.
use Rattle.std.proofs.Common.{◌≡◌, ℕ, ◌<◌, ◌≤◌, Bool, true, ◌&&◌, zero, suc, List, [], ◌∷◌, length}
use Rattle.std.proofs.Common.{arith}
use Rattle.std.specs.List.{list_all}
use Rattle.std.specs.Str.{IsAscii}
use Rattle.std.specs.Char.{is_ascii_lowercase}
use Rattle.std.proofs.lemmas.Bool.Decides.{nat_tests}
use Rattle.reg_base.specs.Codes.{is_code, is_code_byte, is_name, is_name_byte}

both : (x y : Bool) → (x && y) ≡ true → (x ≡ true) × (y ≡ true)
both x y h = grind (arith, nat_tests)

code_byte-below : (b : ℕ) → is_code_byte b ≡ true → b < 128
code_byte-below b h = grind (arith, nat_tests)

name_byte-below : (b : ℕ) → is_name_byte b ≡ true → b < 128
name_byte-below b h = grind (arith, nat_tests)

lowercase-below : (b : ℕ) → is_ascii_lowercase b ≡ true → b < 128
lowercase-below b h = grind (arith, nat_tests)

-- where a test lets only bytes below 128 through, those that pass are ASCII
pub IsAscii-from_test : (test : ℕ → Bool) → ((b : ℕ) → test b ≡ true → b < 128) → (bs : List ℕ)
    → list_all test bs ≡ true → IsAscii bs
IsAscii-from_test test low [] h i = omega arith
IsAscii-from_test test low (b ∷ bs) h zero = low b (both (test b) (list_all test bs) h).0
IsAscii-from_test test low (b ∷ bs) h (suc i) =
    IsAscii-from_test test low bs (both (test b) (list_all test bs) h).1 i

pub length-code : (bs : List ℕ) → is_code bs ≡ true → length bs ≤ 32
unfolding is_code
length-code bs h = grind (arith, nat_tests)

pub IsAscii-code : (bs : List ℕ) → is_code bs ≡ true → IsAscii bs
unfolding is_code
IsAscii-code bs h = IsAscii-from_test is_code_byte code_byte-below bs (both _ _ (both _ _ h).1).1

pub length-name : (bs : List ℕ) → is_name bs ≡ true → length bs ≤ 32
unfolding is_name
length-name [] h = omega arith
length-name (b ∷ bs) h = grind (arith, nat_tests)

pub IsAscii-name : (bs : List ℕ) → is_name bs ≡ true → IsAscii bs
unfolding is_name
IsAscii-name [] h i = omega arith
IsAscii-name (b ∷ bs) h zero = lowercase-below b (both _ _ h).0
IsAscii-name (b ∷ bs) h (suc i) =
    IsAscii-from_test is_name_byte name_byte-below bs (both _ _ (both _ _ h).1).1 i
