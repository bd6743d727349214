-- The spellings of codes and of names.
use Rattle.std.specs.Prelude.{ℕ, Bool, false, ◌&&◌, ◌||◌, ◌==◌, nat_le, List, [], ◌∷◌, length}
use Rattle.std.specs.Prelude.{codes}
use Rattle.std.specs.List.{list_any, list_all}
use Rattle.std.specs.Char.{is_ascii_alphanumeric, is_ascii_lowercase, is_ascii_digit}

-- a byte of a code: an ASCII letter, a digit, `_`, `.` or `-`
abbrev pub is_code_byte : ℕ → Bool
is_code_byte b = is_ascii_alphanumeric b || list_any (λ mark. mark == b) (codes "_.-")

-- a code: 1 to 32 such bytes
unfoldable pub is_code : List ℕ → Bool
is_code text = nat_le 1 (length text) && (nat_le (length text) 32 && list_all is_code_byte text)

-- a byte of a name behind its first: a lower-case letter, a digit or `_`
abbrev pub is_name_byte : ℕ → Bool
is_name_byte b = is_ascii_lowercase b || (is_ascii_digit b || b == 95)

-- a name: a lower-case letter, then up to 23 bytes of names
unfoldable pub is_name : List ℕ → Bool
is_name [] = false
is_name (b ∷ bs) = is_ascii_lowercase b && (nat_le (length bs) 23 && list_all is_name_byte bs)
