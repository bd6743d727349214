-- Names, numbers and texts as they are read.
use Rattle.std.specs.Prelude.{◌≡◌, ℕ, ◌≤◌, ◌<◌, true, List}
use Rattle.std.specs.Str.{IsUtf8}
use Rattle.reg_base.specs.Codes.{is_code, is_name}
use Rattle.reg_base.specs.Comments.{is_comment}

abbrev pub IsName : List ℕ → Type 0
IsName text = is_name text ≡ true

abbrev pub IsCode : List ℕ → Type 0
IsCode text = is_code text ≡ true

-- the number of a request or of a document
abbrev pub IsNumber : ℕ → Type 0
IsNumber n = (1 ≤ n) × (n ≤ 4_294_967_295)

-- a date from 2000 to 2099
abbrev pub IsDate : ℕ → Type 0
IsDate date = date < 3_155_760_000

-- a comment that is UTF-8
abbrev pub IsComment : List ℕ → Type 0
IsComment text = (is_comment text ≡ true) × IsUtf8 text
