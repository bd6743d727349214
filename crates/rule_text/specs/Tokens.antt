-- The tokens of a text, each with the place of its first byte, counted from 0.
use Rattle.std.specs.Prelude.{ℕ, zero, suc, ◌+◌, ◌==◌, ◌&&◌, ◌||◌, nat_lt, min, Bool, List, [], ◌∷◌}
use Rattle.std.specs.Prelude.{length, drop, take, slice_index, Option, Some, None, if◌then◌else◌}
use Rattle.std.specs.List.{prefix_len}
use Rattle.std.specs.Char.{is_ascii_alphabetic, is_ascii_alphanumeric, is_ascii_digit}
use Rattle.reg_base.specs.Codes.{is_code, is_code_byte, is_name}
use Rattle.reg_base.specs.Numbers.{largest_units, decimal_value, read_on}
use Rattle.rule_text.specs.Marks.{single_mark, double_mark}
use Rattle.rule_text.specs.declared.mark.Mark.{Mark}
use Rattle.rule_text.specs.declared.token.Lexeme.{Lexeme}
use Rattle.rule_text.specs.declared.token.Literal.{Literal}
use Rattle.rule_text.specs.declared.token.Spelling.{Spelling}
use Rattle.rule_text.specs.declared.token.Spelling.TheVariants.{Named, Other}
use Rattle.rule_text.specs.declared.token.Token.{Token}
use Rattle.rule_text.specs.declared.token.Token.TheVariants.{Word, Number, Quoted, Sign, Broken}

-- space, tab, carriage return and line feed separate tokens
abbrev pub is_blank : ℕ → Bool
is_blank b = b == 32 || (b == 9 || (b == 13 || b == 10))

-- a byte of a word behind its first: an ASCII letter, a digit or `_`
abbrev pub is_word_byte : ℕ → Bool
is_word_byte b = is_ascii_alphanumeric b || b == 95

-- a token of so many bytes at the place
abbrev pub lexeme : ℕ → ℕ → Token → Lexeme
lexeme place len token = record { place = place; len = len; token = token }

-- a word by its name, if it is one
abbrev pub spelling_of : List ℕ → Spelling
spelling_of word = if is_name word then Named word else Other

-- a word goes on as long as its bytes do
unfoldable pub word_lexeme : ℕ → List ℕ → Lexeme
word_lexeme place bytes =
    let len = prefix_len is_word_byte bytes in
    lexeme place len (Word (spelling_of (take len bytes)))

-- digits read as a whole number, so many of them decimals; all that pass the largest number count
-- as the next one
abbrev pub literal_of : ℕ → ℕ → Literal
literal_of digits decimals = record { digits = min digits (largest_units + 1); decimals = decimals }

-- how many digits stand behind the point that follows so many bytes, if one does
unfoldable pub decimal_count : List ℕ → ℕ → ℕ
decimal_count bytes whole =
    if slice_index bytes whole == 46
    then prefix_len is_ascii_digit (drop (whole + 1) bytes)
    else 0

-- the digits of the whole part and of the decimals behind the point, read as one number
abbrev pub digits_of : List ℕ → ℕ → ℕ → ℕ
digits_of bytes whole decimals =
    read_on (decimal_value (take whole bytes)) (take decimals (drop (whole + 1) bytes))

-- a number is digits, and a point and digits where both follow
unfoldable pub number_lexeme : ℕ → List ℕ → Lexeme
number_lexeme place bytes =
    let whole = prefix_len is_ascii_digit bytes in
    let decimals = decimal_count bytes whole in
    if decimals == 0
    then lexeme place whole (Number (literal_of (decimal_value (take whole bytes)) 0))
    else lexeme place (whole + 1 + decimals)
    (Number (literal_of (digits_of bytes whole decimals) decimals))

-- the code of so many bytes behind a quote, where another quote closes it
unfoldable pub closed_code : List ℕ → ℕ → Option (List ℕ)
closed_code bytes len =
    let code = take len (drop 1 bytes) in
    if is_code code && slice_index bytes (len + 1) == 34 then Some code else None

-- a code between quotes; it breaks off at the first byte that no code of 32 bytes with its quote
-- can have there
unfoldable pub quoted_lexeme : ℕ → List ℕ → Lexeme
quoted_lexeme place bytes =
    let len = prefix_len is_code_byte (drop 1 bytes) in
    quoted_or (closed_code bytes len) place len
  where
    quoted_or : Option (List ℕ) → ℕ → ℕ → Lexeme
    quoted_or (Some code) place len = lexeme place (len + 2) (Quoted code)
    quoted_or None place len = lexeme place 1 (Broken (place + 1 + min len 32))

-- a mark of two bytes, or else of one; any other byte breaks off
unfoldable pub mark_lexeme : ℕ → List ℕ → Lexeme
mark_lexeme place bytes =
    mark_or place (double_mark (slice_index bytes 0) (slice_index bytes 1))
    (single_mark (slice_index bytes 0))
  where
    mark_or : ℕ → Option Mark → Option Mark → Lexeme
    mark_or place (Some mark) single = lexeme place 2 (Sign mark)
    mark_or place None (Some mark) = lexeme place 1 (Sign mark)
    mark_or place None None = lexeme place 1 (Broken place)

-- the token whose first byte, at this place, is the first of these
unfoldable pub lexeme_of : ℕ → List ℕ → Lexeme
lexeme_of place bytes =
    let first = slice_index bytes 0 in
    if is_ascii_alphabetic first then word_lexeme place bytes
    else if is_ascii_digit first then number_lexeme place bytes
    else if first == 34 then quoted_lexeme place bytes
    else mark_lexeme place bytes

-- the pieces of the text from a place on, so many at the most, with blanks between them: what
-- begins at a place with these bytes, and how long it is, is told
unfoldable pub pieces_from : {X : Type 0} → (ℕ → List ℕ → X) → (X → ℕ) → ℕ → List ℕ → ℕ → List X
pieces_from begins len_of zero text place = []
pieces_from begins len_of (suc most) text place =
    let start = place + prefix_len is_blank (drop place text) in
    let next = begins start (drop start text) in
    if nat_lt start (length text)
    then next ∷ pieces_from begins len_of most text (start + len_of next)
    else []

-- the tokens of a text: each takes a byte, so that there are no more than bytes
unfoldable pub tokens_of : List ℕ → List Lexeme
tokens_of text = pieces_from lexeme_of (λ lexeme. lexeme.len) (length text) text 0
