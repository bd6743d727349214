-- Words, numbers, codes and marks at the front of what is left of a text.
use Rattle.std.proofs.Common.{◌≡◌, ℕ, zero, suc, ◌+◌, ◌/◌, ◌^◌, ◌<◌, ◌≤◌, Bool, true, false, List}
use Rattle.std.proofs.Common.{[], ◌∷◌, ◌++◌, take, drop, length, slice_index, min, Some, pos, codes}
use Rattle.std.proofs.Common.{◌==◌, arith, refl, ap, ◌∙◌, append_assoc}
use Rattle.std.proofs.lemmas.Bool.{and_parts}
use Rattle.std.specs.List.{prefix_len, list_all}
use Rattle.std.specs.Char.{is_ascii_alphabetic, is_ascii_digit, is_ascii_lowercase}
use Rattle.std.proofs.lemmas.Bool.Decides.{nat_tests}
use Rattle.std.proofs.lemmas.List.{take_at, length-append, append-nil, get_or_at, get_or-append-add}
use Rattle.std.proofs.Math.Seq.{drop-append-add}
use Rattle.reg_base.specs.Codes.{is_code, is_code_byte, is_name, is_name_byte}
use Rattle.reg_base.specs.Numbers.{largest_units, decimal_value, read_on, last_digits, number_text}
use Rattle.reg_base.specs.Numbers.{units_text, sum_text}
use Rattle.reg_base.proofs.ForAbove.{all_digits-last_digits, read_on-last_digits}
use Rattle.reg_base.proofs.ForAbove.{length-last_digits}
use Rattle.reg_base.proofs.ForAbove.{all_digits-number_text, decimal_value-number_text}
use Rattle.reg_base.proofs.ForAbove.{number_text-some}
use Rattle.reg_base.proofs.ForAbove.{prefix_len-all}
use Rattle.rule_text.specs.Marks.{mark_text, double_mark, single_mark}
use Rattle.rule_text.specs.Tokens.{is_blank, is_word_byte, lexeme, word_lexeme, number_lexeme}
use Rattle.rule_text.specs.Tokens.{decimal_count, closed_code, quoted_lexeme, mark_lexeme}
use Rattle.rule_text.specs.Tokens.{lexeme_of}
use Rattle.rule_text.specs.declared.mark.Mark.{Mark}
use Rattle.rule_text.specs.declared.mark.Mark.TheVariants.{Open, Close, Semicolon, Comma, Equal}
use Rattle.rule_text.specs.declared.mark.Mark.TheVariants.{Point, Plus, Minus, Less, AtMost}
use Rattle.rule_text.specs.declared.mark.Mark.TheVariants.{AtLeast, Greater, Differs}
use Rattle.rule_text.specs.declared.token.Spelling.TheVariants.{Named}
use Rattle.rule_text.specs.declared.token.Token.{Token}
use Rattle.rule_text.specs.declared.token.Token.TheVariants.{Word, Number, Quoted, Sign}
use Rattle.rule_text.proofs.TextTokens.{tokens_at, tokens_at-token}

all_more : (test other : ℕ → Bool) → ((b : ℕ) → test b ≡ true → other b ≡ true) → (bs : List ℕ)
    → list_all test bs ≡ true → list_all other bs ≡ true
all_more test other passes [] all = refl
all_more test other passes (b ∷ bs) all =
    let parts = and_parts (test b) (list_all test bs) all in
    rw (passes b parts.0) (all_more test other passes bs parts.1)

word_byte-name : (b : ℕ) → is_name_byte b ≡ true → is_word_byte b ≡ true
word_byte-name b h = grind (arith, nat_tests)

word_byte-lowercase : (b : ℕ) → is_ascii_lowercase b ≡ true → is_word_byte b ≡ true
word_byte-lowercase b h = grind (arith, nat_tests)

alphabetic-lowercase : (b : ℕ) → is_ascii_lowercase b ≡ true → is_ascii_alphabetic b ≡ true
alphabetic-lowercase b h = grind (arith, nat_tests)

not_blank-lowercase : (b : ℕ) → is_ascii_lowercase b ≡ true → is_blank b ≡ false
not_blank-lowercase b h = grind (arith, nat_tests)

all_word-name : (word : List ℕ) → is_name word ≡ true → list_all is_word_byte word ≡ true
unfolding is_name
all_word-name [] h = refl
all_word-name (b ∷ bs) h =
    let parts = and_parts (is_ascii_lowercase b) _ h in
    rw (word_byte-lowercase b parts.0)
    (all_more is_name_byte is_word_byte word_byte-name bs (and_parts _ _ parts.1).1)

first-name : (word : List ℕ) → is_name word ≡ true → is_ascii_lowercase (slice_index word 0) ≡ true
unfolding is_name
first-name [] h = absurd (cc)
first-name (b ∷ bs) h = (and_parts _ _ h).0

first-in_front : (word rest : List ℕ) → is_name word ≡ true
    → slice_index (word ++ rest) 0 ≡ slice_index word 0
unfolding is_name
first-in_front [] rest h = absurd (cc)
first-in_front (b ∷ bs) rest h = refl

lexeme_of-word : (place : ℕ) (word rest : List ℕ) → is_name word ≡ true
    → is_word_byte (slice_index rest 0) ≡ false
    → lexeme_of place (word ++ rest) ≡ lexeme place (length word) (Word (Named word))
unfolding lexeme_of word_lexeme
lexeme_of-word place word rest named stop =
    let letter : is_ascii_alphabetic (slice_index (word ++ rest) 0) ≡ true =
    ap is_ascii_alphabetic (first-in_front word rest named)
    ∙ alphabetic-lowercase (slice_index word 0) (first-name word named) in
    let as_long = prefix_len-all is_word_byte word rest (all_word-name word named) stop in
    let whole = take_at word rest (length word) refl in
    rw (letter, as_long, whole, named) refl

-- a word in front
pub tokens_at-word : (place : ℕ) (word rest : List ℕ) → is_name word ≡ true
    → is_word_byte (slice_index rest 0) ≡ false
    → tokens_at place (word ++ rest)
    ≡ lexeme place (length word) (Word (Named word)) ∷ tokens_at (place + length word) rest
tokens_at-word place word rest named stop =
    tokens_at-token place word rest (Word (Named word))
    (not_blank-lowercase (slice_index word 0) (first-name word named))
    (lexeme_of-word place word rest named stop)

-- what may follow a mark: behind `<` and `>` a blank
abbrev pub EndsMark : Mark → List ℕ → Type 0
EndsMark Less rest = is_blank (slice_index rest 0) ≡ true
EndsMark Greater rest = is_blank (slice_index rest 0) ≡ true
EndsMark Open rest = Unit
EndsMark Close rest = Unit
EndsMark Semicolon rest = Unit
EndsMark Comma rest = Unit
EndsMark Equal rest = Unit
EndsMark Point rest = Unit
EndsMark Plus rest = Unit
EndsMark Minus rest = Unit
EndsMark AtMost rest = Unit
EndsMark AtLeast rest = Unit
EndsMark Differs rest = Unit

blank_ends : (b : ℕ) → is_blank b ≡ true → ((b == 61) ≡ false) × ((b == 62) ≡ false)
blank_ends b h = (grind (arith, nat_tests), grind (arith, nat_tests))

lexeme_of-mark : (place : ℕ) (mark : Mark) (rest : List ℕ) → EndsMark mark rest
    → lexeme_of place (mark_text mark ++ rest) ≡ lexeme place (length (mark_text mark)) (Sign mark)
unfolding lexeme_of mark_lexeme mark_text double_mark single_mark
lexeme_of-mark place Less rest ends =
    let others = blank_ends (slice_index rest 0) ends in
    rw (others.0, others.1) refl
lexeme_of-mark place Greater rest ends =
    let others = blank_ends (slice_index rest 0) ends in
    rw others.0 refl
lexeme_of-mark place Open rest ends = refl
lexeme_of-mark place Close rest ends = refl
lexeme_of-mark place Semicolon rest ends = refl
lexeme_of-mark place Comma rest ends = refl
lexeme_of-mark place Equal rest ends = refl
lexeme_of-mark place Point rest ends = refl
lexeme_of-mark place Plus rest ends = refl
lexeme_of-mark place Minus rest ends = refl
lexeme_of-mark place AtMost rest ends = refl
lexeme_of-mark place AtLeast rest ends = refl
lexeme_of-mark place Differs rest ends = refl

not_blank-mark : (mark : Mark) → is_blank (slice_index (mark_text mark) 0) ≡ false
unfolding mark_text
not_blank-mark Less = refl
not_blank-mark Greater = refl
not_blank-mark Open = refl
not_blank-mark Close = refl
not_blank-mark Semicolon = refl
not_blank-mark Comma = refl
not_blank-mark Equal = refl
not_blank-mark Point = refl
not_blank-mark Plus = refl
not_blank-mark Minus = refl
not_blank-mark AtMost = refl
not_blank-mark AtLeast = refl
not_blank-mark Differs = refl

-- a mark in front
pub tokens_at-mark : (place : ℕ) (mark : Mark) (rest : List ℕ) → EndsMark mark rest
    → tokens_at place (mark_text mark ++ rest)
    ≡ lexeme place (length (mark_text mark)) (Sign mark)
    ∷ tokens_at (place + length (mark_text mark)) rest
tokens_at-mark place mark rest ends =
    tokens_at-token place (mark_text mark) rest (Sign mark) (not_blank-mark mark)
    (lexeme_of-mark place mark rest ends)

not_code_quote : is_code_byte 34 ≡ false
not_code_quote = refl

all_code : (code : List ℕ) → is_code code ≡ true → list_all is_code_byte code ≡ true
unfolding is_code
all_code code h = (and_parts _ _ (and_parts _ _ h).1).1

closed_code-whole : (code rest : List ℕ) → is_code code ≡ true
    → closed_code (34 ∷ (code ++ (34 ∷ rest))) (length code) ≡ Some code
unfolding closed_code
closed_code-whole code rest coded =
    let whole : take (length code) (code ++ (34 ∷ rest)) ≡ code =
    take_at code (34 ∷ rest) (length code) refl in
    let next : length code + 1 ≡ suc (length code) = omega arith in
    let quote : slice_index (34 ∷ (code ++ (34 ∷ rest))) (length code + 1) ≡ 34 =
    rw next (get_or_at code 34 rest 0 (length code) refl) in
    rw (whole, coded, quote) refl

lexeme_of-code : (place : ℕ) (code rest : List ℕ) → is_code code ≡ true
    → lexeme_of place (34 ∷ (code ++ (34 ∷ rest))) ≡ lexeme place (length code + 2) (Quoted code)
unfolding lexeme_of quoted_lexeme
lexeme_of-code place code rest coded =
    let as_long : prefix_len is_code_byte (code ++ (34 ∷ rest)) ≡ length code =
    prefix_len-all is_code_byte code (34 ∷ rest) (all_code code coded) refl in
    rw (as_long, closed_code-whole code rest coded) refl

-- a code between quotes
abbrev pub quoted_text : List ℕ → List ℕ
quoted_text code = codes "\"" ++ (code ++ codes "\"")

-- a code between quotes in front
pub tokens_at-code : (place : ℕ) (code rest : List ℕ) → is_code code ≡ true
    → tokens_at place (quoted_text code ++ rest)
    ≡ lexeme place (length (quoted_text code)) (Quoted code)
    ∷ tokens_at (place + length (quoted_text code)) rest
tokens_at-code place code rest coded =
    let long : length code + 2 ≡ length (quoted_text code) = simp length-append (omega arith) in
    let parted : (code ++ codes "\"") ++ rest ≡ code ++ (34 ∷ rest) =
    append_assoc code (codes "\"") rest in
    tokens_at-token place (quoted_text code) rest (Quoted code) refl
    (rw (parted, ← long) (lexeme_of-code place code rest coded))

-- what may follow a number or a word: no byte of a word and no point
pub record EndsPart (rest : List ℕ) : Type 0 where
  pub no_word : is_word_byte (slice_index rest 0) ≡ false
  pub no_point : (slice_index rest 0 == 46) ≡ false

not_digit : (b : ℕ) → is_word_byte b ≡ false → is_ascii_digit b ≡ false
not_digit b h = grind (arith, nat_tests)

-- the token of digits with so many decimals
abbrev spelt : ℕ → ℕ → Token
spelt n decimals = Number (record { digits = n; decimals = decimals })

-- digits with none behind them
number_lexeme-whole : (place n : ℕ) (rest : List ℕ) → n ≤ largest_units → EndsPart rest
    → number_lexeme place (number_text n ++ rest)
    ≡ lexeme place (length (number_text n)) (spelt n 0)
unfolding number_lexeme decimal_count
number_lexeme-whole place n rest within ends =
    let wide : n < 2 ^ 64 = omega arith in
    let digits = all_digits-number_text n wide in
    let stop = not_digit (slice_index rest 0) ends.no_word in
    let as_long = prefix_len-all is_ascii_digit (number_text n) rest digits stop in
    let next : length (number_text n) + 0 ≡ length (number_text n) = omega arith in
    let behind : slice_index (number_text n ++ rest) (length (number_text n)) ≡ slice_index rest 0 =
    rw next at (get_or-append-add (number_text n) rest 0 0) in
    let whole = take_at (number_text n) rest (length (number_text n)) refl in
    let least : min n (largest_units + 1) ≡ n = omega arith in
    rw (as_long, behind, ends.no_point, whole, decimal_value-number_text n wide, least) refl

-- digits, a point and more digits
number_lexeme-parts : (place k part n : ℕ) (front back rest : List ℕ)
    → list_all is_ascii_digit front ≡ true → list_all is_ascii_digit back ≡ true
    → length back ≡ suc k → decimal_value front ≡ part → read_on part back ≡ n
    → n ≤ largest_units → EndsPart rest
    → number_lexeme place (front ++ (46 ∷ (back ++ rest)))
    ≡ lexeme place (length front + 1 + suc k) (spelt n (suc k))
unfolding number_lexeme decimal_count
number_lexeme-parts place k part n front back rest all digits count whole value within ends =
    let as_long : prefix_len is_ascii_digit (front ++ (46 ∷ (back ++ rest))) ≡ length front =
    prefix_len-all is_ascii_digit front (46 ∷ (back ++ rest)) all refl in
    let point : slice_index (front ++ (46 ∷ (back ++ rest))) (length front) ≡ 46 =
    get_or_at front 46 (back ++ rest) 0 (length front) refl in
    let behind : drop (length front + 1) (front ++ (46 ∷ (back ++ rest))) ≡ back ++ rest =
    drop-append-add front (46 ∷ (back ++ rest)) 1 in
    let stop = not_digit (slice_index rest 0) ends.no_word in
    let decimals : prefix_len is_ascii_digit (back ++ rest) ≡ suc k =
    prefix_len-all is_ascii_digit back rest digits stop ∙ count in
    let first : take (length front) (front ++ (46 ∷ (back ++ rest))) ≡ front =
    take_at front (46 ∷ (back ++ rest)) (length front) refl in
    let last : take (suc k) (back ++ rest) ≡ back = take_at back rest (suc k) count in
    let least : min n (largest_units + 1) ≡ n = omega arith in
    let some : (suc k == 0) ≡ false = grind (arith, nat_tests) in
    rw (as_long, point, behind, decimals, some, first, whole, last, value, least) refl

number_lexeme-units : (place n decimals : ℕ) (rest : List ℕ) → n ≤ largest_units → EndsPart rest
    → number_lexeme place (units_text n decimals ++ rest)
    ≡ lexeme place (length (units_text n decimals)) (spelt n decimals)
unfolding units_text
number_lexeme-units place n zero rest within ends = number_lexeme-whole place n rest within ends
number_lexeme-units place n (suc k) rest within ends =
    let part = n / 10 ^ suc k in
    let wide : part < 2 ^ 64 = omega arith in
    let front = number_text part in
    let back = last_digits (suc k) n in
    let value : read_on part back ≡ n = read_on-last_digits part (suc k) n ∙ omega arith in
    let count = length-last_digits (suc k) n in
    let long : length front + 1 + suc k ≡ length (front ++ (46 ∷ back)) =
    simp length-append (omega arith) in
    rw (append_assoc, ← long) (number_lexeme-parts place k part n front back rest
    (all_digits-number_text part wide) (all_digits-last_digits (suc k) n) count
    (decimal_value-number_text part wide) value within ends)

starts_digits : (digits rest : List ℕ) → list_all is_ascii_digit digits ≡ true → 0 < length digits
    → is_ascii_digit (slice_index (digits ++ rest) 0) ≡ true
starts_digits [] rest all some = absurd (omega arith)
starts_digits (b ∷ digits) rest all some = (and_parts (is_ascii_digit b) _ all).0

starts_units : (n decimals : ℕ) (rest : List ℕ) → n ≤ largest_units
    → is_ascii_digit (slice_index (units_text n decimals ++ rest) 0) ≡ true
unfolding units_text
starts_units n zero rest within =
    let wide : n < 2 ^ 64 = omega arith in
    starts_digits (number_text n) rest (all_digits-number_text n wide) (number_text-some n wide)
starts_units n (suc k) rest within =
    let part = n / 10 ^ suc k in
    let wide : part < 2 ^ 64 = omega arith in
    rw append_assoc (starts_digits (number_text part) (46 ∷ (last_digits (suc k) n ++ rest))
    (all_digits-number_text part wide) (number_text-some part wide))

digit_not_letter : (b : ℕ) → is_ascii_digit b ≡ true
    → (is_ascii_alphabetic b ≡ false) × (is_blank b ≡ false)
digit_not_letter b h = (grind (arith, nat_tests), grind (arith, nat_tests))

lexeme_of-number : (place n decimals : ℕ) (rest : List ℕ) → n ≤ largest_units → EndsPart rest
    → lexeme_of place (units_text n decimals ++ rest)
    ≡ lexeme place (length (units_text n decimals)) (spelt n decimals)
unfolding lexeme_of
lexeme_of-number place n decimals rest within ends =
    let digit = starts_units n decimals rest within in
    let letter = (digit_not_letter (slice_index (units_text n decimals ++ rest) 0) digit).0 in
    rw (letter, digit) (number_lexeme-units place n decimals rest within ends)

-- a number in front
pub tokens_at-number : (place n decimals : ℕ) (rest : List ℕ) → n ≤ largest_units → EndsPart rest
    → tokens_at place (sum_text (pos n) decimals ++ rest)
    ≡ lexeme place (length (sum_text (pos n) decimals)) (spelt n decimals)
    ∷ tokens_at (place + length (sum_text (pos n) decimals)) rest
unfolding sum_text
tokens_at-number place n decimals rest within ends =
    let digit = rw append-nil at (starts_units n decimals [] within) in
    tokens_at-token place (units_text n decimals) rest (spelt n decimals)
    (digit_not_letter (slice_index (units_text n decimals) 0) digit).1
    (lexeme_of-number place n decimals rest within ends)
