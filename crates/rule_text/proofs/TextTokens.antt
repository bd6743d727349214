-- The tokens of what is left of a text.
use Rattle.std.proofs.Common.{◌≡◌, ℕ, zero, suc, ◌+◌, ◌≤◌, Bool, true, false, List, [], ◌∷◌, ◌++◌}
use Rattle.std.proofs.Common.{drop, length, slice_index, Option, Some, None, option_map, cond}
use Rattle.std.proofs.Common.{if◌then◌else◌, nat_lt, ◌==◌, arith, refl, sym, ap, ◌∙◌, drop-drop}
use Rattle.std.proofs.Common.{length-drop}
use Rattle.std.specs.List.{prefix_len}
use Rattle.std.specs.Char.{is_ascii_alphabetic, is_ascii_digit}
use Rattle.std.proofs.lemmas.Bool.{cond_both}
use Rattle.std.proofs.lemmas.List.{drop_at}
use Rattle.std.proofs.lemmas.Bool.Decides.{nat_tests}
use Rattle.reg_base.specs.Codes.{is_code_byte}
use Rattle.rule_text.specs.Marks.{double_mark, single_mark}
use Rattle.rule_text.specs.Fronts.{first}
use Rattle.rule_text.specs.Tokens.{is_blank, is_word_byte, lexeme, word_lexeme, number_lexeme}
use Rattle.rule_text.specs.Tokens.{decimal_count, closed_code, quoted_lexeme, mark_lexeme}
use Rattle.rule_text.specs.Tokens.{lexeme_of, pieces_from, tokens_of}
use Rattle.rule_text.specs.declared.mark.Mark.{Mark}
use Rattle.rule_text.specs.declared.token.Lexeme.{Lexeme}
use Rattle.rule_text.specs.declared.token.Token.{Token}

-- a token takes at least a byte, and begins where it is looked for
abbrev Stands : ℕ → Lexeme → Type 0
Stands place lexeme = (1 ≤ lexeme.len) × (lexeme.place ≡ place)

word_stands : (place : ℕ) (bytes : List ℕ) → is_ascii_alphabetic (slice_index bytes 0) ≡ true
    → Stands place (word_lexeme place bytes)
unfolding word_lexeme
word_stands place [] h = absurd (cc)
word_stands place (b ∷ bytes) h =
    let byte : is_word_byte b ≡ true = grind (arith, nat_tests) in
    rw byte (omega arith, refl)

number_stands : (place : ℕ) (bytes : List ℕ) → is_ascii_digit (slice_index bytes 0) ≡ true
    → Stands place (number_lexeme place bytes)
unfolding number_lexeme
number_stands place [] h = absurd (cc)
number_stands place (b ∷ bytes) h =
    let whole = prefix_len is_ascii_digit (b ∷ bytes) in
    let some : 1 ≤ prefix_len is_ascii_digit (b ∷ bytes) = rw h (omega arith) in
    cond_both (decimal_count (b ∷ bytes) whole == 0) _ _ (Stands place)
    (λ _. (some, refl)) (λ _. (omega arith, refl))

code_stands : (place : ℕ) (bytes : List ℕ) (found : Option (List ℕ))
    → closed_code bytes (prefix_len is_code_byte (drop 1 bytes)) ≡ found
    → Stands place (quoted_lexeme place bytes)
unfolding quoted_lexeme
code_stands place bytes (Some code) is = rw is (omega arith, refl)
code_stands place bytes None is = rw is (omega arith, refl)

quoted_stands : (place : ℕ) (bytes : List ℕ) → Stands place (quoted_lexeme place bytes)
quoted_stands place bytes = code_stands place bytes _ refl

sign_stands : (place : ℕ) (bytes : List ℕ) (double single : Option Mark)
    → double_mark (slice_index bytes 0) (slice_index bytes 1) ≡ double
    → single_mark (slice_index bytes 0) ≡ single → Stands place (mark_lexeme place bytes)
unfolding mark_lexeme
sign_stands place bytes (Some mark) single two one = rw two (omega arith, refl)
sign_stands place bytes None (Some mark) two one = rw (two, one) (omega arith, refl)
sign_stands place bytes None None two one = rw (two, one) (omega arith, refl)

mark_stands : (place : ℕ) (bytes : List ℕ) → Stands place (mark_lexeme place bytes)
mark_stands place bytes = sign_stands place bytes _ _ refl refl

-- so does any token
pub lexeme_stands : (place : ℕ) (bytes : List ℕ) → Stands place (lexeme_of place bytes)
unfolding lexeme_of
lexeme_stands place bytes =
    let first = slice_index bytes 0 in
    cond_both (is_ascii_alphabetic first) _ _ (Stands place)
    (λ letter. word_stands place bytes letter)
    (λ _. cond_both (is_ascii_digit first) _ _ (Stands place) (λ digit. number_stands place bytes
    digit)
    (λ _. cond_both (first == 34) _ _ (Stands place)
    (λ _. quoted_stands place bytes) (λ _. mark_stands place bytes)))

-- the tokens of bytes of which the first stands at the place, so many at the most
unfoldable pub tokens_within : ℕ → ℕ → List ℕ → List Lexeme
tokens_within zero place bytes = []
tokens_within (suc most) place bytes =
    let start = place + prefix_len is_blank bytes in
    let rest = drop (prefix_len is_blank bytes) bytes in
    let next = lexeme_of start rest in
    if nat_lt 0 (length rest)
    then next ∷ tokens_within most (start + next.len) (drop next.len rest)
    else []

-- the tokens of what is left of a text, of which the first byte stands at the place
unfoldable pub tokens_at : ℕ → List ℕ → List Lexeme
tokens_at place bytes = tokens_within (length bytes) place bytes

within_rest : (start : ℕ) (text : List ℕ)
    → nat_lt start (length text) ≡ nat_lt 0 (length (drop start text))
within_rest start text = rw length-drop (grind (arith, nat_tests))

tokens_within-pieces : (most : ℕ) (text : List ℕ) (place : ℕ)
    → pieces_from lexeme_of (λ lexeme. lexeme.len) most text place
    ≡ tokens_within most place (drop place text)
unfolding pieces_from tokens_within
tokens_within-pieces zero text place = refl
tokens_within-pieces (suc most) text place =
    let blanks = prefix_len is_blank (drop place text) in
    let start = place + blanks in
    let len = (lexeme_of start (drop start text)).len in
    let here : drop blanks (drop place text) ≡ drop start text = drop-drop blanks place text in
    rw (
      here,
      drop-drop len start text,
      within_rest start text,
      tokens_within-pieces most text (start + len),
    ) refl

-- the tokens of a text are those from its first byte on
pub tokens_at-text : (text : List ℕ) → tokens_of text ≡ tokens_at 0 text
unfolding tokens_of tokens_at
tokens_at-text text = tokens_within-pieces (length text) text 0

-- nothing is left
within_none : (most place : ℕ) (bytes : List ℕ) → length bytes ≡ 0
    → tokens_within most place bytes ≡ []
unfolding tokens_within
within_none zero place bytes none = refl
within_none (suc most) place [] none = refl
within_none (suc most) place (b ∷ bytes) none = absurd (omega arith)

same_if : {X : Type 0} (test : Bool) (x : X) (xs ys : List X) → (test ≡ true → xs ≡ ys)
    → cond test (x ∷ xs) [] ≡ cond test (x ∷ ys) []
same_if true x xs ys same = ap (λ l. x ∷ l) (same refl)
same_if false x xs ys same = refl

-- as many as there are bytes are as good as more
within_enough : (few more place : ℕ) (bytes : List ℕ) → length bytes ≤ few → length bytes ≤ more
    → tokens_within few place bytes ≡ tokens_within more place bytes
unfolding tokens_within
within_enough zero more place bytes long less = sym (within_none more place bytes (omega arith))
within_enough (suc few) zero place bytes long less = within_none (suc few) place bytes (omega arith)
within_enough (suc few) (suc more) place bytes long less =
    let blanks = prefix_len is_blank bytes in
    let rest = drop blanks bytes in
    let next = lexeme_of (place + blanks) rest in
    let some = (lexeme_stands (place + blanks) rest).0 in
    let front = length-drop blanks bytes in
    let back = length-drop next.len rest in
    same_if (nat_lt 0 (length rest)) next _ _
    (λ test. within_enough few more (place + blanks + next.len) (drop next.len rest)
    (omega arith) (omega arith))

-- what begins behind so many blanks
started : (most place blanks start : ℕ) (bytes rest : List ℕ)
    → prefix_len is_blank bytes ≡ blanks → drop blanks bytes ≡ rest → place + blanks ≡ start
    → tokens_within (suc most) place bytes
    ≡ cond (nat_lt 0 (length rest)) (lexeme_of start rest
    ∷ tokens_within most (start + (lexeme_of start rest).len)
    (drop (lexeme_of start rest).len rest)) []
unfolding tokens_within
started most place blanks start bytes rest as_many left here = rw (as_many, left, here) refl

blank_first : (most place b : ℕ) (bytes : List ℕ) → is_blank b ≡ true
    → tokens_within (suc most) place (b ∷ bytes) ≡ tokens_within (suc most) (suc place) bytes
blank_first most place b bytes blank =
    let blanks = prefix_len is_blank bytes in
    started most place (suc blanks) (suc place + blanks) (b ∷ bytes) (drop blanks bytes)
    (rw blank (omega arith)) refl (omega arith)
    ∙ sym (started most (suc place) blanks (suc place + blanks) bytes (drop blanks bytes)
    refl refl refl)

-- a blank in front is passed over
pub tokens_at-blank : (place b : ℕ) (bytes : List ℕ) → is_blank b ≡ true
    → tokens_at place (b ∷ bytes) ≡ tokens_at (suc place) bytes
unfolding tokens_at
tokens_at-blank place b bytes blank =
    blank_first (length bytes) place b bytes blank
    ∙ within_enough (suc (length bytes)) (length bytes) (suc place) bytes (omega arith)
    (omega arith)

token_first : (most place b : ℕ) (bytes : List ℕ) → is_blank b ≡ false
    → tokens_within (suc most) place (b ∷ bytes) ≡ lexeme_of place (b ∷ bytes)
    ∷ tokens_within most (place + (lexeme_of place (b ∷ bytes)).len)
    (drop (lexeme_of place (b ∷ bytes)).len (b ∷ bytes))
token_first most place b bytes none =
    let some : nat_lt 0 (length (b ∷ bytes)) ≡ true = grind (arith, nat_tests) in
    started most place 0 place (b ∷ bytes) (b ∷ bytes) (rw none refl) refl (omega arith)
    ∙ rw some refl

-- the first token, and those behind it
pub tokens_at-first : (place b : ℕ) (bytes : List ℕ) → is_blank b ≡ false
    → tokens_at place (b ∷ bytes) ≡ lexeme_of place (b ∷ bytes)
    ∷ tokens_at (place + (lexeme_of place (b ∷ bytes)).len)
    (drop (lexeme_of place (b ∷ bytes)).len (b ∷ bytes))
unfolding tokens_at
tokens_at-first place b bytes none =
    let next = lexeme_of place (b ∷ bytes) in
    let some = (lexeme_stands place (b ∷ bytes)).0 in
    let left = length-drop next.len (b ∷ bytes) in
    token_first (length bytes) place b bytes none
    ∙ ap (λ l. next ∷ l) (within_enough (length bytes) (length (drop next.len (b ∷ bytes)))
    (place + next.len) (drop next.len (b ∷ bytes)) (omega arith) (omega arith))

-- the token of a text in front of others
pub tokens_at-token : (place : ℕ) (text rest : List ℕ) (token : Token)
    → is_blank (slice_index text 0) ≡ false
    → lexeme_of place (text ++ rest) ≡ lexeme place (length text) token
    → tokens_at place (text ++ rest)
    ≡ lexeme place (length text) token ∷ tokens_at (place + length text) rest
tokens_at-token place [] rest token begins is =
    absurd (omega (arith, (lexeme_stands place rest).0, ap (λ l. l.len) is))
tokens_at-token place (b ∷ text) rest token begins is =
    let behind : drop (length text) (text ++ rest) ≡ rest = drop_at text rest (length text) refl in
    tokens_at-first place b (text ++ rest) begins ∙ rw (is, behind) refl

-- the first token begins at the place, where no blank stands there
pub first_place : (place b : ℕ) (bytes : List ℕ) → is_blank b ≡ false
    → option_map (λ lexeme. lexeme.place) (first (tokens_at place (b ∷ bytes))) ≡ Some place
first_place place b bytes none =
    rw (tokens_at-first place b bytes none) (ap Some (lexeme_stands place (b ∷ bytes)).1)
