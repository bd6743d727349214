-- The tokens of a text are well spelt: words that are names and codes are some.
use Rattle.std.proofs.Common.{◌≡◌, ℕ, zero, suc, ◌+◌, ◌==◌, Bool, true, nat_lt, List, length, drop}
use Rattle.std.proofs.Common.{slice_index, Option, Some, None, refl, sym}
use Rattle.std.specs.List.{list_all, prefix_len}
use Rattle.std.specs.Char.{is_ascii_alphabetic, is_ascii_digit}
use Rattle.std.proofs.lemmas.Bool.{and_from, and_parts, cond_both}
use Rattle.std.proofs.lemmas.Option.{cond_some}
use Rattle.reg_base.specs.Codes.{is_code, is_code_byte, is_name}
use Rattle.rule_text.specs.Marks.{single_mark, double_mark}
use Rattle.rule_text.specs.Tokens.{is_blank, word_lexeme, decimal_count, number_lexeme, closed_code}
use Rattle.rule_text.specs.Tokens.{quoted_lexeme, mark_lexeme, lexeme_of, pieces_from, tokens_of}
use Rattle.rule_text.specs.Tokens.{spelling_of}
use Rattle.rule_text.specs.declared.token.Lexeme.{Lexeme}
use Rattle.rule_text.specs.declared.token.Token.{Token}
use Rattle.rule_text.specs.declared.token.Token.TheVariants.{Word, Number, Quoted, Sign, Broken}
use Rattle.rule_text.specs.declared.token.Spelling.TheVariants.{Named, Other}
use Rattle.rule_text.proofs.ReadTests.{spelling_read}

abbrev pub token_read : Token → Bool
token_read (Word spelling) = spelling_read spelling
token_read (Number literal) = true
token_read (Quoted code) = is_code code
token_read (Sign mark) = true
token_read (Broken at) = true

abbrev pub lexeme_read : Lexeme → Bool
lexeme_read lexeme = token_read lexeme.token

-- each token is well spelt
abbrev pub are_read : List Lexeme → Bool
are_read tokens = list_all lexeme_read tokens

-- what follows where nothing was found, and where something was
pub found_cases : {X G : Type 0} (found : Option X) → (found ≡ None → G)
    → ((x : X) → found ≡ Some x → G) → G
found_cases None none some = none refl
found_cases (Some x) none some = some x refl

spelling_of-read : (word : List ℕ) → spelling_read (spelling_of word) ≡ true
unfolding spelling_read
spelling_of-read word = cond_both (is_name word) (Named word) Other (λ s. spelling_read s ≡ true)
    (λ e. e) (λ e. refl)

word_lexeme-read : (place : ℕ) (bytes : List ℕ) → lexeme_read (word_lexeme place bytes) ≡ true
unfolding word_lexeme
word_lexeme-read place bytes = spelling_of-read _

number_lexeme-read : (place : ℕ) (bytes : List ℕ) → lexeme_read (number_lexeme place bytes) ≡ true
unfolding number_lexeme
number_lexeme-read place bytes =
    cond_both (decimal_count bytes (prefix_len is_ascii_digit bytes) == 0) _ _ (λ l. lexeme_read l
    ≡ true) (λ e. refl) (λ e. refl)

closed_code-read : (bytes : List ℕ) (len : ℕ) (code : List ℕ) → closed_code bytes len ≡ Some code
    → is_code code ≡ true
unfolding closed_code
closed_code-read bytes len code e =
    let (test, is) = cond_some _ _ _ e in
    rw (sym is) (and_parts _ _ test).0

quoted_lexeme-read : (place : ℕ) (bytes : List ℕ) → lexeme_read (quoted_lexeme place bytes) ≡ true
unfolding quoted_lexeme
quoted_lexeme-read place bytes =
    let len = prefix_len is_code_byte (drop 1 bytes) in
    found_cases (closed_code bytes len) (λ e. rw e refl)
    (λ code e. rw e (closed_code-read bytes len code e))

mark_lexeme-read : (place : ℕ) (bytes : List ℕ) → lexeme_read (mark_lexeme place bytes) ≡ true
unfolding mark_lexeme
mark_lexeme-read place bytes =
    found_cases (double_mark (slice_index bytes 0) (slice_index bytes 1))
    (λ e. rw e (found_cases (single_mark (slice_index bytes 0)) (λ f. rw f refl)
    (λ mark f. rw f refl)))
    (λ mark e. rw e refl)

lexeme_of-read : (place : ℕ) (bytes : List ℕ) → lexeme_read (lexeme_of place bytes) ≡ true
unfolding lexeme_of
lexeme_of-read place bytes =
    let first = slice_index bytes 0 in
    cond_both (is_ascii_alphabetic first) _ _ (λ l. lexeme_read l ≡ true)
    (λ _. word_lexeme-read place bytes)
    (λ _. cond_both (is_ascii_digit first) _ _ (λ l. lexeme_read l ≡ true)
    (λ _. number_lexeme-read place bytes)
    (λ _. cond_both (first == 34) _ _ (λ l. lexeme_read l ≡ true)
    (λ _. quoted_lexeme-read place bytes)
    (λ _. mark_lexeme-read place bytes)))

pieces_from-read : (most : ℕ) (text : List ℕ) (place : ℕ)
    → are_read (pieces_from lexeme_of (λ lexeme. lexeme.len) most text place) ≡ true
unfolding pieces_from
pieces_from-read zero text place = refl
pieces_from-read (suc most) text place =
    let start = place + prefix_len is_blank (drop place text) in
    cond_both (nat_lt start (length text)) _ _ (λ ls. are_read ls ≡ true)
    (λ _. and_from _ _ (lexeme_of-read start (drop start text)) (pieces_from-read most text _))
    (λ _. refl)

pub tokens_of-read : (text : List ℕ) → are_read (tokens_of text) ≡ true
unfolding tokens_of
tokens_of-read text = pieces_from-read (length text) text 0
