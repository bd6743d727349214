-- Readers of one token read back what was written.
use Rattle.std.proofs.Common.{◌≡◌, ℕ, ◌+◌, ◌≤◌, true, false, List, [], ◌∷◌, ◌++◌, length}
use Rattle.std.proofs.Common.{slice_index, nat_le, Option, Some, None, Ok, arith, refl, ◌∙◌}
use Rattle.std.specs.Str.{bytes_eq}
use Rattle.std.proofs.lemmas.Bool.Decides.{nat_tests}
use Rattle.std.proofs.lemmas.Slice.Eq.{bytes_eq-Decides}
use Rattle.reg_base.specs.Codes.{is_code, is_name}
use Rattle.reg_base.specs.Numbers.{largest_units}
use Rattle.rule_text.specs.Marks.{mark_text}
use Rattle.rule_text.specs.Readers.{Reader, takes, pick, mark, word, name, code_if, quoted}
use Rattle.rule_text.specs.Fronts.{token_mark, token_word, token_number, token_code, token_break}
use Rattle.rule_text.specs.Fronts.{is_mark_next, is_word_next}
use Rattle.rule_text.specs.Tokens.{is_word_byte, lexeme}
use Rattle.rule_text.specs.declared.mark.Mark.{Mark}
use Rattle.rule_text.specs.declared.token.Lexeme.{Lexeme}
use Rattle.rule_text.specs.declared.token.Literal.{Literal}
use Rattle.rule_text.specs.declared.token.Spelling.{Spelling}
use Rattle.rule_text.specs.declared.token.Spelling.TheVariants.{Named, Other}
use Rattle.rule_text.specs.declared.token.Token.{Token}
use Rattle.rule_text.specs.declared.token.Token.TheVariants.{Word, Number, Quoted, Sign}
use Rattle.rule_text.proofs.PlainTexts.{spelling_text, literal_text, is_named, is_small}
use Rattle.rule_text.proofs.TextTokens.{tokens_at}
use Rattle.rule_text.proofs.LexemeLemmas.{EndsMark, EndsPart, quoted_text, tokens_at-word}
use Rattle.rule_text.proofs.LexemeLemmas.{tokens_at-mark, tokens_at-code, tokens_at-number}
use Rattle.rule_text.proofs.ReadBack.{ReadsBack, TakesToken, Anything, then_gives, reads_nothing}
use Rattle.rule_text.proofs.ReadBack.{Begins, front-begins, Starts, NotNext, NoneNext}

-- no byte of a word follows
abbrev pub EndsWord : List ℕ → Type 0
EndsWord rest = is_word_byte (slice_index rest 0) ≡ false

-- the text is this token
pub record IsToken (follows : List ℕ → Type 0) (text : List ℕ) (token : Token) : Type 0 where
  pub stands : (place : ℕ) (rest : List ℕ) → follows rest
      → tokens_at place (text ++ rest)
      ≡ lexeme place (length text) token ∷ tokens_at (place + length text) rest

-- a word, a mark, a code between quotes and a number are their tokens
pub is_word : (text : List ℕ) → is_name text ≡ true → IsToken EndsWord text (Word (Named text))
is_word text named = record { stands = λ place rest end. tokens_at-word place text rest named end }

pub is_mark : (mark : Mark) → IsToken (EndsMark mark) (mark_text mark) (Sign mark)
is_mark mark = record { stands = λ place rest end. tokens_at-mark place mark rest end }

pub is_quoted : (code : List ℕ) → is_code code ≡ true
    → IsToken Anything (quoted_text code) (Quoted code)
is_quoted code coded = record { stands = λ place rest end. tokens_at-code place code rest coded }

small_digits : (n : ℕ) → nat_le n largest_units ≡ true → n ≤ largest_units
small_digits n small = grind (arith, nat_tests)

pub is_number : (literal : Literal) → is_small literal ≡ true
    → IsToken EndsPart (literal_text literal) (Number literal)
unfolding literal_text
is_number literal small = record {
  stands = λ place rest end.
      let within = small_digits literal.digits small in
      tokens_at-number place literal.digits literal.decimals rest within end;
}

-- the text of a token has one
pub takes-token : {follows : List ℕ → Type 0} {text : List ℕ} {token : Token}
    → IsToken follows text token → TakesToken follows text
takes-token {text = text} is = record {
  taken = λ place rest end. rw (is.stands place rest end) (omega arith);
}

-- a token begins what it stands in front of
pub begins-token : {follows : List ℕ → Type 0} {text : List ℕ} {token : Token}
    → IsToken follows text token → (rest : List ℕ) → follows rest → Begins token (text ++ rest)
begins-token is rest end = record {
  first_is = λ place. rw (is.stands place rest end) refl;
}

-- a reader of one token reads it back
pub reads_token : {X : Type 0} {follows : List ℕ → Type 0} {text : List ℕ} {token : Token}
    → IsToken follows text token → (read : Reader X) (x : X)
    → ((place len : ℕ) (tokens : List Lexeme)
    → read (lexeme place len token ∷ tokens) ≡ Ok (x, tokens))
    → ReadsBack follows read text x
reads_token {text = text} is read x reads = record {
  reads = λ place rest end.
      rw (is.stands place rest end)
      (reads place (length text) (tokens_at (place + length text) rest));
  fewer = λ place rest end. rw (is.stands place rest end) (omega arith);
}

same_bytes : (bytes : List ℕ) → bytes_eq bytes bytes ≡ true
same_bytes bytes = (bytes_eq-Decides bytes bytes).1 refl

-- a mark, a word, a name, a code and a number are read back
pub reads_mark : (sign : Mark) → ReadsBack (EndsMark sign) (mark sign) (mark_text sign) tt
unfolding mark
reads_mark sign = reads_token (is_mark sign) (mark sign) tt
    (λ place len tokens. rw (same_bytes (mark_text sign)) refl)

pub takes_mark : (sign : Mark)
    → ReadsBack (EndsMark sign) (takes (is_mark_next sign)) (mark_text sign) true
takes_mark sign = reads_token (is_mark sign) (takes (is_mark_next sign)) true
    (λ place len tokens. rw (same_bytes (mark_text sign)) refl)

pub reads_word : (text : List ℕ) → is_name text ≡ true → ReadsBack EndsWord (word text) text tt
unfolding word
reads_word text named = reads_token (is_word text named) (word text) tt
    (λ place len tokens. rw (same_bytes text) refl)

pub takes_word : (text : List ℕ) → is_name text ≡ true
    → ReadsBack EndsWord (takes (is_word_next text)) text true
takes_word text named = reads_token (is_word text named) (takes (is_word_next text)) true
    (λ place len tokens. rw (same_bytes text) refl)

pub reads_name : (spelling : Spelling) → is_named spelling ≡ true
    → ReadsBack EndsWord name (spelling_text spelling) spelling
unfolding name spelling_text is_named
reads_name (Named text) named =
    reads_token (is_word text named) name (Named text) (λ place len tokens. refl)
reads_name Other named = absurd (cc)

pub reads_code_if : (code : List ℕ) → is_code code ≡ true
    → ReadsBack Anything code_if (quoted_text code) (Some code)
unfolding code_if
reads_code_if code coded =
    reads_token (is_quoted code coded) code_if (Some code) (λ place len tokens. refl)

pub reads_quoted : (code : List ℕ) → is_code code ≡ true
    → ReadsBack Anything quoted (quoted_text code) code
unfolding quoted
reads_quoted code coded = then_gives _ (reads_code_if code coded) (λ tokens. refl)

pub picks_number : (literal : Literal) → is_small literal ≡ true
    → ReadsBack EndsPart (pick token_number) (literal_text literal) (Some literal)
picks_number literal small =
    reads_token (is_number literal small) (pick token_number) (Some literal)
    (λ place len tokens. refl)

-- neither a code nor a quote that breaks off comes next
pub record NoCode (rest : List ℕ) : Type 0 where
  pub no_code : NoneNext token_code rest
  pub no_break : NoneNext token_break rest

-- no code is read where none comes next
pub no_code_if : ReadsBack NoCode code_if [] None
unfolding code_if
no_code_if = reads_nothing code_if None
    (λ place rest none. rw (none.no_code place, none.no_break place) refl)

-- what comes next is known by the first token
pub not_word : {token : Token} {rest : List ℕ} → Begins token rest → (text : List ℕ)
    → is_word_next text (lexeme 0 0 token ∷ []) ≡ false → NotNext (is_word_next text) rest
not_word begins text other place = rw (front-begins begins token_word place) other

pub not_mark : {token : Token} {rest : List ℕ} → Begins token rest → (sign : Mark)
    → is_mark_next sign (lexeme 0 0 token ∷ []) ≡ false → NotNext (is_mark_next sign) rest
not_mark begins sign other place = rw (front-begins begins token_mark place) other

pub none_next : {X : Type 0} {token : Token} {rest : List ℕ} → Begins token rest
    → (gives : Token → Option X) → gives token ≡ None → NoneNext gives rest
none_next begins gives none place = front-begins begins gives place ∙ none

pub no_code_next : {token : Token} {rest : List ℕ} → Begins token rest → token_code token ≡ None
    → token_break token ≡ None → NoCode rest
no_code_next begins code break = record {
  no_code = none_next begins token_code code;
  no_break = none_next begins token_break break;
}

-- what a token and a name start with
pub starts-token : {follows : List ℕ → Type 0} {text : List ℕ} {token : Token}
    → IsToken follows text token → Starts follows token text
starts-token is = record { begins = begins-token is }

pub starts_name : (spelling : Spelling) → is_named spelling ≡ true
    → Starts EndsWord (Word spelling) (spelling_text spelling)
unfolding spelling_text is_named
starts_name (Named text) named = starts-token (is_word text named)
starts_name Other named = absurd (cc)
