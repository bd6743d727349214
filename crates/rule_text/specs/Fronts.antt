-- What stands at the front of a list of tokens.
use Rattle.std.specs.Prelude.{ℕ, Bool, false, List, [], ◌∷◌, Option, Some, None, option_and_then}
use Rattle.std.specs.Str.{bytes_eq}
use Rattle.rule_text.specs.Marks.{mark_text}
use Rattle.rule_text.specs.declared.mark.Mark.{Mark}
use Rattle.rule_text.specs.declared.token.Lexeme.{Lexeme}
use Rattle.rule_text.specs.declared.token.Literal.{Literal}
use Rattle.rule_text.specs.declared.token.Token.{Token}
use Rattle.rule_text.specs.declared.token.Token.TheVariants.{Word, Number, Quoted, Sign, Broken}
use Rattle.rule_text.specs.declared.token.Spelling.{Spelling}
use Rattle.rule_text.specs.declared.token.Spelling.TheVariants.{Named, Other}

-- the first token, where there is one
abbrev pub first : List Lexeme → Option Lexeme
first [] = None
first (lexeme ∷ lexemes) = Some lexeme

-- what the first token gives, if there is one and it gives something
abbrev pub front : {X : Type 0} → (Token → Option X) → List Lexeme → Option X
front gives tokens = option_and_then (λ lexeme. gives lexeme.token) (first tokens)

-- the mark that a token is
abbrev pub token_mark : Token → Option Mark
token_mark (Sign mark) = Some mark
token_mark (Word word) = None
token_mark (Number literal) = None
token_mark (Quoted code) = None
token_mark (Broken at) = None

-- the word that a token is
abbrev pub token_word : Token → Option Spelling
token_word (Word word) = Some word
token_word (Sign mark) = None
token_word (Number literal) = None
token_word (Quoted code) = None
token_word (Broken at) = None

-- the number that a token is
abbrev pub token_number : Token → Option Literal
token_number (Number literal) = Some literal
token_number (Word word) = None
token_number (Sign mark) = None
token_number (Quoted code) = None
token_number (Broken at) = None

-- the code that a token is
abbrev pub token_code : Token → Option (List ℕ)
token_code (Quoted code) = Some code
token_code (Word word) = None
token_code (Number literal) = None
token_code (Sign mark) = None
token_code (Broken at) = None

-- the byte at which no token can go on
abbrev pub token_break : Token → Option ℕ
token_break (Broken at) = Some at
token_break (Word word) = None
token_break (Number literal) = None
token_break (Quoted code) = None
token_break (Sign mark) = None

-- whether the first token is this mark
abbrev pub is_mark_next : Mark → List Lexeme → Bool
is_mark_next mark tokens = is_mark (front token_mark tokens)
  where
    is_mark : Option Mark → Bool
    is_mark None = false
    is_mark (Some other) = bytes_eq (mark_text other) (mark_text mark)

-- whether a word is this one
abbrev pub is_spelt : List ℕ → Spelling → Bool
is_spelt text Other = false
is_spelt text (Named name) = bytes_eq name text

-- whether the first token is this word
abbrev pub is_word_next : List ℕ → List Lexeme → Bool
is_word_next text tokens = is_word (front token_word tokens)
  where
    is_word : Option Spelling → Bool
    is_word None = false
    is_word (Some spelling) = is_spelt text spelling
