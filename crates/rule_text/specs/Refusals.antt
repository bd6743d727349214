-- What the refusal of a text at a place says of every other text that begins with its tokens.
use Rattle.std.specs.Prelude.{◌≡◌, ◌⊎◌, ℕ, List, [], ◌∷◌, ◌++◌, length, Some, Ok, Err}
use Rattle.rule_text.specs.Fronts.{token_break}
use Rattle.rule_text.specs.Sentences.{statements, statements_of}
use Rattle.rule_text.specs.Tokens.{tokens_of}
use Rattle.rule_text.specs.declared.fault.TextFault.TheVariants.{Syntax}
use Rattle.rule_text.specs.declared.plain.PlainStatement.{PlainStatement}
use Rattle.rule_text.specs.declared.token.Lexeme.{Lexeme}

-- the token begins at the place, or breaks off there
abbrev pub StandsAt : Lexeme → ℕ → Type 0
StandsAt lexeme place = (lexeme.place ≡ place) ⊎ (token_break lexeme.token ≡ Some place)

-- a token stands at the place, and every text that begins with the tokens through it is refused
-- there, so that none of them is accepted
pub record IsRefusedThrough (text : List ℕ) (place : ℕ) : Type 0 where
  pub front : List Lexeme
  pub token : Lexeme
  pub behind : List Lexeme
  pub tokens : tokens_of text ≡ front ++ token ∷ behind
  pub at : StandsAt token place
  pub refused : (other : List ℕ) (others : List Lexeme)
      → tokens_of other ≡ front ++ token ∷ others → statements_of other ≡ Err (Syntax place)

-- the text ends too early, and so does every text of the same tokens
pub record EndsEarly (text : List ℕ) (place : ℕ) : Type 0 where
  pub at : place ≡ length text
  pub refused : (other : List ℕ) → tokens_of other ≡ tokens_of text
      → statements_of other ≡ Err (Syntax (length other))

-- a text that is refused at a place is refused for the tokens through it, or ends too early
abbrev pub RefusalsStand : Type 0
RefusalsStand = (text : List ℕ) (place : ℕ) → statements_of text ≡ Err (Syntax place)
    → EndsEarly text place ⊎ IsRefusedThrough text place

-- of a text that is accepted each token is read
abbrev pub TextsAreReadWhole : Type 0
TextsAreReadWhole = (text : List ℕ) (plains : List PlainStatement)
    → statements_of text ≡ Ok plains → statements (tokens_of text) ≡ Ok (plains, [])
