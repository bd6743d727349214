-- Readers: what stands at the front of a list of tokens, with the tokens behind it; or the first
-- token that can't follow.
use Rattle.std.specs.Prelude.{ℕ, ◌≡◌, ◌≢◌, zero, suc, Bool, true, false, List, [], ◌∷◌, ◌++◌, drop}
use Rattle.std.specs.Prelude.{length, Option, Some, None, option_map, Result, Ok, Err}
use Rattle.std.specs.Prelude.{if◌then◌else◌}
use Rattle.rule_text.specs.declared.mark.Mark.{Mark}
use Rattle.rule_text.specs.declared.token.Lexeme.{Lexeme}
use Rattle.rule_text.specs.declared.token.Token.{Token}
use Rattle.rule_text.specs.declared.token.Spelling.{Spelling}
use Rattle.rule_text.specs.declared.cursor.Cursor.{Cursor}
use Rattle.rule_text.specs.declared.fault.ReadFault.{ReadFault}
use Rattle.rule_text.specs.declared.fault.ReadFault.TheVariants.{Stuck, Memory}
use Rattle.rule_text.specs.Fronts.{first, front, token_word, token_code, token_break, is_mark_next}
use Rattle.rule_text.specs.Fronts.{is_word_next}

-- what a reader gives: a value and the tokens behind it
abbrev pub Read : Type 0 → Type 0
Read X = Result (X × List Lexeme) ReadFault

abbrev pub Reader : Type 0 → Type 0
Reader X = List Lexeme → Read X

-- what comes next reads on behind a value; a fault stays
abbrev pub then_read : {X Y : Type 0} → (X → Reader Y) → Read X → Read Y
then_read next (Ok r) = next r.0 r.1
then_read next (Err fault) = Err fault

infixl 10 ◌>>=◌
-- one reader and then the next
abbrev pub ◌>>=◌ : {X Y : Type 0} → Reader X → (X → Reader Y) → Reader Y
read >>= next = λ tokens. then_read next (read tokens)

-- takes no token
abbrev pub give : {X : Type 0} → X → Reader X
give x = λ tokens. Ok (x, tokens)

-- the first token can't follow; none is told where the text ends
abbrev pub stuck : {X : Type 0} → Reader X
stuck = λ tokens. Err (Stuck (option_map (λ lexeme. lexeme.place) (first tokens)))

-- goes on where the test holds
abbrev pub must : Bool → Reader (Unit {0})
must true = give tt
must false = stuck

-- goes on with what was found
abbrev pub found_or : {X : Type 0} → Option X → Reader X
found_or (Some x) = give x
found_or None = stuck

-- takes the first token where it gives something
abbrev pub pick : {X : Type 0} → (Token → Option X) → Reader (Option X)
pick gives = λ tokens. picked (front gives tokens) tokens
  where
    picked : {X : Type 0} → Option X → Reader (Option X)
    picked (Some x) tokens = Ok (Some x, drop 1 tokens)
    picked None tokens = Ok (None, tokens)

-- whether the first token passes the test; it is taken then
abbrev pub takes : (List Lexeme → Bool) → Reader Bool
takes test = λ tokens. if test tokens then Ok (true, drop 1 tokens) else Ok (false, tokens)

-- the first token, where something was found in it
abbrev pub take_front : {X : Type 0} → Option X → Reader X
take_front (Some x) tokens = Ok (x, drop 1 tokens)
take_front None tokens = stuck tokens

-- this mark
unfoldable pub mark : Mark → Reader (Unit {0})
mark sign = do
  found ← takes (is_mark_next sign)
  must found

-- this word
unfoldable pub word : List ℕ → Reader (Unit {0})
word text = do
  found ← takes (is_word_next text)
  must found

-- any word, which stands for a name
unfoldable pub name : Reader Spelling
name = do
  found ← pick token_word
  found_or found

-- a code between quotes, where a quote follows: there it has to be a whole code
unfoldable pub code_if : Reader (Option (List ℕ))
code_if = λ tokens. coded (front token_code tokens) (front token_break tokens) tokens
  where
    coded : Option (List ℕ) → Option ℕ → Reader (Option (List ℕ))
    coded (Some code) broken tokens = Ok (Some code, drop 1 tokens)
    coded None (Some at) tokens = Err (Stuck (Some at))
    coded None None tokens = Ok (None, tokens)

-- a code between quotes
unfoldable pub quoted : Reader (List ℕ)
quoted = do
  found ← code_if
  found_or found

-- this one and the others, or none where none follows
abbrev pub more_of : {X : Type 0} → Reader (List X) → Option X → Reader (List X)
more_of others None = give []
more_of others (Some x) = others >>= λ xs. give (x ∷ xs)

-- one after another for as long as more follow, so many at the most
unfoldable pub many : {X : Type 0} → Reader (Option X) → ℕ → Reader (List X)
many next zero = give []
many next (suc most) = next >>= more_of (many next most)

-- what was read, with these in front
abbrev pub put_in_front : {X : Type 0} → List X → Read (List X) → Read (List X)
put_in_front front (Ok r) = Ok (front ++ r.0, r.1)
put_in_front front (Err fault) = Err fault

-- these, and then all that follow: each takes a token, so that there are no more than tokens
unfoldable pub list_on : {X : Type 0} → List X → Reader (Option X) → Reader (List X)
list_on front next = λ tokens. put_in_front front (many next (length tokens) tokens)

-- one element, and then all that follow
unfoldable pub list_reader : {X : Type 0} → Reader X → Reader (Option X) → Reader (List X)
list_reader read next = do
  x ← read
  list_on (x ∷ []) next

-- the tokens that a cursor has in front of it
abbrev pub rest : Cursor → List Lexeme
rest cursor = drop cursor.next cursor.tokens

-- the call reads what the definition reads, and leaves these tokens; want of memory is free
abbrev pub ReadsTokens : {X : Type 0} → Result X ReadFault → List Lexeme → Read X → Type 0
ReadsTokens (Ok x) left read = read ≡ Ok (x, left)
ReadsTokens (Err fault) left read = fault ≢ Memory → read ≡ Err fault
