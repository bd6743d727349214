-- How whole statements are written, and what a text of statements says.
use Rattle.std.specs.Prelude.{ℕ, codes, Bool, true, false, List, [], length, Option, Some, None}
use Rattle.std.specs.Prelude.{option_map, Result, Ok, Err}
use Rattle.rule_text.specs.Readers.{Read, Reader, ◌>>=◌, give, takes, mark, word, list_on}
use Rattle.rule_text.specs.Fronts.{first, is_word_next}
use Rattle.rule_text.specs.Acts.{act}
use Rattle.rule_text.specs.Tokens.{tokens_of}
use Rattle.rule_text.specs.declared.fault.ReadFault.TheVariants.{Stuck, Memory as ReadMemory}
use Rattle.rule_text.specs.declared.fault.TextFault.{TextFault}
use Rattle.rule_text.specs.declared.fault.TextFault.TheVariants.{Syntax, Memory as TextMemory}
use Rattle.rule_text.specs.declared.mark.Mark.TheVariants.{Semicolon}
use Rattle.rule_text.specs.declared.plain.PlainStatement.{PlainStatement}
use Rattle.rule_text.specs.declared.plain.Scope.{Scope}
use Rattle.rule_text.specs.declared.plain.Scope.TheVariants.{Once, EachLine}
use Rattle.rule_text.specs.Conditions.{when}

-- `once` or `each line`, if one stands in front
unfoldable pub scope : Reader (Option Scope)
scope = do
  once ← takes (is_word_next (codes "once"))
  each_unless once
  where
    line_if : Bool → Reader (Option Scope)
    line_if false = give None
    line_if true = do
      _ ← word (codes "line")
      give (Some EachLine)

    each_unless : Bool → Reader (Option Scope)
    each_unless true = give (Some Once)
    each_unless false = do
      each ← takes (is_word_next (codes "each"))
      line_if each

-- a statement whose first byte stands at the place: its scope, its act, its condition, and `;`
unfoldable pub statement : ℕ → Reader PlainStatement
statement place = do
  scope ← scope
  act ← act
  when ← when
  _ ← mark Semicolon
  give (record { place = place; scope = scope; act = act; when = when })

-- the statement whose first byte stands at the place, where the text goes on
abbrev pub statement_if : Option ℕ → Reader (Option PlainStatement)
statement_if None = give None
statement_if (Some place) = do
  statement ← statement place
  give (Some statement)

-- one more statement, where the text goes on
unfoldable pub next_statement : Reader (Option PlainStatement)
next_statement = λ tokens. statement_if (option_map (λ lexeme. lexeme.place) (first tokens)) tokens

-- one statement after another to the end of the text
unfoldable pub statements : Reader (List PlainStatement)
statements = list_on [] next_statement

-- the statements that a text says; else the place of the first token or byte that can't follow,
-- which is the length of the text where it ends too early
unfoldable pub statements_of : List ℕ → Result (List PlainStatement) TextFault
statements_of text = told (statements (tokens_of text))
  where
    place_or_end : Option ℕ → ℕ
    place_or_end None = length text
    place_or_end (Some place) = place

    told : Read (List PlainStatement) → Result (List PlainStatement) TextFault
    told (Ok read) = Ok read.0
    told (Err (Stuck place)) = Err (Syntax (place_or_end place))
    told (Err ReadMemory) = Err TextMemory
