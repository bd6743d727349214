-- How codes, terms and sums are written.
use Rattle.std.specs.Prelude.{ℕ, codes, Bool, true, false, List, Option, Some, None}
use Rattle.rule_text.specs.Readers.{Reader, ◌>>=◌, give, stuck, takes, pick, mark, name, code_if}
use Rattle.rule_text.specs.Readers.{list_reader}
use Rattle.rule_text.specs.Fronts.{is_mark_next, is_word_next, token_number}
use Rattle.rule_text.specs.declared.mark.Mark.TheVariants.{Point as PointMark, Plus as PlusMark}
use Rattle.rule_text.specs.declared.mark.Mark.TheVariants.{Minus as MinusMark}
use Rattle.rule_text.specs.declared.token.Literal.{Literal}
use Rattle.rule_text.specs.declared.token.Spelling.{Spelling}
use Rattle.rule_text.specs.declared.sums.Owner.{Owner}
use Rattle.rule_text.specs.declared.sums.Owner.TheVariants.{OfHead, OfLine}
use Rattle.rule_text.specs.declared.plain.PlainCode.{PlainCode}
use Rattle.rule_text.specs.declared.plain.PlainCode.TheVariants.{Text, Head as HeadCode}
use Rattle.rule_text.specs.declared.plain.PlainCode.TheVariants.{Line as LineCode}
use Rattle.rule_text.specs.declared.plain.PlainPart.{PlainPart}
use Rattle.rule_text.specs.declared.plain.PlainPart.TheVariants.{Number, Head, Line, Total, Cost}
use Rattle.rule_text.specs.declared.plain.PlainTerm.{PlainTerm}

-- a point and the name of a field
unfoldable pub field : Reader Spelling
field = do
  _ ← mark PointMark
  name

-- the word of head or of line
unfoldable pub owner : Reader Owner
owner = do
  head ← takes (is_word_next (codes "head"))
  line_unless head
  where
    owner_if : Bool → Reader Owner
    owner_if true = give OfLine
    owner_if false = stuck

    line_unless : Bool → Reader Owner
    line_unless true = give OfHead
    line_unless false = do
      line ← takes (is_word_next (codes "line"))
      owner_if line

-- the field of an owner, which has a code
abbrev pub code_field : Owner → Spelling → PlainCode
code_field OfHead spelling = HeadCode spelling
code_field OfLine spelling = LineCode spelling

-- a field of head or line
unfoldable pub field_code : Reader PlainCode
field_code = do
  of ← owner
  spelling ← field
  give (code_field of spelling)

-- the text, or a field where none was found
abbrev pub text_or_field : Option (List ℕ) → Reader PlainCode
text_or_field (Some code) = give (Text code)
text_or_field None = field_code

-- a code: a text between quotes, or a field of head or line
unfoldable pub code : Reader PlainCode
code = do
  text ← code_if
  text_or_field text

-- a part with a field: of head, of line, or the total of a line's field
unfoldable pub field_part : Reader PlainPart
field_part = do
  total ← takes (is_word_next (codes "total"))
  total_or total
  where
    of_owner : Owner → Spelling → PlainPart
    of_owner OfHead spelling = Head spelling
    of_owner OfLine spelling = Line spelling

    total_or : Bool → Reader PlainPart
    total_or true = do
      spelling ← field
      give (Total spelling)
    total_or false = do
      of ← owner
      spelling ← field
      give (of_owner of spelling)

-- a part: a number, `cost`, or a field
unfoldable pub part : Reader PlainPart
part = do
  number ← pick token_number
  number_or number
  where
    cost_or : Bool → Reader PlainPart
    cost_or true = give Cost
    cost_or false = field_part

    number_or : Option Literal → Reader PlainPart
    number_or (Some literal) = give (Number literal)
    number_or None = do
      cost ← takes (is_word_next (codes "cost"))
      cost_or cost

-- a term, which a minus joins to those before it or not: a sign of its own, then its part
unfoldable pub term : Bool → Reader PlainTerm
term minus = do
  negative ← takes (is_mark_next MinusMark)
  part ← part
  give (record { minus = minus; negative = negative; part = part })

-- the mark that joins one more term, if one follows: whether it is a minus
unfoldable pub joint : Reader (Option Bool)
joint = do
  plus ← takes (is_mark_next PlusMark)
  minus_unless plus
  where
    minus_if : Bool → Reader (Option Bool)
    minus_if true = give (Some true)
    minus_if false = give None

    minus_unless : Bool → Reader (Option Bool)
    minus_unless true = give (Some false)
    minus_unless false = do
      minus ← takes (is_mark_next MinusMark)
      minus_if minus

-- one more term, where a mark joins it
unfoldable pub next_term : Reader (Option PlainTerm)
next_term = do
  minus ← joint
  joined minus
  where
    joined : Option Bool → Reader (Option PlainTerm)
    joined None = give None
    joined (Some minus) = do
      term ← term minus
      give (Some term)

-- a sum: a term, and more with a plus or a minus before each
unfoldable pub sum : Reader (List PlainTerm)
sum = list_reader (term false) next_term
