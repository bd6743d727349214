-- How conditions are written.
use Rattle.std.specs.Prelude.{ℕ, codes, Bool, true, false, List, Option, Some, None}
use Rattle.std.specs.Prelude.{option_and_then}
use Rattle.rule_text.specs.Plain.{lone_field, equality_of}
use Rattle.rule_text.specs.Readers.{Reader, ◌>>=◌, give, takes, take_front, code_if}
use Rattle.rule_text.specs.Fronts.{front, is_word_next, token_mark}
use Rattle.rule_text.specs.Sums.{code, sum}
use Rattle.rule_text.specs.declared.mark.Mark.{Mark}
use Rattle.rule_text.specs.declared.mark.Mark.TheVariants.{Open, Close, Semicolon, Comma, Point}
use Rattle.rule_text.specs.declared.mark.Mark.TheVariants.{Plus, Minus, Equal as EqualMark}
use Rattle.rule_text.specs.declared.mark.Mark.TheVariants.{Less as LessMark, AtMost as AtMostMark}
use Rattle.rule_text.specs.declared.mark.Mark.TheVariants.{AtLeast as AtLeastMark}
use Rattle.rule_text.specs.declared.mark.Mark.TheVariants.{Greater as GreaterMark}
use Rattle.rule_text.specs.declared.mark.Mark.TheVariants.{Differs as DiffersMark}
use Rattle.rule_text.specs.declared.token.Lexeme.{Lexeme}
use Rattle.rule_text.specs.declared.plain.PlainCode.{PlainCode}
use Rattle.rule_text.specs.declared.plain.PlainCode.TheVariants.{Text}
use Rattle.rule_text.specs.declared.plain.PlainCond.{PlainCond}
use Rattle.rule_text.specs.declared.plain.PlainCond.TheVariants.{Sums, Codes}
use Rattle.rule_text.specs.declared.plain.PlainTerm.{PlainTerm}
use Rattle.rule_text.specs.declared.plain.Test.{Test}
use Rattle.rule_text.specs.declared.plain.Test.TheVariants.{Less, AtMost, Equal, AtLeast, Greater}
use Rattle.rule_text.specs.declared.plain.Test.TheVariants.{Differs}

-- the test that a mark asks for
unfoldable pub test_of : Mark → Option Test
test_of LessMark = Some Less
test_of AtMostMark = Some AtMost
test_of EqualMark = Some Equal
test_of AtLeastMark = Some AtLeast
test_of GreaterMark = Some Greater
test_of DiffersMark = Some Differs
test_of Open = None
test_of Close = None
test_of Semicolon = None
test_of Comma = None
test_of Point = None
test_of Plus = None
test_of Minus = None

-- the test that the mark in front asks for
abbrev pub front_test : List Lexeme → Option Test
front_test tokens = option_and_then test_of (front token_mark tokens)

-- a mark between sums
unfoldable pub comparison : Reader Test
comparison = λ tokens. take_front (front_test tokens) tokens

-- a mark between codes, `=` or `<>`: whether they have to be equal
unfoldable pub equality : Reader Bool
equality = λ tokens. take_front (option_and_then equality_of (front_test tokens)) tokens

-- a text is compared with a code
unfoldable pub text_cond : List ℕ → Reader PlainCond
text_cond text = do
  equal ← equality
  right ← code
  give (Codes (Text text) equal right)

-- a sum is compared with a sum
unfoldable pub sums_cond : List PlainTerm → Test → Reader PlainCond
sums_cond left test = do
  right ← sum
  give (Sums left test right)

-- a field that may have a code is compared with a text, where one follows, and else as a sum
unfoldable pub field_cond : PlainCode → Bool → List PlainTerm → Test → Reader PlainCond
field_cond field equal left test = do
  text ← code_if
  text_or_sum text field equal left test
  where
    text_or_sum : Option (List ℕ) → PlainCode → Bool → List PlainTerm → Test → Reader PlainCond
    text_or_sum (Some text) field equal left test = give (Codes field equal (Text text))
    text_or_sum None field equal left test = sums_cond left test

-- a field alone, with a test for equality, may be compared with a text
abbrev pub code_or_sum_cond : Option PlainCode → Option Bool → List PlainTerm → Test
    → Reader PlainCond
code_or_sum_cond (Some field) (Some equal) left test = field_cond field equal left test
code_or_sum_cond (Some field) None left test = sums_cond left test
code_or_sum_cond None equal left test = sums_cond left test

-- a condition that begins with a sum
unfoldable pub sum_cond : Reader PlainCond
sum_cond = do
  left ← sum
  by ← comparison
  code_or_sum_cond (lone_field left) (equality_of by) left by

-- a condition: a text with a code, or a sum with what it can be compared with
unfoldable pub cond : Reader PlainCond
cond = do
  text ← code_if
  text_or_sum text
  where
    text_or_sum : Option (List ℕ) → Reader PlainCond
    text_or_sum (Some text) = text_cond text
    text_or_sum None = sum_cond

-- `when` and a condition, if one follows
unfoldable pub when : Reader (Option PlainCond)
when = do
  follows ← takes (is_word_next (codes "when"))
  cond_if follows
  where
    cond_if : Bool → Reader (Option PlainCond)
    cond_if false = give None
    cond_if true = do
      condition ← cond
      give (Some condition)
