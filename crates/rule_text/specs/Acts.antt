-- How the acts of statements are written.
use Rattle.std.specs.Prelude.{codes, not, Bool, true, false, List, [], Option, Some, None}
use Rattle.std.specs.Prelude.{option_and_then, if◌then◌else◌}
use Rattle.rule_text.specs.Readers.{Reader, ◌>>=◌, give, takes, take_front, mark, word, name}
use Rattle.rule_text.specs.Readers.{quoted, list_reader}
use Rattle.rule_text.specs.Fronts.{front, is_mark_next, is_word_next, is_spelt, token_word}
use Rattle.rule_text.specs.Sums.{code, sum}
use Rattle.rule_text.specs.declared.mark.Mark.TheVariants.{Open, Close, Semicolon, Comma, AtLeast}
use Rattle.rule_text.specs.declared.token.Lexeme.{Lexeme}
use Rattle.rule_text.specs.declared.token.Spelling.{Spelling}
use Rattle.rule_text.specs.declared.acts.Opening.{Opening}
use Rattle.rule_text.specs.declared.acts.Opening.TheVariants.{Makes, WritesOff, Requires, Controls}
use Rattle.rule_text.specs.declared.acts.Opening.TheVariants.{Enters}
use Rattle.rule_text.specs.declared.plain.PlainAct.{PlainAct}
use Rattle.rule_text.specs.declared.plain.PlainAct.TheVariants.{Make, WriteOff, Require, Control}
use Rattle.rule_text.specs.declared.plain.PlainAct.TheVariants.{Entry}
use Rattle.rule_text.specs.declared.plain.PlainCode.{PlainCode}
use Rattle.rule_text.specs.declared.plain.PlainSide.{PlainSide}
use Rattle.rule_text.specs.declared.plain.PlainSides.{PlainSides}
use Rattle.rule_text.specs.declared.plain.Verb.{Verb}
use Rattle.rule_text.specs.declared.plain.Verb.TheVariants.{Receipt, Expense, Turn}
use Rattle.rule_text.specs.Binds.{after_comma, target, amount, amounts}

-- receipt, expense, turn: a target, amounts and `)`
unfoldable pub make : Verb → Reader PlainAct
make verb = do
  to ← target
  sums ← amounts
  _ ← mark Close
  give (Make verb to sums)

-- fifo, average: a target, the amount wanted, the resource of the cost and `)`
unfoldable pub write_off : Bool → Reader PlainAct
write_off fifo = do
  to ← target
  wanted ← amount
  _ ← mark Comma
  cost ← name
  _ ← mark Close
  give (WriteOff fifo to wanted cost)

-- require: a target, a resource and `)`, then `>=`, a sum, `code` and a code
unfoldable pub require : Reader PlainAct
require = do
  to ← target
  resource ← name
  _ ← mark Close
  _ ← mark AtLeast
  least ← sum
  _ ← word (codes "code")
  text ← quoted
  give (Require to resource least text)

-- control: a register and a resource
unfoldable pub control : Reader PlainAct
control = do
  register ← name
  resource ← name
  give (Control register resource)

-- one more code
unfoldable pub next_code : Reader (Option PlainCode)
next_code = after_comma code

-- none where there are none, or one and more behind commas
abbrev pub codes_if : Bool → Reader (List PlainCode)
codes_if false = give []
codes_if true = list_reader code next_code

-- none before `)`, or one and more behind commas
unfoldable pub extra_codes : Reader (List PlainCode)
extra_codes = λ tokens. codes_if (not (is_mark_next Close tokens)) tokens

-- an account, then its extras between `(` and `)`
unfoldable pub account_side : Reader (Option PlainSide)
account_side = do
  account ← code
  _ ← mark Open
  extras ← extra_codes
  _ ← mark Close
  give (Some (record { account = account; extras = extras }))

-- `none`, or an account
unfoldable pub side : Reader (Option PlainSide)
side = do
  absent ← takes (is_word_next (codes "none"))
  none_or_account absent
  where
    none_or_account : Bool → Reader (Option PlainSide)
    none_or_account true = give None
    none_or_account false = account_side

-- `debit` and a side, a comma, `credit` and a side
unfoldable pub sides : Reader PlainSides
sides = do
  _ ← word (codes "debit")
  debit ← side
  _ ← mark Comma
  _ ← word (codes "credit")
  credit ← side
  give (record { debit = debit; credit = credit })

-- entry: a ledger, then between `(` and `)` the sides, `;` and a sum
unfoldable pub entry : Reader PlainAct
entry = do
  ledger ← name
  _ ← mark Open
  both ← sides
  _ ← mark Semicolon
  amount ← sum
  _ ← mark Close
  give (Entry ledger both amount)

-- what a verb opens
unfoldable pub opening_of : Spelling → Option Opening
opening_of spelling =
    if is_spelt (codes "receipt") spelling then Some (Makes Receipt)
    else if is_spelt (codes "expense") spelling then Some (Makes Expense)
    else if is_spelt (codes "turn") spelling then Some (Makes Turn)
    else if is_spelt (codes "fifo") spelling then Some (WritesOff true)
    else if is_spelt (codes "average") spelling then Some (WritesOff false)
    else if is_spelt (codes "require") spelling then Some Requires
    else if is_spelt (codes "control") spelling then Some Controls
    else if is_spelt (codes "entry") spelling then Some Enters
    else None

-- what the verb in front opens
abbrev pub front_opening : List Lexeme → Option Opening
front_opening tokens = option_and_then opening_of (front token_word tokens)

-- what stands behind the verb
unfoldable pub act_of : Opening → Reader PlainAct
act_of (Makes verb) = make verb
act_of (WritesOff fifo) = write_off fifo
act_of Requires = require
act_of Controls = control
act_of Enters = entry

-- the verb
unfoldable pub verb : Reader Opening
verb = λ tokens. take_front (front_opening tokens) tokens

-- a verb and what stands behind it
unfoldable pub act : Reader PlainAct
act = do
  opening ← verb
  act_of opening
