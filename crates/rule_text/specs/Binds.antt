-- How dimensions and resources are written with what is given them.
use Rattle.std.specs.Prelude.{codes, not, Bool, true, false, List, [], Option, Some, None}
use Rattle.rule_text.specs.Readers.{Reader, ◌>>=◌, give, takes, mark, name, list_reader}
use Rattle.rule_text.specs.Fronts.{is_mark_next, is_word_next}
use Rattle.rule_text.specs.Sums.{code, sum}
use Rattle.rule_text.specs.declared.mark.Mark.TheVariants.{Open, Semicolon, Comma, Equal}
use Rattle.rule_text.specs.declared.plain.PlainAmount.{PlainAmount}
use Rattle.rule_text.specs.declared.plain.PlainBind.{PlainBind}
use Rattle.rule_text.specs.declared.plain.PlainTo.{PlainTo}
use Rattle.rule_text.specs.declared.plain.PlainTo.TheVariants.{Code, Point}
use Rattle.rule_text.specs.declared.plain.Target.{Target}

-- `point`, or a code
unfoldable pub bind_to : Reader PlainTo
bind_to = do
  point ← takes (is_word_next (codes "point"))
  point_or point
  where
    point_or : Bool → Reader PlainTo
    point_or true = give Point
    point_or false = do
      code ← code
      give (Code code)

-- a dimension, `=` and its value
unfoldable pub bind : Reader PlainBind
bind = do
  dimension ← name
  _ ← mark Equal
  to ← bind_to
  give (record { dimension = dimension; to = to })

-- one more, where a comma follows
abbrev pub after_comma : {X : Type 0} → Reader X → Reader (Option X)
after_comma read = do
  comma ← takes (is_mark_next Comma)
  one_if comma read
  where
    one_if : {X : Type 0} → Bool → Reader X → Reader (Option X)
    one_if true read = read >>= λ x. give (Some x)
    one_if false read = give None

-- one more bind
unfoldable pub next_bind : Reader (Option PlainBind)
next_bind = after_comma bind

-- none where there are none, or one and more behind commas
abbrev pub binds_if : Bool → Reader (List PlainBind)
binds_if false = give []
binds_if true = list_reader bind next_bind

-- none before a semicolon, or one and more behind commas
unfoldable pub binds : Reader (List PlainBind)
binds = λ tokens. binds_if (not (is_mark_next Semicolon tokens)) tokens

-- a register, then `(`, its binds and `;`
unfoldable pub target : Reader Target
target = do
  register ← name
  _ ← mark Open
  bound ← binds
  _ ← mark Semicolon
  give (record { register = register; binds = bound })

-- a resource, `=` and a sum
unfoldable pub amount : Reader PlainAmount
amount = do
  resource ← name
  _ ← mark Equal
  terms ← sum
  give (record { resource = resource; sum = terms })

-- one more amount
unfoldable pub next_amount : Reader (Option PlainAmount)
next_amount = after_comma amount

-- one amount, and more behind commas
unfoldable pub amounts : Reader (List PlainAmount)
amounts = list_reader amount next_amount
