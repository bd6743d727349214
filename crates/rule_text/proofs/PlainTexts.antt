-- The text of statements as they are written anew: one space between words, behind commas, behind
-- the semicolons between parentheses and around marks between terms; none elsewhere.
use Rattle.std.proofs.Common.{ℕ, Bool, true, false, not, ◌&&◌, List, [], ◌∷◌, ◌++◌, length, ◌+◌}
use Rattle.std.proofs.Common.{Option, Some, None, codes, nat_le, pos}
use Rattle.std.specs.List.{flat_map, list_all}
use Rattle.reg_base.specs.Codes.{is_code, is_name}
use Rattle.reg_base.specs.Numbers.{largest_units, sum_text}
use Rattle.rule_text.specs.declared.token.Literal.{Literal}
use Rattle.rule_text.specs.declared.token.Spelling.{Spelling}
use Rattle.rule_text.specs.declared.token.Spelling.TheVariants.{Named, Other}
use Rattle.rule_text.specs.declared.plain.PlainAct.{PlainAct}
use Rattle.rule_text.specs.declared.plain.PlainAct.TheVariants.{Make, WriteOff, Require, Control}
use Rattle.rule_text.specs.declared.plain.PlainAct.TheVariants.{Entry}
use Rattle.rule_text.specs.declared.plain.PlainAmount.{PlainAmount}
use Rattle.rule_text.specs.declared.plain.PlainBind.{PlainBind}
use Rattle.rule_text.specs.declared.plain.PlainCode.{PlainCode}
use Rattle.rule_text.specs.declared.plain.PlainCode.TheVariants.{Text, Head as HeadCode}
use Rattle.rule_text.specs.declared.plain.PlainCode.TheVariants.{Line as LineCode}
use Rattle.rule_text.specs.declared.plain.PlainCond.{PlainCond}
use Rattle.rule_text.specs.declared.plain.PlainCond.TheVariants.{Sums, Codes}
use Rattle.rule_text.specs.declared.plain.PlainPart.{PlainPart}
use Rattle.rule_text.specs.declared.plain.PlainPart.TheVariants.{Number, Head, Line, Total, Cost}
use Rattle.rule_text.specs.declared.plain.PlainSide.{PlainSide}
use Rattle.rule_text.specs.declared.plain.PlainStatement.{PlainStatement}
use Rattle.rule_text.specs.declared.plain.PlainTerm.{PlainTerm}
use Rattle.rule_text.specs.declared.plain.PlainTo.{PlainTo}
use Rattle.rule_text.specs.declared.plain.PlainTo.TheVariants.{Code, Point}
use Rattle.rule_text.specs.declared.plain.Scope.{Scope}
use Rattle.rule_text.specs.declared.plain.Scope.TheVariants.{Once, EachLine}
use Rattle.rule_text.specs.declared.plain.Target.{Target}
use Rattle.rule_text.specs.declared.plain.Test.{Test}
use Rattle.rule_text.specs.declared.plain.Test.TheVariants.{Less, AtMost, Equal, AtLeast, Greater}
use Rattle.rule_text.specs.declared.plain.Test.TheVariants.{Differs}
use Rattle.rule_text.specs.declared.plain.Verb.{Verb}
use Rattle.rule_text.specs.declared.plain.Verb.TheVariants.{Receipt, Expense, Turn}

-- the first, and each other one behind what joins it
abbrev pub joined : {X : Type 0} → (X → List ℕ) → (X → List ℕ) → List X → List ℕ
joined joint text [] = []
joined joint text (x ∷ xs) = text x ++ flat_map (λ y. joint y ++ text y) xs

-- a word
unfoldable pub spelling_text : Spelling → List ℕ
spelling_text (Named name) = name
spelling_text Other = []

-- digits with their decimals
unfoldable pub literal_text : Literal → List ℕ
literal_text literal = sum_text (pos literal.digits) literal.decimals

-- a code between quotes, or a field
unfoldable pub code_text : PlainCode → List ℕ
code_text (Text code) = codes "\"" ++ (code ++ codes "\"")
code_text (HeadCode field) = codes "head." ++ spelling_text field
code_text (LineCode field) = codes "line." ++ spelling_text field

-- a number, a field or `cost`
unfoldable pub part_text : PlainPart → List ℕ
part_text (Number literal) = literal_text literal
part_text (Head field) = codes "head." ++ spelling_text field
part_text (Line field) = codes "line." ++ spelling_text field
part_text (Total field) = codes "total." ++ spelling_text field
part_text Cost = codes "cost"

-- the sign of a term's own
abbrev pub sign_text : Bool → List ℕ
sign_text true = codes "-"
sign_text false = []

-- a part behind its own sign
unfoldable pub term_text : PlainTerm → List ℕ
term_text term = sign_text term.negative ++ part_text term.part

-- what joins a term to those before it
abbrev pub joint_text : Bool → List ℕ
joint_text true = codes " - "
joint_text false = codes " + "

-- a sum with the mark before each of its terms but the first
unfoldable pub terms_text : List PlainTerm → List ℕ
terms_text terms = joined (λ t. joint_text t.minus) term_text terms

-- the mark of a test
unfoldable pub test_text : Test → List ℕ
test_text Less = codes "<"
test_text AtMost = codes "<="
test_text Equal = codes "="
test_text AtLeast = codes ">="
test_text Greater = codes ">"
test_text Differs = codes "<>"

-- the mark between codes
abbrev pub equal_text : Bool → List ℕ
equal_text true = codes "="
equal_text false = codes "<>"

-- `point`, or a code
unfoldable pub to_text : PlainTo → List ℕ
to_text Point = codes "point"
to_text (Code code) = code_text code

-- a dimension with its value
unfoldable pub bind_text : PlainBind → List ℕ
bind_text bind = spelling_text bind.dimension ++ (codes " = " ++ to_text bind.to)

-- dimensions with their values, behind commas
unfoldable pub binds_text : List PlainBind → List ℕ
binds_text binds = joined (λ _. codes ", ") bind_text binds

-- a resource with its number
unfoldable pub amount_text : PlainAmount → List ℕ
amount_text amount = spelling_text amount.resource ++ (codes " = " ++ terms_text amount.sum)

-- resources with their numbers, behind commas
unfoldable pub amounts_text : List PlainAmount → List ℕ
amounts_text amounts = joined (λ _. codes ", ") amount_text amounts

-- the word of a verb
abbrev pub verb_text : Verb → List ℕ
verb_text Receipt = codes "receipt"
verb_text Expense = codes "expense"
verb_text Turn = codes "turn"

-- the word of a write-off
abbrev pub order_text : Bool → List ℕ
order_text true = codes "fifo"
order_text false = codes "average"

-- `none`, or an account with its extras
unfoldable pub side_text : Option PlainSide → List ℕ
side_text None = codes "none"
side_text (Some side) = code_text side.account
    ++ (codes "(" ++ (joined (λ _. codes ", ") code_text side.extras ++ codes ")"))

-- an act
unfoldable pub act_text : PlainAct → List ℕ
act_text (Make verb target sums) =
    verb_text verb ++ (codes " " ++ (spelling_text target.register ++ (codes "("
    ++ (binds_text target.binds ++ (codes "; " ++ (amounts_text sums ++ codes ")"))))))
act_text (WriteOff fifo target wanted cost) =
    order_text fifo ++ (codes " " ++ (spelling_text target.register ++ (codes "("
    ++ (binds_text target.binds ++ (codes "; " ++ (amount_text wanted ++ (codes ", "
    ++ (spelling_text cost ++ codes ")"))))))))
act_text (Require target resource least code) =
    codes "require " ++ (spelling_text target.register ++ (codes "("
    ++ (binds_text target.binds ++ (codes "; " ++ (spelling_text resource ++ (codes ") >= "
    ++ (terms_text least ++ (codes " code \"" ++ (code ++ codes "\"")))))))))
act_text (Control register resource) =
    codes "control " ++ (spelling_text register ++ (codes " " ++ spelling_text resource))
act_text (Entry ledger sides amount) = codes "entry " ++ (spelling_text ledger ++ (codes "(debit "
    ++ (side_text sides.debit ++ (codes ", credit " ++ (side_text sides.credit
    ++ (codes "; " ++ (terms_text amount ++ codes ")")))))))

-- a scope, where one is written
abbrev pub scope_text : Option Scope → List ℕ
scope_text None = []
scope_text (Some Once) = codes "once "
scope_text (Some EachLine) = codes "each line "

-- two sums or two codes with the mark between them
unfoldable pub cond_text : PlainCond → List ℕ
cond_text (Sums left test right) =
    terms_text left ++ (codes " " ++ (test_text test ++ (codes " " ++ terms_text right)))
cond_text (Codes left equal right) =
    code_text left ++ (codes " " ++ (equal_text equal ++ (codes " " ++ code_text right)))

-- a condition, where there is one
abbrev pub when_text : Option PlainCond → List ℕ
when_text None = []
when_text (Some cond) = codes " when " ++ cond_text cond

-- a statement on a line of its own
unfoldable pub statement_text : PlainStatement → List ℕ
statement_text statement =
    scope_text statement.scope ++ (act_text statement.act ++ (when_text statement.when ++ codes
    ";\n"))

-- statements, one behind the other
unfoldable pub statements_text : List PlainStatement → List ℕ
statements_text statements = flat_map statement_text statements

-- the statements with the places that they have in their text, which begins at this place
unfoldable pub placed : ℕ → List PlainStatement → List PlainStatement
placed place [] = []
placed place (statement ∷ statements) =
    record { place = place; scope = statement.scope; act = statement.act; when = statement.when }
    ∷ placed (place + length (statement_text statement)) statements

-- What can be written so that it reads back: names and codes that are some, sums that are not empty
-- and begin without a joint, and literals that pass the test.

unfoldable pub is_named : Spelling → Bool
is_named (Named name) = is_name name
is_named Other = false

-- not past the largest number
abbrev pub is_small : Literal → Bool
is_small literal = nat_le literal.digits largest_units

abbrev pub is_any : Literal → Bool
is_any literal = true

unfoldable pub code_fits : PlainCode → Bool
code_fits (Text code) = is_code code
code_fits (HeadCode field) = is_named field
code_fits (LineCode field) = is_named field

unfoldable pub part_fits : (Literal → Bool) → PlainPart → Bool
part_fits literal_fits (Number literal) = literal_fits literal
part_fits literal_fits (Head field) = is_named field
part_fits literal_fits (Line field) = is_named field
part_fits literal_fits (Total field) = is_named field
part_fits literal_fits Cost = true

unfoldable pub terms_fit : (Literal → Bool) → List PlainTerm → Bool
terms_fit literal_fits [] = false
terms_fit literal_fits (term ∷ terms) = not term.minus
    && (part_fits literal_fits term.part && list_all (λ t. part_fits literal_fits t.part) terms)

unfoldable pub to_fits : PlainTo → Bool
to_fits Point = true
to_fits (Code code) = code_fits code

abbrev pub bind_fits : PlainBind → Bool
bind_fits bind = is_named bind.dimension && to_fits bind.to

abbrev pub target_fits : Target → Bool
target_fits target = is_named target.register && list_all bind_fits target.binds

abbrev pub amount_fits : (Literal → Bool) → PlainAmount → Bool
amount_fits literal_fits amount = is_named amount.resource && terms_fit literal_fits amount.sum

unfoldable pub amounts_fit : (Literal → Bool) → List PlainAmount → Bool
amounts_fit literal_fits [] = false
amounts_fit literal_fits (amount ∷ amounts) =
    amount_fits literal_fits amount && list_all (amount_fits literal_fits) amounts

unfoldable pub side_fits : Option PlainSide → Bool
side_fits None = true
side_fits (Some side) = code_fits side.account && list_all code_fits side.extras

unfoldable pub act_fits : (Literal → Bool) → PlainAct → Bool
act_fits literal_fits (Make verb target sums) = target_fits target && amounts_fit literal_fits sums
act_fits literal_fits (WriteOff fifo target wanted cost) =
    target_fits target && (amount_fits literal_fits wanted && is_named cost)
act_fits literal_fits (Require target resource least code) =
    target_fits target && (is_named resource && (terms_fit literal_fits least && is_code code))
act_fits literal_fits (Control register resource) = is_named register && is_named resource
act_fits literal_fits (Entry ledger sides amount) = is_named ledger
    && (side_fits sides.debit && (side_fits sides.credit && terms_fit literal_fits amount))

-- a text stands on at least one side, else two fields are read as sums
abbrev pub has_text : PlainCode → PlainCode → Bool
has_text (Text code) right = true
has_text (HeadCode field) (Text code) = true
has_text (HeadCode field) (HeadCode _) = false
has_text (HeadCode field) (LineCode _) = false
has_text (LineCode field) (Text code) = true
has_text (LineCode field) (HeadCode _) = false
has_text (LineCode field) (LineCode _) = false

unfoldable pub cond_fits : (Literal → Bool) → PlainCond → Bool
cond_fits literal_fits (Sums left test right) = terms_fit literal_fits left && terms_fit
    literal_fits right
cond_fits literal_fits (Codes left equal right) =
    has_text left right && (code_fits left && code_fits right)

unfoldable pub when_fits : (Literal → Bool) → Option PlainCond → Bool
when_fits literal_fits None = true
when_fits literal_fits (Some cond) = cond_fits literal_fits cond

-- a statement that can be written so that it reads back
abbrev pub statement_fits : (Literal → Bool) → PlainStatement → Bool
statement_fits literal_fits statement =
    act_fits literal_fits statement.act && when_fits literal_fits statement.when
