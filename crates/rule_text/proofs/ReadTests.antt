-- What holds of each plain statement that is read: a word that is a name is one, codes are codes,
-- sums
-- are not empty and begin without a joint, and of two codes that are compared one is a text. A word
-- that is no name may stand for a name: nothing has it.
use Rattle.std.proofs.Common.{Bool, true, false, not, ◌&&◌, List, [], ◌∷◌, Option, Some, None}
use Rattle.std.specs.List.{list_all}
use Rattle.reg_base.specs.Codes.{is_code, is_name}
use Rattle.rule_text.specs.declared.token.Spelling.{Spelling}
use Rattle.rule_text.specs.declared.token.Spelling.TheVariants.{Named, Other}
use Rattle.rule_text.specs.declared.plain.PlainAct.{PlainAct}
use Rattle.rule_text.specs.declared.plain.PlainAct.TheVariants.{Make, WriteOff, Require, Control}
use Rattle.rule_text.specs.declared.plain.PlainAct.TheVariants.{Entry}
use Rattle.rule_text.specs.declared.plain.PlainAmount.{PlainAmount}
use Rattle.rule_text.specs.declared.plain.PlainBind.{PlainBind}
use Rattle.rule_text.specs.declared.plain.PlainCode.{PlainCode}
use Rattle.rule_text.specs.declared.plain.PlainCode.TheVariants.{Text, Head as HeadCode}
use Rattle.rule_text.specs.declared.plain.PlainCode.TheVariants.{Line as LineCode}
use Rattle.rule_text.specs.declared.plain.PlainCond.{PlainCond}
use Rattle.rule_text.specs.declared.plain.PlainCond.TheVariants.{Sums, Codes}
use Rattle.rule_text.specs.declared.plain.PlainPart.{PlainPart}
use Rattle.rule_text.specs.declared.plain.PlainPart.TheVariants.{Number, Head, Line, Total, Cost}
use Rattle.rule_text.specs.declared.plain.PlainSide.{PlainSide}
use Rattle.rule_text.specs.declared.plain.PlainStatement.{PlainStatement}
use Rattle.rule_text.specs.declared.plain.PlainTerm.{PlainTerm}
use Rattle.rule_text.specs.declared.plain.PlainTo.{PlainTo}
use Rattle.rule_text.specs.declared.plain.PlainTo.TheVariants.{Code, Point}
use Rattle.rule_text.specs.declared.plain.Target.{Target}
use Rattle.rule_text.proofs.PlainTexts.{has_text}

unfoldable pub spelling_read : Spelling → Bool
spelling_read (Named name) = is_name name
spelling_read Other = true

unfoldable pub code_read : PlainCode → Bool
code_read (Text code) = is_code code
code_read (HeadCode field) = spelling_read field
code_read (LineCode field) = spelling_read field

unfoldable pub part_read : PlainPart → Bool
part_read (Number literal) = true
part_read (Head field) = spelling_read field
part_read (Line field) = spelling_read field
part_read (Total field) = spelling_read field
part_read Cost = true

abbrev pub term_read : PlainTerm → Bool
term_read term = part_read term.part

unfoldable pub terms_read : List PlainTerm → Bool
terms_read [] = false
terms_read (term ∷ terms) = not term.minus && (term_read term && list_all term_read terms)

unfoldable pub to_read : PlainTo → Bool
to_read Point = true
to_read (Code code) = code_read code

abbrev pub bind_read : PlainBind → Bool
bind_read bind = spelling_read bind.dimension && to_read bind.to

abbrev pub target_read : Target → Bool
target_read target = spelling_read target.register && list_all bind_read target.binds

abbrev pub amount_read : PlainAmount → Bool
amount_read amount = spelling_read amount.resource && terms_read amount.sum

unfoldable pub amounts_read : List PlainAmount → Bool
amounts_read [] = false
amounts_read (amount ∷ amounts) = amount_read amount && list_all amount_read amounts

unfoldable pub side_read : Option PlainSide → Bool
side_read None = true
side_read (Some side) = code_read side.account && list_all code_read side.extras

unfoldable pub act_read : PlainAct → Bool
act_read (Make verb target sums) = target_read target && amounts_read sums
act_read (WriteOff fifo target wanted cost) =
    target_read target && (amount_read wanted && spelling_read cost)
act_read (Require target resource least code) =
    target_read target && (spelling_read resource && (terms_read least && is_code code))
act_read (Control register resource) = spelling_read register && spelling_read resource
act_read (Entry ledger sides amount) = spelling_read ledger
    && (side_read sides.debit && (side_read sides.credit && terms_read amount))

unfoldable pub cond_read : PlainCond → Bool
cond_read (Sums left test right) = terms_read left && terms_read right
cond_read (Codes left equal right) = has_text left right && (code_read left && code_read right)

unfoldable pub when_read : Option PlainCond → Bool
when_read None = true
when_read (Some cond) = cond_read cond

abbrev pub statement_read : PlainStatement → Bool
statement_read statement = act_read statement.act && when_read statement.when
