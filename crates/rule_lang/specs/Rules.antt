-- The rules of a configuration: the statements of each document type, or the first fault.
use Rattle.std.specs.Prelude.{ℕ, Bool, true, false, not, ◌+◌, ◌||◌, nat_lt, List, [], ◌∷◌, Option}
use Rattle.std.specs.Prelude.{Some, None, is_some, Result, Ok, Err}
use Rattle.reg_base.specs.Results.{◌>>=◌, unless}
use Rattle.cfg_model.specs.declared.config.Config.{Config}
use Rattle.cfg_model.specs.declared.kind.Kind.{Kind}
use Rattle.rule_text.specs.Sentences.{statements_of}
use Rattle.rule_text.specs.declared.fault.TextFault.{TextFault}
use Rattle.rule_text.specs.declared.fault.TextFault.TheVariants.{Syntax as NoSyntax}
use Rattle.rule_text.specs.declared.fault.TextFault.TheVariants.{Memory as NoMemory}
use Rattle.rule_text.specs.declared.plain.PlainAct.{PlainAct}
use Rattle.rule_text.specs.declared.plain.PlainAct.TheVariants.{Make as PlainMake}
use Rattle.rule_text.specs.declared.plain.PlainAct.TheVariants.{WriteOff as PlainWriteOff}
use Rattle.rule_text.specs.declared.plain.PlainAct.TheVariants.{Require as PlainRequire}
use Rattle.rule_text.specs.declared.plain.PlainAct.TheVariants.{Control as PlainControl}
use Rattle.rule_text.specs.declared.plain.PlainAct.TheVariants.{Entry as PlainEntry}
use Rattle.rule_text.specs.declared.plain.PlainCond.{PlainCond}
use Rattle.rule_text.specs.declared.plain.PlainStatement.{PlainStatement}
use Rattle.rule_lang.specs.Least.{Checked, both, beside}
use Rattle.rule_lang.specs.Acts.{resolved_act}
use Rattle.rule_lang.specs.Conditions.{resolved_cond}
use Rattle.rule_lang.specs.declared.fault.RuleFault.{RuleFault}
use Rattle.rule_lang.specs.declared.fault.RuleFault.TheVariants.{Wrong, Memory}
use Rattle.rule_lang.specs.declared.fault.RuleWhy.TheVariants.{Syntax, WrongScope, TooMany}
use Rattle.rule_lang.specs.declared.fault.RuleWhy.TheVariants.{SequenceUnbound}
use Rattle.rule_lang.specs.declared.costs.Costs.{Costs}
use Rattle.rule_lang.specs.declared.terms.Round.{Round}
use Rattle.rule_lang.specs.declared.statement.Act.{Act}
use Rattle.rule_lang.specs.declared.statement.Cond.{Cond}
use Rattle.rule_lang.specs.declared.statement.Statement.{Statement}
use Rattle.rule_lang.specs.Sequences.{keeps_sequences}
use Rattle.rule_lang.specs.Costs.{round_of, costs_after}

-- a type has at most so many statements
abbrev pub statement_limit : ℕ
statement_limit = 64

-- whether the act is a control
abbrev pub is_control : PlainAct → Bool
is_control (PlainControl register resource) = true
is_control (PlainMake verb target sums) = false
is_control (PlainWriteOff fifo target wanted cost) = false
is_control (PlainRequire target resource least code) = false
is_control (PlainEntry ledger sides amount) = false

-- a control has no scope and no condition
unfoldable pub scope_fits : PlainStatement → Checked (Unit {0})
scope_fits plain =
    unless (not (is_control plain.act) || not (is_some plain.scope || is_some plain.when))
    WrongScope

-- a condition, where there is one
unfoldable pub resolved_when : Kind → Round → Option PlainCond → Checked (Option Cond)
resolved_when kind round None = Ok None
resolved_when kind round (Some plain) = do
  cond ← resolved_cond kind round plain
  Ok (Some cond)

-- not too many are before, and the sequences are kept
unfoldable pub last_fits : Config → Kind → ℕ → Act → Checked (Unit {0})
last_fits config kind before act = do
  _ ← unless (nat_lt before statement_limit) TooMany
  unless (keeps_sequences config kind act) SequenceUnbound

-- a statement of its parts, that so many are before
unfoldable pub statement_if_fit : Config → Kind → ℕ → Bool → Checked (Act × Option Cond)
    → Checked Statement
statement_if_fit config kind before each parts = do
  p ← parts
  _ ← last_fits config kind before p.0
  Ok (record { each = each; act = p.0; when = p.1 })

-- a statement in its round, that so many are before
unfoldable pub resolved_statement_in : Config → Kind → Round → ℕ → PlainStatement
    → Checked Statement
resolved_statement_in config kind round before plain =
    statement_if_fit config kind before round.each (beside (scope_fits plain)
    (both (resolved_act config kind round plain.act) (resolved_when kind round plain.when)))

-- a statement that so many are before, all of which are right: of the reasons against it the one
-- of the least number
unfoldable pub resolved_statement : Config → Kind → Costs → ℕ → PlainStatement → Checked Statement
resolved_statement config kind costs before plain =
    resolved_statement_in config kind (round_of costs plain.scope) before plain

-- the fault of a type at a place
abbrev pub fault_in_kind : {X : Type 0} → Kind → ℕ → Checked X → Result X RuleFault
fault_in_kind kind place (Ok x) = Ok x
fault_in_kind kind place (Err why) = Err (Wrong kind.name place why)

-- statements that so many are before; the first that is wrong is told by its first byte
unfoldable pub statements_from : Config → Kind → Costs → ℕ → List PlainStatement
    → Result (List Statement) RuleFault
statements_from config kind costs before [] = Ok []
statements_from config kind costs before (plain ∷ plains) = do
  statement ← fault_in_kind kind plain.place (resolved_statement config kind costs before plain)
  statements ← statements_from config kind
      (costs_after config costs statement.each statement.act) (before + 1) plains
  Ok (statement ∷ statements)

-- what a text says, or where its type has a fault of syntax
abbrev pub read_for : Kind → Result (List PlainStatement) TextFault
    → Result (List PlainStatement) RuleFault
read_for kind (Ok plains) = Ok plains
read_for kind (Err (NoSyntax place)) = Err (Wrong kind.name place Syntax)
read_for kind (Err NoMemory) = Err Memory

-- the statements of a type: its text is read whole before the first of them is looked at
unfoldable pub kind_rules : Config → Kind → Result (List Statement) RuleFault
kind_rules config kind = do
  plains ← read_for kind (statements_of kind.rules)
  statements_from config kind (record { once = None; each = None }) 0 plains

-- the statements of each type, in the order of types
unfoldable pub each_kind : Config → List Kind → Result (List (List Statement)) RuleFault
each_kind config [] = Ok []
each_kind config (kind ∷ kinds) = do
  statements ← kind_rules config kind
  others ← each_kind config kinds
  Ok (statements ∷ others)

-- the rules of a configuration
unfoldable pub rules_of : Config → Result (List (List Statement)) RuleFault
rules_of config = each_kind config config.kinds
