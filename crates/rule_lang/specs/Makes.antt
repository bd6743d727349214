-- Receipts, expenses and turns.
use Rattle.std.specs.Prelude.{ℕ, Bool, false, not, List, Ok}
use Rattle.reg_base.specs.Results.{◌>>=◌, unless}
use Rattle.cfg_model.specs.declared.config.Config.{Config}
use Rattle.cfg_model.specs.declared.kind.Kind.{Kind}
use Rattle.cfg_model.specs.declared.register.Register.{Register}
use Rattle.rule_text.specs.declared.plain.PlainAmount.{PlainAmount}
use Rattle.rule_text.specs.declared.plain.PlainBind.{PlainBind}
use Rattle.rule_text.specs.declared.plain.Target.{Target}
use Rattle.rule_text.specs.declared.plain.Verb.{Verb}
use Rattle.rule_text.specs.declared.plain.Verb.TheVariants.{Receipt, Expense, Turn}
use Rattle.rule_lang.specs.Least.{Checked, both, beside, each_or_least}
use Rattle.rule_lang.specs.Fields.{place_of, item_at}
use Rattle.rule_lang.specs.declared.fault.RuleWhy.TheVariants.{Unbound, TwiceBound, WrongRegister}
use Rattle.rule_lang.specs.declared.terms.Round.{Round}
use Rattle.rule_lang.specs.declared.statement.Act.{Act}
use Rattle.rule_lang.specs.declared.statement.Act.TheVariants.{Make}
use Rattle.rule_lang.specs.declared.statement.Bind.{Bind}
use Rattle.rule_lang.specs.declared.statement.Sum.{Sum}
use Rattle.rule_lang.specs.Binds.{resolved_bind, resolved_amount, binds_each_dimension, none_twice}

-- receipts and expenses are for registers with balances, turns for those without
abbrev pub suits : Verb → Bool → Bool
suits Receipt balance = balance
suits Expense balance = balance
suits Turn balance = not balance

-- each dimension has a value, no dimension and no resource stands twice, and the verb suits
unfoldable pub make_fits : Verb → Register → List PlainBind → List PlainAmount
    → Checked (Unit {0})
make_fits verb register binds sums = do
  _ ← unless (binds_each_dimension false register binds) Unbound
  _ ← unless (none_twice (λ b. b.dimension) binds) TwiceBound
  _ ← unless (none_twice (λ a. a.resource) sums) TwiceBound
  unless (suits verb register.balance) WrongRegister

-- a record of its parts
unfoldable pub make_act : Verb → ℕ → Checked (List Bind × List (ℕ × Sum)) → Checked Act
make_act verb place parts = do
  p ← parts
  Ok (Make verb place p.0 p.1)

-- a record of the register at the place
unfoldable pub resolved_record : Kind → Round → ℕ → Register → Verb → List PlainBind
    → List PlainAmount
    → Checked Act
resolved_record kind round place register verb binds sums =
    make_act verb place (beside (make_fits verb register binds sums)
    (both (each_or_least (resolved_bind kind round register) binds)
    (each_or_least (resolved_amount kind round register) sums)))

-- receipt, expense, turn
unfoldable pub resolved_make : Config → Kind → Round → Verb → Target → List PlainAmount
    → Checked Act
resolved_make config kind round verb target sums = do
  place ← place_of (λ r. r.name) config.registers target.register
  register ← item_at config.registers place
  resolved_record kind round place register verb target.binds sums
