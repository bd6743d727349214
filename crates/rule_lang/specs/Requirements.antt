-- What is required of a register, and what is controlled.
use Rattle.std.specs.Prelude.{ℕ, List, Some, Ok}
use Rattle.reg_base.specs.Results.{◌>>=◌, unless}
use Rattle.cfg_model.specs.declared.config.Config.{Config}
use Rattle.cfg_model.specs.declared.kind.Kind.{Kind}
use Rattle.cfg_model.specs.declared.register.Register.{Register}
use Rattle.rule_text.specs.declared.token.Spelling.{Spelling}
use Rattle.rule_text.specs.declared.plain.PlainBind.{PlainBind}
use Rattle.rule_text.specs.declared.plain.PlainTerm.{PlainTerm}
use Rattle.rule_text.specs.declared.plain.Target.{Target}
use Rattle.rule_lang.specs.Least.{Checked, both, beside, each_or_least}
use Rattle.rule_lang.specs.Fields.{place_of, item_at}
use Rattle.rule_lang.specs.Terms.{resolved_sum}
use Rattle.rule_lang.specs.declared.fault.RuleWhy.TheVariants.{TwiceBound, WrongRegister}
use Rattle.rule_lang.specs.declared.terms.Round.{Round}
use Rattle.rule_lang.specs.declared.statement.Act.{Act}
use Rattle.rule_lang.specs.declared.statement.Act.TheVariants.{Require, Control}
use Rattle.rule_lang.specs.declared.statement.Bind.{Bind}
use Rattle.rule_lang.specs.declared.statement.Sum.{Sum}
use Rattle.rule_lang.specs.Binds.{resolved_bind, none_twice}

-- no dimension stands twice, and the register has balances
unfoldable pub require_fits : Register → List PlainBind → Checked (Unit {0})
require_fits register binds = do
  _ ← unless (none_twice (λ b. b.dimension) binds) TwiceBound
  unless register.balance WrongRegister

-- a requirement of its parts
unfoldable pub require_act : ℕ → ℕ → List ℕ → Checked (List Bind × Sum) → Checked Act
require_act place at code parts = do
  p ← parts
  Ok (Require place p.0 at p.1 code)

-- what is required of the register at the place, of a resource at its place and scale
unfoldable pub resolved_requirement : Kind → Round → ℕ → Register → List PlainBind → ℕ → ℕ
    → List PlainTerm
    → List ℕ → Checked Act
resolved_requirement kind round place register binds at scale least code =
    require_act place at code (beside (require_fits register binds)
    (both (each_or_least (resolved_bind kind round register) binds)
    (resolved_sum kind round (Some scale) least)))

-- require
unfoldable pub resolved_require : Config → Kind → Round → Target → Spelling → List PlainTerm
    → List ℕ
    → Checked Act
resolved_require config kind round target word least code = do
  place ← place_of (λ r. r.name) config.registers target.register
  register ← item_at config.registers place
  at ← place_of (λ r. r.name) register.resources word
  resource ← item_at register.resources at
  resolved_requirement kind round place register target.binds at resource.scale least code

-- control
unfoldable pub resolved_control : Config → Spelling → Spelling → Checked Act
resolved_control config register resource = do
  place ← place_of (λ r. r.name) config.registers register
  of ← item_at config.registers place
  at ← place_of (λ r. r.name) of.resources resource
  _ ← unless of.balance WrongRegister
  Ok (Control place at)
