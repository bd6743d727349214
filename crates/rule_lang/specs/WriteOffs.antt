-- Write-offs, by the order of lots or by the average.
use Rattle.std.specs.Prelude.{ℕ, Bool, true, false, not, ◌&&◌, List, Ok}
use Rattle.std.specs.List.{list_any}
use Rattle.reg_base.specs.Results.{◌>>=◌, unless}
use Rattle.cfg_model.specs.declared.config.Config.{Config}
use Rattle.cfg_model.specs.declared.kind.Kind.{Kind}
use Rattle.cfg_model.specs.declared.register.Register.{Register}
use Rattle.rule_text.specs.declared.token.Spelling.{Spelling}
use Rattle.rule_text.specs.declared.plain.PlainAmount.{PlainAmount}
use Rattle.rule_text.specs.declared.plain.PlainBind.{PlainBind}
use Rattle.rule_text.specs.declared.plain.Target.{Target}
use Rattle.rule_lang.specs.Least.{Checked, both, beside, each_or_least}
use Rattle.rule_lang.specs.Fields.{place_of, item_at}
use Rattle.rule_lang.specs.declared.fault.RuleWhy.TheVariants.{Unbound, TwiceBound, WrongRegister}
use Rattle.rule_lang.specs.declared.terms.Round.{Round}
use Rattle.rule_lang.specs.declared.statement.Act.{Act}
use Rattle.rule_lang.specs.declared.statement.Act.TheVariants.{WriteOff}
use Rattle.rule_lang.specs.declared.statement.Bind.{Bind}
use Rattle.rule_lang.specs.declared.statement.Sum.{Sum}
use Rattle.rule_lang.specs.Binds.{resolved_bind, resolved_amount, is_bound, binds_each_dimension}
use Rattle.rule_lang.specs.Binds.{same_name, none_twice}

-- whether a lot has a value
abbrev pub lot_bound : Register → List PlainBind → Bool
lot_bound register binds = list_any (λ d. d.lot && is_bound binds d) register.dimensions

-- by the order of lots there is a lot, and it has no value
abbrev pub order_fits : Bool → Register → List PlainBind → Bool
order_fits false register binds = true
order_fits true register binds =
    list_any (λ d. d.lot) register.dimensions && not (lot_bound register binds)

-- each dimension has a value but the lot in `fifo`, no dimension stands twice, the quantity is
-- not the amount, and the register has balances, and lots that are free for `fifo`
unfoldable pub write_off_fits : Bool → Register → List PlainBind → Spelling → Spelling
    → Checked (Unit {0})
write_off_fits fifo register binds quantity cost = do
  _ ← unless (binds_each_dimension fifo register binds) Unbound
  _ ← unless (none_twice (λ b. b.dimension) binds) TwiceBound
  _ ← unless (not (same_name quantity cost)) TwiceBound
  _ ← unless register.balance WrongRegister
  unless (order_fits fifo register binds) WrongRegister

-- a write-off of its parts
unfoldable pub write_off_act : Bool → ℕ → ℕ → Checked (List Bind × (ℕ × Sum)) → Checked Act
write_off_act fifo place amount parts = do
  p ← parts
  Ok (WriteOff fifo place p.0 p.1.0 p.1.1 amount)

-- a write-off from the register at the place
unfoldable pub resolved_write_off_from : Kind → Round → ℕ → Register → Bool → List PlainBind
    → PlainAmount
    → Spelling → Checked Act
resolved_write_off_from kind round place register fifo binds wanted cost = do
  amount ← place_of (λ r. r.name) register.resources cost
  write_off_act fifo place amount
      (beside (write_off_fits fifo register binds wanted.resource cost)
      (both (each_or_least (resolved_bind kind round register) binds)
      (resolved_amount kind round register wanted)))

-- fifo, average
unfoldable pub resolved_write_off : Config → Kind → Round → Bool → Target → PlainAmount → Spelling
    → Checked Act
resolved_write_off config kind round fifo target wanted cost = do
  place ← place_of (λ r. r.name) config.registers target.register
  register ← item_at config.registers place
  resolved_write_off_from kind round place register fifo target.binds wanted cost
