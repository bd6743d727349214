-- The scales of the latest write-offs, by scope.
use Rattle.std.specs.Prelude.{ℕ, Bool, true, false, Option, Some, None, option_and_then, option_map}
use Rattle.std.specs.Prelude.{slice_get}
use Rattle.cfg_model.specs.declared.config.Config.{Config}
use Rattle.cfg_model.specs.declared.register.Register.{Register}
use Rattle.rule_text.specs.declared.plain.Scope.{Scope}
use Rattle.rule_text.specs.declared.plain.Scope.TheVariants.{Once, EachLine}
use Rattle.rule_lang.specs.declared.costs.Costs.{Costs}
use Rattle.rule_lang.specs.declared.terms.Round.{Round}
use Rattle.rule_lang.specs.declared.statement.Act.{Act}
use Rattle.rule_lang.specs.declared.statement.Act.TheVariants.{Make, WriteOff, Require, Control}
use Rattle.rule_lang.specs.declared.statement.Act.TheVariants.{Entry}

-- a statement without a scope runs once
abbrev pub is_each : Option Scope → Bool
is_each None = false
is_each (Some Once) = false
is_each (Some EachLine) = true

-- the round that a statement runs in, with the scale of its latest write-off
unfoldable pub round_of : Costs → Option Scope → Round
round_of costs scope = by_each (is_each scope)
  where
    by_each : Bool → Round
    by_each true = record { each = true; cost = costs.each }
    by_each false = record { each = false; cost = costs.once }

-- the scale of the resource at a place
abbrev pub resource_scale : Register → ℕ → Option ℕ
resource_scale register place = option_map (λ r. r.scale) (slice_get register.resources place)

-- the scale of a resource of a register, each at its place
unfoldable pub scale_at : Config → ℕ → ℕ → Option ℕ
scale_at config register resource =
    option_and_then (λ r. resource_scale r resource) (slice_get config.registers register)

-- the scale of the latest write-off of one scope in place of what was there
abbrev pub with_scale : Costs → Bool → Option ℕ → Costs
with_scale costs true scale = record { once = costs.once; each = scale }
with_scale costs false scale = record { once = scale; each = costs.each }

-- the scales of the latest write-offs behind a statement
unfoldable pub costs_after : Config → Costs → Bool → Act → Costs
costs_after config costs each (WriteOff fifo register binds quantity wanted amount) =
    with_scale costs each (scale_at config register amount)
costs_after config costs each (Make verb register binds sums) = costs
costs_after config costs each (Require register binds resource least code) = costs
costs_after config costs each (Control register resource) = costs
costs_after config costs each (Entry ledger debit credit amount) = costs
