-- Entries of a ledger.
use Rattle.std.specs.Prelude.{ℕ, List, Option, Some, None, Ok}
use Rattle.reg_base.specs.Results.{◌>>=◌}
use Rattle.cfg_model.specs.declared.config.Config.{Config}
use Rattle.cfg_model.specs.declared.kind.Kind.{Kind}
use Rattle.rule_text.specs.declared.token.Spelling.{Spelling}
use Rattle.rule_text.specs.declared.plain.PlainSide.{PlainSide}
use Rattle.rule_text.specs.declared.plain.PlainSides.{PlainSides}
use Rattle.rule_text.specs.declared.plain.PlainTerm.{PlainTerm}
use Rattle.rule_lang.specs.Least.{Checked, both, each_or_least}
use Rattle.rule_lang.specs.Fields.{place_of, item_at}
use Rattle.rule_lang.specs.Terms.{resolved_code, resolved_sum}
use Rattle.rule_lang.specs.declared.terms.Round.{Round}
use Rattle.rule_lang.specs.declared.statement.Act.{Act}
use Rattle.rule_lang.specs.declared.statement.Act.TheVariants.{Entry}
use Rattle.rule_lang.specs.declared.statement.Place.{Place}
use Rattle.rule_lang.specs.declared.statement.Sum.{Sum}

-- an account with its extras
unfoldable pub resolved_account : Kind → Round → PlainSide → Checked Place
resolved_account kind round side = do
  p ← both (resolved_code kind round side.account) (each_or_least (resolved_code kind round)
      side.extras)
  Ok (record { account = p.0; extras = p.1 })

-- a side, which may be absent
unfoldable pub resolved_side : Kind → Round → Option PlainSide → Checked (Option Place)
resolved_side kind round None = Ok None
resolved_side kind round (Some side) = do
  place ← resolved_account kind round side
  Ok (Some place)

-- an entry of its parts
unfoldable pub entry_act : ℕ → Checked ((Option Place × Option Place) × Sum) → Checked Act
entry_act place parts = do
  p ← parts
  Ok (Entry place p.0.0 p.0.1 p.1)

-- entry
unfoldable pub resolved_entry : Config → Kind → Round → Spelling → PlainSides → List PlainTerm
    → Checked Act
resolved_entry config kind round ledger sides amount = do
  place ← place_of (λ c. c.name) config.ledgers ledger
  chart ← item_at config.ledgers place
  entry_act place
      (both (both (resolved_side kind round sides.debit) (resolved_side kind round sides.credit))
      (resolved_sum kind round (Some chart.scale) amount))
