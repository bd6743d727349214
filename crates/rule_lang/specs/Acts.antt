-- What the acts of a statement are in a configuration and a document type.
use Rattle.cfg_model.specs.declared.config.Config.{Config}
use Rattle.cfg_model.specs.declared.kind.Kind.{Kind}
use Rattle.rule_text.specs.declared.plain.PlainAct.{PlainAct}
use Rattle.rule_text.specs.declared.plain.PlainAct.TheVariants.{Make as PlainMake}
use Rattle.rule_text.specs.declared.plain.PlainAct.TheVariants.{WriteOff as PlainWriteOff}
use Rattle.rule_text.specs.declared.plain.PlainAct.TheVariants.{Require as PlainRequire}
use Rattle.rule_text.specs.declared.plain.PlainAct.TheVariants.{Control as PlainControl}
use Rattle.rule_text.specs.declared.plain.PlainAct.TheVariants.{Entry as PlainEntry}
use Rattle.rule_lang.specs.Least.{Checked}
use Rattle.rule_lang.specs.declared.terms.Round.{Round}
use Rattle.rule_lang.specs.declared.statement.Act.{Act}
use Rattle.rule_lang.specs.Makes.{resolved_make}
use Rattle.rule_lang.specs.WriteOffs.{resolved_write_off}
use Rattle.rule_lang.specs.Requirements.{resolved_require, resolved_control}
use Rattle.rule_lang.specs.Entries.{resolved_entry}

-- an act
unfoldable pub resolved_act : Config → Kind → Round → PlainAct → Checked Act
resolved_act config kind round (PlainMake verb target sums) = resolved_make config kind round verb
    target sums
resolved_act config kind round (PlainWriteOff fifo target wanted cost) =
    resolved_write_off config kind round fifo target wanted cost
resolved_act config kind round (PlainRequire target resource least code) =
    resolved_require config kind round target resource least code
resolved_act config kind round (PlainControl register resource) = resolved_control config register
    resource
resolved_act config kind round (PlainEntry ledger sides amount) =
    resolved_entry config kind round ledger sides amount
