use Rattle.std.proofs.Common.{◌≡◌, drop}
use Rattle.cfg_model.proofs.ForAbove.{result_front}
use Rattle.rule_lang.specs.Rules.{each_kind}
use Rattle.rule_lang.proofs.rules.Rules.read.Given as goal

abbrev pub invariant-kinds : goal.invariant-kinds
invariant-kinds l =
    result_front l.rules.items (each_kind l.config (drop l.kind-index l.config.kinds))
    ≡ each_kind l.config l.config.kinds
