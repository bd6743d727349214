use Rattle.std.proofs.Common.{◌≡◌, drop}
use Rattle.rule_lang.specs.Sequences.{binds_each_head}
use Rattle.rule_lang.proofs.sequences.binds_each_head.Given as goal

abbrev pub invariant-names : goal.invariant-names
invariant-names l =
    binds_each_head l.register l.kind l.binds (drop l.name-index l.names)
    ≡ binds_each_head l.register l.kind l.binds l.names
