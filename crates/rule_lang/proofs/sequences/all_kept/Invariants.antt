use Rattle.std.proofs.Common.{◌≡◌, drop}
use Rattle.rule_lang.specs.Sequences.{all_kept}
use Rattle.rule_lang.proofs.sequences.all_kept.Given as goal

abbrev pub invariant-sequences : goal.invariant-sequences
invariant-sequences l =
    all_kept l.register l.kind l.binds l.reads (drop l.sequence-index l.sequences)
    ≡ all_kept l.register l.kind l.binds l.reads l.sequences
