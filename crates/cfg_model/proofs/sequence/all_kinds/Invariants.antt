use Rattle.std.proofs.Common.{◌≡◌, drop}
use Rattle.cfg_model.specs.Walk.{all_known}
use Rattle.cfg_model.specs.Sequences.{has_kind}
use Rattle.cfg_model.proofs.sequence.all_kinds.Given as goal

abbrev pub invariant-names : goal.invariant-names
invariant-names l =
    all_known (has_kind l.kinds) (drop l.name-index l.names) ≡ all_known (has_kind l.kinds) l.names
