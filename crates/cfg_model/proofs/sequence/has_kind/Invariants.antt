use Rattle.std.proofs.Common.{◌≡◌, drop}
use Rattle.cfg_model.specs.Sequences.{has_kind}
use Rattle.cfg_model.proofs.sequence.has_kind.Given as goal

abbrev pub invariant-kinds : goal.invariant-kinds
invariant-kinds l =
    has_kind (drop l.kind-index l.kinds) l.name ≡ has_kind l.kinds l.name
