use Rattle.std.proofs.Common.{◌≡◌, drop}
use Rattle.cfg_model.specs.Walk.{all_known}
use Rattle.cfg_model.specs.Sequences.{is_shared}
use Rattle.cfg_model.proofs.sequence.all_shared.Given as goal

abbrev pub invariant-dimensions : goal.invariant-dimensions
invariant-dimensions l =
    let is_known = is_shared l.shared.config.now.registers l.shared.config.now.kinds
    l.shared.kinds.now l.shared.registers.now in
    all_known is_known (drop l.dimension-index l.dimensions) ≡ all_known is_known l.dimensions
