use Rattle.std.proofs.Common.{◌≡◌, drop}
use Rattle.cfg_model.specs.Walk.{all_known}
use Rattle.cfg_model.specs.Sequences.{has_register}
use Rattle.cfg_model.proofs.sequence.all_registers.Given as goal

abbrev pub invariant-names : goal.invariant-names
invariant-names l =
    all_known (has_register l.registers) (drop l.name-index l.names)
    ≡ all_known (has_register l.registers) l.names
