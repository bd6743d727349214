use Rattle.std.proofs.Common.{◌≡◌, drop}
use Rattle.cfg_model.specs.Sequences.{has_register}
use Rattle.cfg_model.proofs.walk.has_register.Given as goal

abbrev pub invariant-registers : goal.invariant-registers
invariant-registers l =
    has_register (drop l.register-index l.registers) l.name ≡ has_register l.registers l.name
