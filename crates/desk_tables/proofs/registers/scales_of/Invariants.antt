use Rattle.std.proofs.Common.{◌≡◌, map, take}
use Rattle.desk_tables.proofs.registers.scales_of.Given as goal

abbrev pub invariant-resources : goal.invariant-resources
invariant-resources l =
    l.scales.items ≡ map (λ r. r.scale) (take l.resource-index l.register.resources)
