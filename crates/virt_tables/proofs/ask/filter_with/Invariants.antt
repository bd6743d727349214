use Rattle.std.proofs.Common.{◌≡◌, map, take}
use Rattle.cfg_model.specs.Asks.{values_under}
use Rattle.virt_tables.proofs.ask.filter_with.Given as goal

abbrev pub invariant-dimensions : goal.invariant-dimensions
invariant-dimensions l = l.found.items
    ≡ map (λ d. values_under l.lists d.name) (take l.dimension-index l.register.dimensions)
