use Rattle.std.proofs.Common.{◌≡◌, take}
use Rattle.std.specs.List.{filter_map}
use Rattle.cfg_model.specs.Asks.{dimension_place}
use Rattle.virt_tables.proofs.ask.places_in.Given as goal

abbrev pub invariant-loop-name : goal.invariant-loop-name
invariant-loop-name l = l.places.items
    ≡ filter_map (λ name. dimension_place name l.dimensions) (take l.name-index l.names)
