use Rattle.std.proofs.Common.{◌≡◌, ◌++◌, drop}
use Rattle.post_model.specs.Yields.{lot_places}
use Rattle.post_rules.proofs.places.lot_places.Given as goal

-- the places so far and those of the dimensions that are left are all
abbrev pub invariant-dimensions : goal.invariant-dimensions
invariant-dimensions l =
    (l.places.items ++ lot_places l.place (drop l.dimension-index l.dimensions)
    ≡ lot_places 0 l.dimensions)
    × (l.place ≡ l.dimension-index)
