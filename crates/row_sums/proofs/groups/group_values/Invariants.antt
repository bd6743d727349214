use Rattle.std.proofs.Common.{◌≡◌, take}
use Rattle.std.specs.Prelude.{slice_get}
use Rattle.std.specs.List.{filter_map}
use Rattle.row_sums.proofs.groups.group_values.Given as goal

abbrev pub invariant-loop-dimension : goal.invariant-loop-dimension
invariant-loop-dimension l =
    l.group.items
    ≡ filter_map (λ d. slice_get l.values d) (take l.dimension-index l.dimensions)
