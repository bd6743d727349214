use Rattle.std.proofs.Common.{◌≡◌, drop}
use Rattle.reg_base.specs.Records.{passes_each}
use Rattle.row_sums.proofs.filters.passes_each.Given as goal

abbrev pub invariant-loop-index : goal.invariant-loop-index
invariant-loop-index l =
    passes_each (drop l.index l.lists) (drop l.index l.values) ≡ passes_each l.lists l.values
