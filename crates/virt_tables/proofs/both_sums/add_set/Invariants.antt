-- What the records so far bring is added.
use Rattle.std.proofs.Common.{map, take}
use Rattle.row_sums.specs.Sums.{booked}
use Rattle.virt_tables.specs.Both.{AddsBoth}
use Rattle.virt_tables.proofs.both_sums.add_set.Given as goal

abbrev pub invariant-loop-rec : goal.invariant-loop-rec
invariant-loop-rec l =
    AddsBoth l.moves l.ends (map (booked l.number) (take l.rec-index l.set)) l.initial.sums l.sums
