-- The records so far are added.
use Rattle.std.proofs.Common.{map, take}
use Rattle.row_sums.specs.Sums.{booked}
use Rattle.virt_tables.specs.Columns.{AddsMoves}
use Rattle.virt_tables.proofs.moves.add_set.Given as goal

abbrev pub invariant-loop-rec : goal.invariant-loop-rec
invariant-loop-rec l =
    AddsMoves l.moves (map (booked l.number) (take l.rec-index l.set)) l.initial.sums l.sums
