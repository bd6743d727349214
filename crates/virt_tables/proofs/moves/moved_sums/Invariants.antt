-- The records of the documents so far are added.
use Rattle.std.proofs.Common.{[], length, take}
use Rattle.std.specs.List.{flat_map}
use Rattle.reg_base.specs.Records.{booked_by}
use Rattle.virt_tables.specs.Columns.{AddsMoves}
use Rattle.virt_tables.proofs.moves.moved_sums.Given as goal

abbrev pub invariant-loop-document : goal.invariant-loop-document
invariant-loop-document l = AddsMoves l.moves
    (flat_map (booked_by l.moves.ask.now.register) (take (length l.yielded) l.fn.documents))
    [] l.sums
