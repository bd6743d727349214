-- What the records of the documents so far bring is added.
use Rattle.std.proofs.Common.{[], length, take}
use Rattle.std.specs.List.{flat_map}
use Rattle.reg_base.specs.Records.{booked_by}
use Rattle.virt_tables.specs.Both.{AddsBoth}
use Rattle.virt_tables.proofs.both_sums.both_sums.Given as goal

abbrev pub invariant-loop-document : goal.invariant-loop-document
invariant-loop-document l = AddsBoth l.moves l.ends
    (flat_map (booked_by l.moves.ask.now.register) (take (length l.yielded) l.fn.documents))
    [] l.sums
