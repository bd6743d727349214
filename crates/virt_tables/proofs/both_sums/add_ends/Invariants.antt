-- Nothing is added at the ends so far.
use Rattle.std.proofs.Common.{take}
use Rattle.table_sums.specs.Additions.{Adds}
use Rattle.virt_tables.specs.Both.{both_width, ends_at}
use Rattle.virt_tables.proofs.both_sums.add_ends.Given as goal

abbrev pub invariant-loop-unit : goal.invariant-loop-unit
invariant-loop-unit l = Adds (both_width l.moves.resources)
    (ends_at l.moves.resources l.moves.ask.now.group (take l.unit-index l.ends) l.rec)
    l.initial.sums l.sums
