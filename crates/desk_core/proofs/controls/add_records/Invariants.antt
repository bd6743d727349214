-- The records so far are added.
use Rattle.std.proofs.Common.{ℕ, None, map, take}
use Rattle.row_sums.specs.Sums.{booked, Adds}
use Rattle.desk_core.proofs.controls.add_records.Given as goal

abbrev pub invariant-loop-rec : goal.invariant-loop-rec
invariant-loop-rec l = (number : ℕ)
    → Adds None l.resources (map (booked number) (take l.rec-index l.set)) l.initial.sums l.sums
