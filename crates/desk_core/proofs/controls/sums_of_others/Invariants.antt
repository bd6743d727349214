-- The records of the other documents so far are added, and there are few.
use Rattle.std.proofs.Common.{◌≤◌, ◌*◌, None, [], length, take}
use Rattle.std.specs.List.{flat_map}
use Rattle.row_sums.specs.Sums.{Adds}
use Rattle.desk_core.specs.Controls.{booked_by_other}
use Rattle.desk_core.proofs.controls.sums_of_others.Given as goal

abbrev pub invariant-loop-document : goal.invariant-loop-document
invariant-loop-document l = record {
  adds : Adds None l.resources (flat_map (booked_by_other l.number l.register)
      (take (length l.yielded) l.fn.documents)) [] l.sums;
  few : length (flat_map (booked_by_other l.number l.register)
      (take (length l.yielded) l.fn.documents)) ≤ 5_000 * length l.yielded;
}
