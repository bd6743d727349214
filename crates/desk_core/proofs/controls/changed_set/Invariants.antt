use Rattle.std.proofs.Common.{◌≡◌, map, take}
use Rattle.desk_core.specs.Controls.{change_of}
use Rattle.desk_core.proofs.controls.changed_set.Given as goal

abbrev pub invariant-recs : goal.invariant-recs
invariant-recs l = l.changes ≡ map (change_of l.back l.resource) (take l.rec-index l.set)
