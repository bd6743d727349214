-- None of the combinations so far fails.
use Rattle.std.proofs.Common.{◌≡◌, ℕ, ◌<◌, None, List, drop}
use Rattle.reg_base.specs.Records.{Booked}
use Rattle.row_sums.specs.Sums.{groups_in, AddsUp}
use Rattle.desk_model.specs.Controls.{first_below}
use Rattle.desk_core.specs.Controls.{AreChanges}
use Rattle.desk_core.proofs.controls.first_below.Given as goal

abbrev pub invariant-loop-row : goal.invariant-loop-row
invariant-loop-row l = (resources : ℕ) (before after all : List Booked)
    → AddsUp None resources all l.sums → l.place < resources
    → AreChanges l.place before after l.changes
    → first_below l.register l.resource l.place before after all (groups_in l.changes)
    ≡ first_below l.register l.resource l.place before after all
    (groups_in (drop l.row-index l.changes))
