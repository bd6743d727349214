-- Private: how one group was posted, and the groups so far.
use Rattle.std.specs.Prelude.{◌≡◌, ℕ, ◌+◌, codes, false, None, List, [], ◌∷◌, ◌++◌, filter, length}
use Rattle.std.specs.Prelude.{Result, Ok, Err}
use Rattle.reg_base.specs.Numbers.{number_text}
use Rattle.reg_io.specs.Disks.{DiskState}
use Rattle.post_journal.specs.Journals.{Grows}
use Rattle.desk_words.specs.declared.request.Request.{Request}
use Rattle.desk_model.specs.State.{Desk}
use Rattle.desk_core.specs.DeskViews.{DeskView}
use Rattle.desk_core.specs.Histories.{Makes, Fails}
use Rattle.desk_core.specs.declared.desk.StepEnd.{StepEnd}
use Rattle.desk_core.specs.declared.desk.StepEnd.TheVariants.{Memory, DiskFault, Closed}
use Rattle.csv_groups.specs.declared.group.Group.{Group}
use Rattle.csv_import.specs.Imports.{GroupEvent, group_comes, desk_behind, group_lines}
use Rattle.csv_import.specs.Imports.{group_entries, outcomes, is_posted, is_there, is_refused}
use Rattle.csv_import.specs.ImportEnds.{ImportEnds}
use Rattle.csv_import.specs.declared.counts.Counts.{Counts}
use Rattle.csv_import.specs.declared.outcome.Outcome.{Outcome}
use Rattle.csv_import.specs.declared.outcome.Outcome.TheVariants.{Posted, There, Refused}

-- ---- counts

-- the counts are those of these outcomes
pub record AreCounts (counts : Counts) (all : List Outcome) : Type 0 where
  pub posted : counts.posted ≡ length (filter is_posted all)
  pub there : counts.there ≡ length (filter is_there all)
  pub refused : counts.refused ≡ length (filter is_refused all)

-- the counts with an outcome more
abbrev pub counted : Counts → Outcome → Counts
counted counts (Posted doc) = record counts { posted = counts.posted + 1 }
counted counts (There doc) = record counts { there = counts.there + 1 }
counted counts (Refused code) = record counts { refused = counts.refused + 1 }

-- the last line, by the counts
abbrev pub counts_text : Counts → List ℕ
counts_text counts = codes "posted " ++ (number_text counts.posted
    ++ (codes " there " ++ (number_text counts.there
    ++ (codes " refused " ++ (number_text counts.refused ++ 10 ∷ [])))))

-- ---- one group

-- what a group comes to whose request is sent; its key says nothing then
abbrev pub sent_event : Desk → Request → GroupEvent
sent_event desk request = group_comes None desk (record { key = []; request = request })

-- what posting a group comes to by how it ends, at a desk that goes on
abbrev pub GroupEnds : GroupEvent → DeskView → DeskView → DiskState → DiskState → ℕ → ℕ
    → Result Outcome StepEnd → Type 0
GroupEnds event old new disk disk_now faults faults_now (Ok outcome) =
    (outcome ≡ event.outcome) × Makes event.entries event.desk old new disk disk_now
GroupEnds event old new disk disk_now faults faults_now (Err Memory) =
    (new ≡ old) × Grows disk disk_now [] []
GroupEnds event old new disk disk_now faults faults_now (Err DiskFault) =
    Fails event.entries event.desk old new disk disk_now faults faults_now
GroupEnds event old new disk disk_now faults faults_now (Err Closed) = ⊥

-- ---- groups, one after another

-- the groups so far: all but those that are left were posted, and their lines are written
pub record ArePosted (old now : DeskView) (groups left : List Group) (out out_now : List ℕ)
    (counts : Counts) (disk disk_now : DiskState) : Type 0 where
  pub going : old.stopped ≡ false
  pub first : List Group
  pub split : groups ≡ first ++ left
  pub text : out_now ≡ out ++ group_lines old.desk first
  pub counts_are : AreCounts counts (outcomes old.desk first)
  pub now_is : now ≡ record { desk = desk_behind old.desk first; stopped = false }
  pub grows : Grows disk disk_now (group_entries old.desk first) []

-- what posting each group comes to by how it ends, before the last line is written
abbrev pub EachEnds : DeskView → DeskView → List Group → List ℕ → List ℕ → DiskState → DiskState
    → ℕ → ℕ → Result Counts StepEnd → Type 0
EachEnds old new groups out out_now disk disk_now faults faults_now (Ok counts) =
    ArePosted old new groups [] out out_now counts disk disk_now
EachEnds old new groups out out_now disk disk_now faults faults_now (Err end) =
    ImportEnds old new groups out out_now disk disk_now faults faults_now (Err end)
