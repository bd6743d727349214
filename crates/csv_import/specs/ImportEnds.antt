-- How posting the groups of a file ends, and what is left then.
use Rattle.std.specs.Prelude.{◌≡◌, ℕ, true, false, List, [], ◌∷◌, ◌++◌, Result, Ok, Err}
use Rattle.reg_io.specs.Counts.{Rose}
use Rattle.reg_io.specs.Disks.{DiskState}
use Rattle.post_journal.specs.Journals.{Grows}
use Rattle.desk_core.specs.DeskViews.{DeskView}
use Rattle.desk_core.specs.Histories.{ReplaysTo, ReplaysToEither}
use Rattle.desk_core.specs.declared.desk.StepEnd.{StepEnd}
use Rattle.desk_core.specs.declared.desk.StepEnd.TheVariants.{Memory, DiskFault, Closed}
use Rattle.csv_groups.specs.declared.group.Group.{Group}
use Rattle.csv_import.specs.Imports.{posting_of, desk_behind, group_lines, group_entries}
use Rattle.csv_import.specs.Imports.{import_text}

-- all groups were posted, and all is written of them
pub record PostsAll (old new : DeskView) (groups : List Group) (out out_now : List ℕ)
    (disk disk_now : DiskState) : Type 0 where
  pub going : old.stopped ≡ false
  pub text : out_now ≡ out ++ import_text old.desk groups
  pub new_is : new ≡ record { desk = desk_behind old.desk groups; stopped = false }
  pub grows : Grows disk disk_now (group_entries old.desk groups) []
  pub replays : ReplaysTo new.desk disk_now.content

-- memory was refused behind these first groups, of which the lines are written
pub record PostsFirst (old new : DeskView) (groups : List Group) (out out_now : List ℕ)
    (disk disk_now : DiskState) : Type 0 where
  pub going : old.stopped ≡ false
  pub first : List Group
  pub rest : List Group
  pub split : groups ≡ first ++ rest
  pub text : out_now ≡ out ++ group_lines old.desk first
  pub new_is : new ≡ record { desk = desk_behind old.desk first; stopped = false }
  pub grows : Grows disk disk_now (group_entries old.desk first) []
  pub replays : ReplaysTo new.desk disk_now.content

-- the disk failed behind these first groups, of which the lines are written, in the step of the
-- next one, whose entry may be on the disk or not
pub record BreaksOff (old new : DeskView) (groups : List Group) (out out_now : List ℕ)
    (disk disk_now : DiskState) (faults faults_now : ℕ) : Type 0 where
  pub going : old.stopped ≡ false
  pub first : List Group
  pub group : Group
  pub rest : List Group
  pub split : groups ≡ first ++ group ∷ rest
  pub text : out_now ≡ out ++ group_lines old.desk first
  pub new_is : new ≡ record { desk = desk_behind old.desk first; stopped = true }
  pub grows : Grows disk disk_now (group_entries old.desk first)
      (posting_of (desk_behind old.desk first) group).entries
  pub replays : ReplaysToEither new.desk (posting_of new.desk group).desk disk_now.content
  pub cause : Rose faults faults_now

-- what posting groups comes to by how it ends, from a text that is written to the text then
abbrev pub ImportEnds : DeskView → DeskView → List Group → List ℕ → List ℕ → DiskState → DiskState
    → ℕ → ℕ → Result (Unit {0}) StepEnd → Type 0
ImportEnds old new groups out out_now disk disk_now faults faults_now (Ok done) =
    PostsAll old new groups out out_now disk disk_now
ImportEnds old new groups out out_now disk disk_now faults faults_now (Err Memory) =
    PostsFirst old new groups out out_now disk disk_now
ImportEnds old new groups out out_now disk disk_now faults faults_now (Err DiskFault) =
    BreaksOff old new groups out out_now disk disk_now faults faults_now
ImportEnds old new groups out out_now disk disk_now faults faults_now (Err Closed) =
    (old.stopped ≡ true) × (new ≡ old) × (out_now ≡ out)
