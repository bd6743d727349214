-- What importing a file of documents comes to.
use Rattle.std.specs.Prelude.{◌≡◌, ◌⊎◌, ℕ, false, List, [], Option, Result, Ok, Err}
use Rattle.std.specs.Io.KnownBytes.{Appends}
use Rattle.reg_io.specs.Counts.{AppendsPrefix, Rose}
use Rattle.reg_io.specs.Disks.{DiskState}
use Rattle.post_journal.specs.Journals.{Grows}
use Rattle.csv_groups.specs.declared.fault.RowFault.{RowFault}
use Rattle.csv_groups.specs.declared.group.Group.{Group}
use Rattle.csv_import.specs.ImportEnds.{ImportEnds}
use Rattle.desk_core.specs.DeskViews.{DeskView}
use Rattle.desk_core.specs.declared.desk.StepEnd.{StepEnd}
use Rattle.desk_model.specs.State.{Desk}
use Rattle.desk_run.specs.declared.fault.JobFault.{JobFault}
use Rattle.desk_run.specs.declared.fault.JobFault.TheVariants.{Memory, Write}
use Rattle.desk_run.specs.Statuses.{row_fault, step_fault}

-- an end of posting, as one of a job
abbrev pub end_of_posting : Result (Unit {0}) StepEnd → Result (Unit {0}) JobFault
end_of_posting (Ok done) = Ok tt
end_of_posting (Err end) = Err (step_fault end)

-- a desk that goes on
abbrev pub going_desk : Desk → DeskView
going_desk desk = record { desk = desk; stopped = false }

-- groups were posted, up to an end, with a text; it was written whole, or a front of it where a
-- write failed
pub record PostsGroups (desk : Desk) (groups : List Group) (before now : Option (List ℕ))
    (writes writes_now : ℕ) (disk disk_now : DiskState) (faults faults_now : ℕ)
    (end : Result (Unit {0}) JobFault) : Type 0 where
  pub after : DeskView
  pub text : List ℕ
  pub posting_end : Result (Unit {0}) StepEnd
  pub posts : ImportEnds (going_desk desk) after groups [] text disk disk_now faults faults_now
      posting_end
  pub written : (Appends before now text × (end ≡ end_of_posting posting_end))
      ⊎ (AppendsPrefix before now text × Rose writes writes_now × (end ≡ Err Write))

-- nothing was written, no entry of the journal came or went, and this is why
pub record StopsImport (before now : Option (List ℕ)) (disk disk_now : DiskState)
    (fault : JobFault) (end : Result (Unit {0}) JobFault) : Type 0 where
  pub out : now ≡ before
  pub grows : Grows disk disk_now [] []
  pub end_is : end ≡ Err fault

-- what a file that reads as this comes to: its groups are posted, or its fault is told; where
-- memory is refused before, nothing is done
abbrev pub Imports : Result (List Group) RowFault → Desk → Option (List ℕ) → Option (List ℕ) → ℕ → ℕ
    → DiskState → DiskState → ℕ → ℕ → Result (Unit {0}) JobFault → Type 0
Imports (Ok groups) desk before now writes writes_now disk disk_now faults faults_now end =
    PostsGroups desk groups before now writes writes_now disk disk_now faults faults_now end
    ⊎ StopsImport before now disk disk_now Memory end
Imports (Err fault) desk before now writes writes_now disk disk_now faults faults_now end =
    StopsImport before now disk disk_now (row_fault fault) end
    ⊎ StopsImport before now disk disk_now Memory end
