-- Private: what an import comes to behind the opening of its journal.
use Rattle.std.specs.Prelude.{◌⊎◌, ℕ, List, Option, Result, Ok, Err}
use Rattle.reg_io.specs.Disks.{DiskState}
use Rattle.csv_groups.specs.declared.fault.RowFault.{RowFault}
use Rattle.csv_groups.specs.declared.group.Group.{Group}
use Rattle.desk_model.specs.State.{Desk}
use Rattle.desk_core.specs.Histories.{ReplaysTo}
use Rattle.desk_run.specs.declared.fault.JobFault.{JobFault}
use Rattle.desk_run.specs.declared.fault.JobFault.TheVariants.{Memory}
use Rattle.desk_run.specs.Imports.{PostsGroups, StopsImport}
use Rattle.desk_run.specs.Statuses.{row_fault}

-- the import was not begun, and the disk still has the desk
pub record StopsAt (desk : Desk) (before now : Option (List ℕ)) (disk disk_now : DiskState)
    (fault : JobFault) (end : Result (Unit {0}) JobFault) : Type 0 where
  pub stops : StopsImport before now disk disk_now fault end
  pub replays : ReplaysTo desk disk_now.content

-- what a file that reads as this comes to at a desk whose journal is open
abbrev pub ImportsAt : Result (List Group) RowFault → Desk → Option (List ℕ) → Option (List ℕ)
    → ℕ → ℕ → DiskState → DiskState → ℕ → ℕ → Result (Unit {0}) JobFault → Type 0
ImportsAt (Ok groups) desk before now writes writes_now disk disk_now faults faults_now end =
    PostsGroups desk groups before now writes writes_now disk disk_now faults faults_now end
    ⊎ StopsAt desk before now disk disk_now Memory end
ImportsAt (Err fault) desk before now writes writes_now disk disk_now faults faults_now end =
    StopsAt desk before now disk disk_now (row_fault fault) end
    ⊎ StopsAt desk before now disk disk_now Memory end
