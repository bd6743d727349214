-- What a top call comes to: its cause by the words, the files, the journal and what is asked.
use Rattle.std.specs.Prelude.{◌≡◌, ◌⊎◌, ⊤, ℕ, List, length, Option, Some, None}
use Rattle.std.specs.Prelude.{IfSome, Result, Ok, Err}
use Rattle.std.specs.Io.KnownBytes.{Appends}
use Rattle.reg_io.specs.Counts.{AppendsPrefix, Rose}
use Rattle.reg_io.specs.Disks.{DiskState}
use Rattle.post_journal.specs.Images.{bad_entry, image_of, not_a_journal}
use Rattle.csv_groups.specs.Files.{read_file}
use Rattle.desk_model.specs.State.{Setting, Desk}
use Rattle.desk_core.specs.Counts.{counts_of}
use Rattle.desk_core.specs.Histories.{opened_desk}
use Rattle.desk_reports.specs.Reports.{report_of}
use Rattle.desk_run.specs.declared.run.RunEnd.{RunEnd}
use Rattle.desk_run.specs.declared.fault.Fault.{Fault}
use Rattle.desk_run.specs.declared.fault.Fault.TheVariants.{Usage, Setup, Opening}
use Rattle.desk_run.specs.declared.fault.Fault.TheVariants.{Job as JobFailed}
use Rattle.desk_run.specs.declared.fault.SetupFault.{SetupFault}
use Rattle.desk_run.specs.declared.fault.OpeningFault.{OpeningFault}
use Rattle.desk_run.specs.declared.fault.OpeningFault.TheVariants.{NotAJournal, BadEntry, Entry}
use Rattle.desk_run.specs.declared.fault.OpeningFault.TheVariants.{Disk, Memory}
use Rattle.desk_run.specs.declared.fault.JobFault.{JobFault}
use Rattle.desk_run.specs.CheckTexts.{check_text}
use Rattle.desk_run.specs.FaultLines.{fault_line}
use Rattle.desk_run.specs.Files.{IsSetUp, Job, RefusesSetup, ShelfState, answer_lines}
use Rattle.desk_run.specs.Files.{count_books, make_report, post_documents}
use Rattle.desk_run.specs.Imports.{Imports}
use Rattle.desk_run.specs.Inputs.{HasEntries, ReplaysUnder, StopsAtEntry}
use Rattle.desk_run.specs.Runs.{Runs, Streams}
use Rattle.desk_run.specs.Statuses.{end_status, run_fault}
use Rattle.desk_run.specs.Texts.{DoesNothing, KeepsOut, Reports, TellsText}
use Rattle.desk_run.specs.Words.{Call, call_of}

-- ---- before the journal is opened

-- the call is not set up
pub record StopsBefore (call : Call) (shelf shelf_now : ShelfState) (before now : Streams)
    (disk disk_now : DiskState) (end : Result (Unit {0}) Fault) : Type 0 where
  pub fault : SetupFault
  pub end_is : end ≡ Err (Setup fault)
  pub refuses : RefusesSetup call shelf shelf_now fault
  pub nothing : DoesNothing before now disk disk_now

-- ---- while it is opened

-- why a journal does not open, by the fault: what its file holds, a call of the disk, or memory
abbrev pub RefusesJournal : Setting → DiskState → DiskState → ℕ → ℕ → OpeningFault → Type 0
RefusesJournal setting disk disk_now faults faults_now NotAJournal =
    (disk_now.content ≡ disk.content)
    × IfSome disk.content (λ bytes. image_of bytes ≡ not_a_journal)
RefusesJournal setting disk disk_now faults faults_now (BadEntry place) =
    (disk_now.content ≡ disk.content)
    × IfSome disk.content (λ bytes. image_of bytes ≡ bad_entry place)
RefusesJournal setting disk disk_now faults faults_now (Entry index) =
    StopsAtEntry setting disk.content index
RefusesJournal setting disk disk_now faults faults_now Disk = Rose faults faults_now
RefusesJournal setting disk disk_now faults faults_now Memory = ⊤

-- the journal is not opened
pub record StopsOpening (setting : Setting) (before now : Streams) (disk disk_now : DiskState)
    (faults faults_now : ℕ) (end : Result (Unit {0}) Fault) : Type 0 where
  pub fault : OpeningFault
  pub end_is : end ≡ Err (Opening fault)
  pub refuses : RefusesJournal setting disk disk_now faults faults_now fault
  pub nothing : DoesNothing before now disk disk_now

-- ---- at the desk that it opens

-- an end of a run, as one of a job
abbrev pub end_of_run : Result (Unit {0}) RunEnd → Result (Unit {0}) JobFault
end_of_run (Ok done) = Ok tt
end_of_run (Err end) = Err (run_fault end)

-- the lines of the input are run
pub record RunsLines (desk : Desk) (before now : Streams) (disk disk_now : DiskState)
    (faults faults_now : ℕ) (end : Result (Unit {0}) JobFault) : Type 0 where
  pub after : Desk
  pub run_end : Result (Unit {0}) RunEnd
  pub end_is : end ≡ end_of_run run_end
  pub runs : Runs desk after before now disk disk_now faults faults_now run_end

-- what a job comes to at the desk that these entries open
abbrev pub Does : Job → List (List ℕ) → Desk → Streams → Streams → DiskState → DiskState
    → ℕ → ℕ → Result (Unit {0}) JobFault → Type 0
Does answer_lines entries desk before now disk disk_now faults faults_now end =
    RunsLines desk before now disk disk_now faults faults_now end
Does count_books entries desk before now disk disk_now faults faults_now end =
    TellsText (check_text (counts_of desk.serial.documents) (length entries)) before now disk
    disk_now end
Does (make_report words) entries desk before now disk disk_now faults faults_now end =
    Reports (report_of desk words) before now disk disk_now end
Does (post_documents bytes) entries desk before now disk disk_now faults faults_now end =
    Imports (read_file desk.setting.config bytes) desk before.taken now.taken before.write_faults
    now.write_faults disk disk_now faults faults_now end

-- an end of a job, as one of a call
abbrev pub end_of_job : Result (Unit {0}) JobFault → Result (Unit {0}) Fault
end_of_job (Ok done) = Ok tt
end_of_job (Err fault) = Err (JobFailed fault)

-- the job is done at the desk that the entries of the disk open; and what the disk holds then
-- opens again
pub record IsDone (job : Job) (setting : Setting) (before now : Streams)
    (disk disk_now : DiskState) (faults faults_now : ℕ) (end : Result (Unit {0}) Fault)
    : Type 0 where
  pub entries : List (List ℕ)
  pub stand : HasEntries disk.content entries
  pub desk : Desk
  pub opened : opened_desk setting entries ≡ Ok desk
  pub job_end : Result (Unit {0}) JobFault
  pub end_is : end ≡ end_of_job job_end
  pub does : Does job entries desk before now disk disk_now faults faults_now job_end
  pub again : ReplaysUnder setting disk_now.content

-- ---- a top call

-- what a job comes to under a configuration
abbrev pub EndsUnder : Job → Setting → Streams → Streams → DiskState → DiskState → ℕ → ℕ
    → Result (Unit {0}) Fault → Type 0
EndsUnder job setting before now disk disk_now faults faults_now end =
    StopsOpening setting before now disk disk_now faults faults_now end
    ⊎ IsDone job setting before now disk disk_now faults faults_now end

-- the call is set up, and its job comes to this
pub record IsUnder (call : Call) (shelf : ShelfState) (before now : Streams)
    (disk disk_now : DiskState) (faults faults_now : ℕ) (end : Result (Unit {0}) Fault)
    : Type 0 where
  pub job : Job
  pub setting : Setting
  pub set_up : IsSetUp call shelf job setting
  pub ends : EndsUnder job setting before now disk disk_now faults faults_now end

-- what the words come to: a fault of usage where they are no call
abbrev pub EndsAs : Option Call → ShelfState → ShelfState → Streams → Streams
    → DiskState → DiskState → ℕ → ℕ → Result (Unit {0}) Fault → Type 0
EndsAs None shelf shelf_now before now disk disk_now faults faults_now end =
    (end ≡ Err Usage) × KeepsOut before now
EndsAs (Some call) shelf shelf_now before now disk disk_now faults faults_now end =
    StopsBefore call shelf shelf_now before now disk disk_now end
    ⊎ IsUnder call shelf before now disk disk_now faults faults_now end

-- what a top call comes to
abbrev pub Ends : List (List ℕ) → ShelfState → ShelfState → Streams → Streams
    → DiskState → DiskState → ℕ → ℕ → Result (Unit {0}) Fault → Type 0
Ends words = EndsAs (call_of words)

-- an end before the journal is opened leaves the disk untouched
abbrev pub LeavesDisk : {D : Type 0} → Result (Unit {0}) Fault → D → D → Type 0
LeavesDisk (Ok done) disk disk_now = ⊤
LeavesDisk (Err Usage) disk disk_now = disk_now ≡ disk
LeavesDisk (Err (Setup fault)) disk disk_now = disk_now ≡ disk
LeavesDisk (Err (Opening fault)) disk disk_now = ⊤
LeavesDisk (Err (JobFailed fault)) disk disk_now = ⊤

-- a line was written whole, or a front of it where a write failed
pub record WritesLine (line : List ℕ) (before now : Option (List ℕ))
    (faults faults_now : ℕ) : Type 0 where
  pub out : Appends before now line ⊎ (AppendsPrefix before now line × Rose faults faults_now)

-- what the error output takes at an end: nothing where it is good, and else the line of the fault
abbrev pub Complains : List (List ℕ) → Result (Unit {0}) Fault → Option (List ℕ)
    → Option (List ℕ) → ℕ → ℕ → Type 0
Complains words (Ok done) before now faults faults_now = now ≡ before
Complains words (Err fault) before now faults faults_now =
    WritesLine (fault_line words fault) before now faults faults_now

-- a top call finished with this status: it is that of an end that has its cause, with its
-- line; before the journal is opened the disk is not touched
pub record Finishes {D : Type 0} (words : List (List ℕ)) (shelf shelf_now : ShelfState)
    (before now : Streams) (state : D → DiskState) (disk_faults : D → ℕ) (disk disk_now : D)
    (err err_now : Option (List ℕ)) (err_faults err_faults_now status : ℕ) : Type 0 where
  pub end : Result (Unit {0}) Fault
  pub status_is : status ≡ end_status end
  pub ends : Ends words shelf shelf_now before now (state disk) (state disk_now)
      (disk_faults disk) (disk_faults disk_now) end
  pub untouched : LeavesDisk end disk disk_now
  pub complains : Complains words end err err_now err_faults err_faults_now
