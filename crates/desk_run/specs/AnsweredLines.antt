-- Private: one line of a run, and the run so far.
use Rattle.std.specs.Prelude.{◌≡◌, ℕ, ◌+◌, Bool, true, false, List, [], ◌++◌, length, Option}
use Rattle.std.specs.Prelude.{Result, Ok}
use Rattle.std.specs.Prelude.{Err, ◌⊎◌}
use Rattle.std.specs.Io.KnownBytes.{Appends}
use Rattle.reg_io.specs.Counts.{AppendsPrefix, Rose}
use Rattle.reg_io.specs.Lines.{lines_of, whole_lines_of}
use Rattle.reg_io.specs.LineStates.{OnTold}
use Rattle.reg_base.specs.declared.line.Line.{Line}
use Rattle.reg_io.specs.declared.line.LineFault.{LineFault}
use Rattle.reg_io.specs.declared.line.LineFault.TheVariants.{Read as ReadFault}
use Rattle.reg_io.specs.declared.line.LineFault.TheVariants.{InputTooLong as InputFault}
use Rattle.reg_io.specs.declared.line.LineFault.TheVariants.{Memory as MemoryFault}
use Rattle.reg_io.specs.Disks.{DiskState}
use Rattle.post_journal.specs.Journals.{Grows}
use Rattle.desk_history.specs.Histories.{line_entries}
use Rattle.desk_core.specs.DeskViews.{DeskView}
use Rattle.desk_core.specs.Histories.{ReplaysToEither}
use Rattle.desk_core.specs.declared.desk.StepEnd.{StepEnd}
use Rattle.desk_core.specs.declared.desk.StepEnd.TheVariants.{Memory as StepMemory}
use Rattle.desk_core.specs.declared.desk.StepEnd.TheVariants.{DiskFault, Closed}
use Rattle.desk_model.specs.State.{Desk}
use Rattle.desk_model.specs.Answers.{line_answer, answers_to, desk_after, line_desk}
use Rattle.desk_run.specs.declared.run.RunEnd.{RunEnd}
use Rattle.desk_run.specs.declared.run.RunEnd.TheVariants.{Memory, Disk, Read, Write, InputTooLong}
use Rattle.desk_run.specs.Runs.{most_input_bytes, CommitsLines}

-- how a run ends at a fault of its lines
abbrev pub end_of : LineFault → RunEnd
end_of ReadFault = Read
end_of InputFault = InputTooLong
end_of MemoryFault = Memory

-- how a run ends at the end of a step
abbrev pub run_end : StepEnd → RunEnd
run_end StepMemory = Memory
run_end DiskFault = Disk
run_end Closed = Disk

-- a line was run by a desk that goes on, and what it does was committed
pub record RunsLine (old new : DeskView) (line : Line) (disk disk_now : DiskState)
    : Type 0 where
  pub desk_is : new.desk ≡ line_desk old.desk line
  pub going : new.stopped ≡ false
  pub grows : Grows disk disk_now (line_entries old.desk line) []

-- a line was run, and its answer was taken whole, or in part after a fault of the output; without
-- memory nothing moved; after a fault of the disk nothing was written
abbrev pub Answered : DeskView → DeskView → Line → Option (List ℕ) → Option (List ℕ) → ℕ → ℕ
    → DiskState → DiskState → ℕ → ℕ → Result (Unit {0}) RunEnd → Type 0
Answered old new line out out_now writes writes_now disk disk_now faults faults_now (Ok _) =
    Appends out out_now (line_answer old.desk line) × RunsLine old new line disk disk_now
Answered old new line out out_now writes writes_now disk disk_now faults faults_now
    (Err Memory) = (out_now ≡ out) × (new ≡ old) × Grows disk disk_now [] []
Answered old new line out out_now writes writes_now disk disk_now faults faults_now
    (Err Disk) = (out_now ≡ out) × (new.desk ≡ old.desk)
    × Grows disk disk_now [] (line_entries old.desk line)
    × ReplaysToEither old.desk (line_desk old.desk line) disk_now.content
    × Rose faults faults_now
Answered old new line out out_now writes writes_now disk disk_now faults faults_now
    (Err Write) = AppendsPrefix out out_now (line_answer old.desk line)
    × RunsLine old new line disk disk_now × Rose writes writes_now
Answered old new line out out_now writes writes_now disk disk_now faults faults_now
    (Err Read) = ⊥
Answered old new line out out_now writes writes_now disk disk_now faults faults_now
    (Err InputTooLong) = ⊥

-- the bytes are these lines, each with its line feed, whatever follows them; or nothing follows,
-- and the source told its end
abbrev pub EndsLines : List ℕ → List ℕ → Bool → List Line → Type 0
EndsLines bytes now ended lines =
    ((more : List ℕ) → whole_lines_of (bytes ++ more) ≡ lines ++ whole_lines_of more)
    ⊎ ((now ≡ []) × (ended ≡ true))

-- these lines were given of the bytes that were ahead at first, and the others are still ahead
pub record AreGiven (room : ℕ) (ended : Bool) (lines : List Line)
    (first now : List ℕ) : Type 0 where
  pub bytes : List ℕ
  pub taken : first ≡ bytes ++ now
  pub room_is : most_input_bytes ≡ length bytes + room
  pub all : lines_of first ≡ lines ++ lines_of now
  pub whole : EndsLines bytes now ended lines

-- the run so far: these lines were given, their answers were written, and what they do is committed
pub record IsRunning (desk now : Desk) (first ahead_now : Option (List ℕ)) (room : ℕ)
    (ended : Bool) (out_first out_now : Option (List ℕ)) (disk disk_now : DiskState)
    : Type 0 where
  pub lines : List Line
  pub given : OnTold first ahead_now (AreGiven room ended lines)
  pub out : Appends out_first out_now (answers_to desk lines)
  pub desk_is : now ≡ desk_after desk lines
  pub commits : CommitsLines desk now lines disk disk_now
