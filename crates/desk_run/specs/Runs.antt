-- What running the lines of an input comes to: how it ends, what was written and what the desk is.
use Rattle.std.specs.Prelude.{◌≡◌, ℕ, ◌<◌, ◌≤◌, List, [], ◌∷◌, ◌++◌, length, take, nat_le}
use Rattle.std.specs.Prelude.{if◌then◌else◌, Option, IfSome, OnSome, Result, Ok, Err}
use Rattle.std.specs.Io.KnownBytes.{Appends, Consumes, IsAtEnd}
use Rattle.reg_io.specs.Counts.{Rose}
use Rattle.reg_io.specs.Lines.{lines_of, whole_lines_of}
use Rattle.reg_base.specs.declared.line.Line.{Line}
use Rattle.reg_io.specs.Disks.{DiskState}
use Rattle.post_journal.specs.Journals.{Grows}
use Rattle.desk_history.specs.Histories.{entries_to, line_entries}
use Rattle.desk_core.specs.Histories.{ReplaysTo, ReplaysToEither}
use Rattle.desk_model.specs.State.{Desk}
use Rattle.desk_model.specs.Answers.{line_answer, line_desk, answers_to, desk_after}
use Rattle.desk_model.specs.Laws.{LawsHold}
use Rattle.desk_run.specs.declared.run.RunEnd.{RunEnd}
use Rattle.desk_run.specs.declared.run.RunEnd.TheVariants.{Memory, Disk, Read, Write, InputTooLong}

-- the bytes of an input, at the most
abbrev pub most_input_bytes : ℕ
most_input_bytes = 4_294_967_296

-- what an input and an output show at one moment: the bytes left to read, the bytes taken so far,
-- and how many reads and writes failed
pub record Streams : Type 0 where
  pub left : Option (List ℕ)
  pub read_faults : ℕ
  pub taken : Option (List ℕ)
  pub write_faults : ℕ

-- what these two objects show, by what they tell of themselves
abbrev pub streams_of : {S O : Type 0} → (S → Option (List ℕ)) → (S → ℕ) → (O → Option (List ℕ))
    → (O → ℕ) → S → O → Streams
streams_of left read_faults taken write_faults input out = record {
  left = left input;
  read_faults = read_faults input;
  taken = taken out;
  write_faults = write_faults out;
}

-- the lines of an input that may be answered: all of them where it lies within its limit, and else
-- the whole ones within it
abbrev pub answerable_lines : List ℕ → List Line
answerable_lines bytes =
    if nat_le (length bytes) most_input_bytes
    then lines_of bytes
    else whole_lines_of (take most_input_bytes bytes)

-- these are first lines of an input that may be answered, where its bytes are told
abbrev pub AreFirstLines : List Line → Option (List ℕ) → Type 0
AreFirstLines lines input = IfSome input (λ bytes. (rest : List Line) ×
    (answerable_lines bytes ≡ lines ++ rest))

-- the disk has what these lines commit behind what it had, and it replays to the desk
pub record CommitsLines (desk after : Desk) (lines : List Line) (disk disk_now : DiskState)
    : Type 0 where
  pub grows : Grows disk disk_now (entries_to desk lines) []
  pub replays : ReplaysTo after disk_now.content

-- these first lines were answered whole: the output grew by exactly their answers, among which the
-- laws hold, the desk is the one after them, and the disk has what they commit
pub record AnswersLines (desk after : Desk) (lines : List Line) (before now : Streams)
    (disk disk_now : DiskState) : Type 0 where
  pub first : AreFirstLines lines before.left
  pub out : Appends before.taken now.taken (answers_to desk lines)
  pub laws : LawsHold desk lines
  pub desk_is : after ≡ desk_after desk lines
  pub commits : CommitsLines desk after lines disk disk_now

-- the input was read to its end and lies within its limit, and all of its lines were answered
pub record AnswersAll (desk after : Desk) (before now : Streams)
    (disk disk_now : DiskState) : Type 0 where
  pub lines : List Line
  pub all : IfSome before.left (λ bytes. (lines_of bytes ≡ lines) ×
      (length bytes ≤ most_input_bytes))
  pub at_end : IsAtEnd now.left
  pub answered : AnswersLines desk after lines before now disk disk_now

-- a read failed, and the whole lines of the bytes taken were answered
pub record StopsAtRead (desk after : Desk) (before now : Streams)
    (disk disk_now : DiskState) : Type 0 where
  pub bytes : List ℕ
  pub lines : List Line
  pub taken : Consumes before.left now.left bytes
  pub within : length bytes ≤ most_input_bytes
  pub whole : OnSome before.left (whole_lines_of bytes ≡ lines)
  pub answered : AnswersLines desk after lines before now disk disk_now
  pub cause : Rose before.read_faults now.read_faults

-- a write failed: first lines were answered whole, and behind them one line was run, of whose
-- answer the first bytes were taken, but not all; the disk has what it commits, too
pub record StopsAtWrite (desk after : Desk) (before now : Streams)
    (disk disk_now : DiskState) : Type 0 where
  pub lines : List Line
  pub line : Line
  pub first : AreFirstLines (lines ++ line ∷ []) before.left
  pub count : ℕ
  pub part : count < length (line_answer (desk_after desk lines) line)
  pub out : Appends before.taken now.taken (answers_to desk lines
      ++ take count (line_answer (desk_after desk lines) line))
  pub laws : LawsHold desk (lines ++ line ∷ [])
  pub desk_is : after ≡ desk_after desk (lines ++ line ∷ [])
  pub commits : CommitsLines desk after (lines ++ line ∷ []) disk disk_now
  pub cause : Rose before.write_faults now.write_faults

-- the disk failed: first lines were answered whole, and behind them the step of one line was cut
-- off, of whose answer nothing was written, and whose entry may be on the disk or not; what the
-- disk holds replays to the desk before that line or behind it
pub record StopsAtDisk (desk after : Desk) (before now : Streams) (disk disk_now : DiskState)
    (faults faults_now : ℕ) : Type 0 where
  pub lines : List Line
  pub line : Line
  pub first : AreFirstLines (lines ++ line ∷ []) before.left
  pub out : Appends before.taken now.taken (answers_to desk lines)
  pub laws : LawsHold desk lines
  pub desk_is : after ≡ desk_after desk lines
  pub grows : Grows disk disk_now (entries_to desk lines)
      (line_entries (desk_after desk lines) line)
  pub replays : ReplaysToEither after (line_desk after line) disk_now.content
  pub cause : Rose faults faults_now

-- the input passes its limit, and the whole lines within the limit were answered
pub record PassesLimit (desk after : Desk) (before now : Streams)
    (disk disk_now : DiskState) : Type 0 where
  pub lines : List Line
  pub beyond : IfSome before.left (λ bytes. (most_input_bytes < length bytes)
      × (whole_lines_of (take most_input_bytes bytes) ≡ lines))
  pub answered : AnswersLines desk after lines before now disk disk_now

-- memory was refused, and first lines of the input were answered
pub record WantsMemory (desk after : Desk) (before now : Streams)
    (disk disk_now : DiskState) : Type 0 where
  pub lines : List Line
  pub answered : AnswersLines desk after lines before now disk disk_now

-- what a run comes to by how it ends, from a desk to the desk after
abbrev pub Runs : Desk → Desk → Streams → Streams → DiskState → DiskState → ℕ → ℕ
    → Result (Unit {0}) RunEnd → Type 0
Runs desk after before now disk disk_now faults faults_now (Ok _) =
    AnswersAll desk after before now disk disk_now
Runs desk after before now disk disk_now faults faults_now (Err Memory) =
    WantsMemory desk after before now disk disk_now
Runs desk after before now disk disk_now faults faults_now (Err Disk) =
    StopsAtDisk desk after before now disk disk_now faults faults_now
Runs desk after before now disk disk_now faults faults_now (Err Read) =
    StopsAtRead desk after before now disk disk_now
Runs desk after before now disk disk_now faults faults_now (Err Write) =
    StopsAtWrite desk after before now disk disk_now
Runs desk after before now disk disk_now faults faults_now (Err InputTooLong) =
    PassesLimit desk after before now disk disk_now
