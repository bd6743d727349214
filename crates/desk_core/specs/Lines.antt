-- What answering a line leaves.
use Rattle.std.specs.Prelude.{◌≡◌, ⊤, ℕ, false, true, Option, Some, None, is_none, List, [], ◌∷◌}
use Rattle.std.specs.Prelude.{◌++◌, Vec, Result, Ok, Err}
use Rattle.std.specs.declared.alloc.Global.{Global}
use Rattle.reg_base.specs.declared.line.Line.{Line}
use Rattle.reg_io.specs.Disks.{DiskState}
use Rattle.post_journal.specs.Journals.{Grows}
use Rattle.desk_model.specs.State.{Desk}
use Rattle.desk_words.specs.declared.reply.Refusal.{Refusal}
use Rattle.desk_words.specs.declared.reply.Reply.TheVariants.{Refused}
use Rattle.desk_words.specs.ReplyTexts.{reply_text}
use Rattle.desk_model.specs.Desk.{Event}
use Rattle.desk_model.specs.Answers.{is_blank_line, line_answer, line_desk}
use Rattle.desk_history.specs.Histories.{event_entries, line_entries}
use Rattle.desk_core.specs.declared.desk.StepEnd.{StepEnd}
use Rattle.desk_core.specs.declared.desk.StepEnd.TheVariants.{Memory, DiskFault, Closed}
use Rattle.desk_core.specs.DeskViews.{DeskView}
use Rattle.desk_core.specs.Histories.{Fails, Makes}

-- the bytes of an answer, where there is one
abbrev pub answer_bytes : Option (Vec ℕ Global) → List ℕ
answer_bytes None = []
answer_bytes (Some bytes) = bytes.items

-- a line is answered by the bytes of its answer, and by none exactly where it is blank; the desk is
-- the one after it
pub record AnswersLine (old : Desk) (line : Line) (out : Option (Vec ℕ Global))
    (new : Desk) : Type 0 where
  pub text : answer_bytes out ≡ line_answer old line
  pub blank : is_none out ≡ is_blank_line line
  pub desk_is : new ≡ line_desk old line

-- a line was answered: a desk that is stopped answers blank ones alone, and another one commits
-- what the line does
pub record LineDone (old new : DeskView) (line : Line) (out : Option (Vec ℕ Global))
    (disk disk_now : DiskState) : Type 0 where
  pub answers : AnswersLine old.desk line out new.desk
  pub same : new.stopped ≡ old.stopped
  pub blank : old.stopped ≡ true → is_blank_line line ≡ true
  pub grows : old.stopped ≡ false → Grows disk disk_now (line_entries old.desk line) []

-- what answering a line comes to by how it ends
abbrev pub LineEnds : DeskView → DeskView → Line → DiskState → DiskState → ℕ → ℕ
    → Result (Option (Vec ℕ Global)) StepEnd → Type 0
LineEnds old new line disk disk_now faults faults_now (Ok out) =
    LineDone old new line out disk disk_now
LineEnds old new line disk disk_now faults faults_now (Err Memory) =
    (old.stopped ≡ false) × (new ≡ old)
LineEnds old new line disk disk_now faults faults_now (Err DiskFault) =
    Fails (line_entries old.desk line) (line_desk old.desk line) old new disk disk_now faults
    faults_now
LineEnds old new line disk disk_now faults faults_now (Err Closed) =
    (old.stopped ≡ true) × (new ≡ old) × (is_blank_line line ≡ false)

-- what answering a line that is not blank comes to by how it ends, where it makes this event
abbrev pub TextEnds : Event → DeskView → DeskView → DiskState → DiskState → ℕ → ℕ
    → Result (Vec ℕ Global) StepEnd → Type 0
TextEnds event old new disk disk_now faults faults_now (Ok text) =
    (text.items ≡ reply_text event.reply ++ 10 ∷ [])
    × Makes (event_entries event) event.desk old new disk disk_now
TextEnds event old new disk disk_now faults faults_now (Err Memory) = new ≡ old
TextEnds event old new disk disk_now faults faults_now (Err DiskFault) =
    Fails (event_entries event) event.desk old new disk disk_now faults faults_now
TextEnds event old new disk disk_now faults faults_now (Err Closed) = ⊥

-- the text of a refusal with a line feed, where memory was found
abbrev pub IsRefusedText : Refusal → Result (Vec ℕ Global) StepEnd → Type 0
IsRefusedText refusal (Ok text) = text.items ≡ reply_text (Refused refusal) ++ 10 ∷ []
IsRefusedText refusal (Err Memory) = ⊤
IsRefusedText refusal (Err DiskFault) = ⊥
IsRefusedText refusal (Err Closed) = ⊥
