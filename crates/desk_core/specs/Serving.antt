-- Private: what serving a request leaves of the desk, its journal and the disk.
use Rattle.std.specs.Prelude.{◌≡◌, ℕ, false, true, Option, [], ◌∷◌, ◌++◌, Result, Ok, Err}
use Rattle.reg_io.specs.Counts.{Rose}
use Rattle.reg_io.specs.Disks.{DiskState}
use Rattle.post_journal.specs.Journals.{Grows, JournalState}
use Rattle.desk_words.specs.declared.request.Request.{Request}
use Rattle.desk_words.specs.ReplyTexts.{reply_text}
use Rattle.desk_model.specs.Desk.{Event}
use Rattle.desk_history.specs.Histories.{event_entries}
use Rattle.desk_core.specs.declared.desk.StepEnd.{StepEnd}
use Rattle.desk_core.specs.declared.desk.StepEnd.TheVariants.{Memory, DiskFault, Closed}
use Rattle.desk_core.specs.declared.outcome.Entry.{Entry}
use Rattle.desk_core.specs.declared.serving.Replied.{Replied}
use Rattle.desk_core.specs.DeskViews.{DeskView, desk_with}
use Rattle.desk_core.specs.Histories.{Fails, Makes, StandsFor}
use Rattle.desk_core.specs.Outcomes.{entry_texts}

-- what is replied, and its text with a line feed, is what an event replies
pub record IsSaid (event : Event) (replied : Replied) : Type 0 where
  pub reply_is : event.reply ≡ replied.reply
  pub text_is : replied.text.items ≡ reply_text event.reply ++ 10 ∷ []

-- what serving a request comes to by how it ends, at a desk that is not stopped
abbrev pub ServeEnds : Event → DeskView → DeskView → DiskState → DiskState → ℕ → ℕ
    → Result Replied StepEnd → Type 0
ServeEnds event old new disk disk_now faults faults_now (Ok replied) =
    IsSaid event replied × Makes (event_entries event) event.desk old new disk disk_now
ServeEnds event old new disk disk_now faults faults_now (Err Memory) = new ≡ old
ServeEnds event old new disk disk_now faults faults_now (Err DiskFault) =
    Fails (event_entries event) event.desk old new disk disk_now faults faults_now
ServeEnds event old new disk disk_now faults faults_now (Err Closed) = ⊥

-- what committing an entry, where there is one, comes to by how it ends
abbrev pub CommitEnds : Request → Option Entry → DeskView → DeskView → JournalState → DiskState
    → DiskState → ℕ → ℕ → Result (Unit {0}) StepEnd → Type 0
CommitEnds request entry old new journal_now disk disk_now faults faults_now (Ok _) =
    (new ≡ record { desk = desk_with old.desk request entry; stopped = false })
    × StandsFor (desk_with old.desk request entry) journal_now disk_now
    × Grows disk disk_now (entry_texts entry) []
CommitEnds request entry old new journal_now disk disk_now faults faults_now (Err Memory) =
    (new ≡ old) × StandsFor old.desk journal_now disk_now
CommitEnds request entry old new journal_now disk disk_now faults faults_now (Err DiskFault) =
    (new ≡ record { desk = old.desk; stopped = true })
    × Grows disk disk_now [] (entry_texts entry)
    × Rose faults faults_now
CommitEnds request entry old new journal_now disk disk_now faults faults_now (Err Closed) = ⊥
