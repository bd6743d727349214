-- A desk over its journal: what opens it, and what it leaves there.
use Rattle.std.specs.Prelude.{◌≡◌, ◌⊎◌, ⊤, ℕ, ◌+◌, false, true, Option, Some, IfSome, List, []}
use Rattle.std.specs.Prelude.{Result, Ok, Err}
use Rattle.std.specs.Option.{option_map}
use Rattle.reg_base.specs.Results.{◌>>=◌}
use Rattle.reg_io.specs.Counts.{Rose}
use Rattle.reg_io.specs.Disks.{DiskState}
use Rattle.post_journal.specs.Images.{entries_held, image_of, journal_length}
use Rattle.post_journal.specs.Journals.{Grows, JournalState, Stands}
use Rattle.desk_words.specs.declared.reply.Reply.{Reply}
use Rattle.desk_model.specs.State.{Setting, Desk}
use Rattle.desk_model.specs.Desk.{Event}
use Rattle.desk_history.specs.Replays.{replayed}
use Rattle.desk_history.specs.Histories.{event_entries}
use Rattle.desk_core.specs.declared.replay.ReplayFault.{ReplayFault}
use Rattle.desk_core.specs.declared.replay.ReplayFault.TheVariants.{Unreplayable}
use Rattle.desk_core.specs.declared.replay.ReplayFault.TheVariants.{Memory as OpenMemory}
use Rattle.desk_core.specs.declared.desk.StepEnd.{StepEnd}
use Rattle.desk_core.specs.declared.desk.StepEnd.TheVariants.{Memory, DiskFault, Closed}
use Rattle.desk_core.specs.DeskViews.{DeskView}

-- the desk that entries of a journal open, or the index of the first that does not replay
abbrev pub opened_desk : Setting → List (List ℕ) → Result Desk ℕ
opened_desk setting entries = replayed setting entries >>= λ state. Ok (record {
  setting = setting;
  serial = state;
  journal = journal_length entries;
})

-- what opening a desk over these entries comes to
abbrev pub OpensDesk : Setting → List (List ℕ) → Result DeskView ReplayFault → Type 0
OpensDesk setting entries (Ok view) =
    (view.stopped ≡ false) × (opened_desk setting entries ≡ Ok view.desk)
OpensDesk setting entries (Err (Unreplayable index)) = opened_desk setting entries ≡ Err index
OpensDesk setting entries (Err OpenMemory) = ⊤

-- the bytes of a file, where they are told, hold entries that replay to the serial state of a desk
abbrev pub ReplaysTo : Desk → Option (List ℕ) → Type 0
ReplaysTo desk content = IfSome content (λ bytes.
    option_map (replayed desk.setting) (entries_held (image_of bytes)) ≡ Some (Ok desk.serial))

-- a journal stands on a disk, and is as long as a desk says
pub record StandsFor (desk : Desk) (journal : JournalState) (disk : DiskState) : Type 0 where
  pub usable : journal.failed ≡ false
  pub stands : Stands journal.end disk
  pub long : desk.journal ≡ journal.end + 1

-- it is that of the desk: what the disk holds replays to the desk's serial state
pub record Holds (desk : Desk) (journal : JournalState) (disk : DiskState) : Type 0 where
  pub stands : StandsFor desk journal disk
  pub replays : ReplaysTo desk disk.content

-- a desk that was not stopped has its journal on the disk
abbrev pub IsReady : DeskView → JournalState → DiskState → Type 0
IsReady view journal disk = view.stopped ≡ false → Holds view.desk journal disk

-- ---- steps

-- nothing was written where memory was refused, or the desk was stopped before
abbrev pub IsUntouched : {X D : Type 0} → Result X StepEnd → D → D → Type 0
IsUntouched (Ok x) disk disk_now = ⊤
IsUntouched (Err Memory) disk disk_now = disk_now ≡ disk
IsUntouched (Err DiskFault) disk disk_now = ⊤
IsUntouched (Err Closed) disk disk_now = disk_now ≡ disk

-- a step was made: these entries were appended, and the desk goes on
pub record Makes (entries : List (List ℕ)) (desk : Desk) (old new : DeskView)
    (disk disk_now : DiskState) : Type 0 where
  pub going : old.stopped ≡ false
  pub new_is : new ≡ record { desk = desk; stopped = false }
  pub grows : Grows disk disk_now entries []

-- what a disk holds replays to the first of these desks or to the other
abbrev pub ReplaysToEither : Desk → Desk → Option (List ℕ) → Type 0
ReplaysToEither desk other content = ReplaysTo desk content ⊎ ReplaysTo other content

-- a fault of the disk cut off a step that leads to this desk: the one that was is stopped, and what
-- the disk holds replays to one of the two
pub record Fails (entries : List (List ℕ)) (desk : Desk) (old new : DeskView)
    (disk disk_now : DiskState) (faults faults_now : ℕ) : Type 0 where
  pub going : old.stopped ≡ false
  pub new_is : new ≡ record { desk = old.desk; stopped = true }
  pub grows : Grows disk disk_now [] entries
  pub replays : ReplaysToEither old.desk desk disk_now.content
  pub cause : Rose faults faults_now

-- what a step comes to by how it ends, where its request makes this event
abbrev pub StepEnds : Event → DeskView → DeskView → DiskState → DiskState → ℕ → ℕ
    → Result Reply StepEnd → Type 0
StepEnds event old new disk disk_now faults faults_now (Ok reply) =
    (event.reply ≡ reply) × Makes (event_entries event) event.desk old new disk disk_now
StepEnds event old new disk disk_now faults faults_now (Err Memory) =
    (old.stopped ≡ false) × (new ≡ old)
StepEnds event old new disk disk_now faults faults_now (Err DiskFault) =
    Fails (event_entries event) event.desk old new disk disk_now faults faults_now
StepEnds event old new disk disk_now faults faults_now (Err Closed) =
    (old.stopped ≡ true) × (new ≡ old)
