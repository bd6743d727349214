-- How one group ends: it is there, or its step ends.
use Rattle.std.proofs.Common.{◌≡◌, ℕ, false, Some, Ok, Err, refl, subst}
use Rattle.reg_io.specs.Disks.{DiskState, IsSure}
use Rattle.post_journal.specs.Journals.{JournalState}
use Rattle.post_journal.proofs.ForAbove.{grows_none}
use Rattle.desk_words.specs.declared.reply.Reply.{Reply}
use Rattle.desk_words.specs.declared.request.Request.{Request}
use Rattle.desk_model.specs.Desk.{step}
use Rattle.desk_core.specs.DeskViews.{DeskView}
use Rattle.desk_core.specs.Histories.{Holds, IsUntouched, StepEnds}
use Rattle.desk_core.specs.declared.desk.StepEnd.{StepEnd}
use Rattle.desk_core.specs.declared.desk.StepEnd.TheVariants.{Memory, DiskFault, Closed}
use Rattle.csv_groups.specs.declared.group.Group.{Group}
use Rattle.csv_import.specs.Imports.{batch_number, group_comes, posting_of, renumbered}
use Rattle.csv_import.specs.Imports.{standing_document}
use Rattle.csv_import.specs.Posting.{GroupEnds, sent_event}
use Rattle.csv_import.specs.declared.outcome.Outcome.TheVariants.{There}

-- a document that is there is told, and nothing moves
pub GroupEnds-there : (now : DeskView) (group : Group) (doc : ℕ) (journal : JournalState)
    (disk : DiskState) (faults faults_now : ℕ)
    → Some doc ≡ standing_document now.desk group
    → now.stopped ≡ false → Holds now.desk journal disk
    → GroupEnds (posting_of now.desk group) now now disk disk faults faults_now (Ok (There doc))
unfolding posting_of
GroupEnds-there now group doc journal disk faults faults_now there going holds =
    subst (λ found. GroupEnds (group_comes found now.desk group) now now disk disk faults
    faults_now (Ok (There doc))) there (
      refl,
      record {
        going = going;
        new_is = λ i. record { desk = now.desk; stopped = going i };
        grows = grows_none disk holds.stands.stands.sure;
      },
    )

-- a step that gives no reply ends the group so
pub GroupEnds-sent : {D : Type 0} (old new : DeskView) (request sent : Request)
    (state : D → DiskState) (disk disk_now : D) (faults faults_now : ℕ) (end : StepEnd)
    → IsSure (state disk) → sent ≡ renumbered (batch_number old.desk) request → old.stopped ≡ false
    → StepEnds (step old.desk sent) old new (state disk) (state disk_now) faults faults_now
    (Err end)
    → IsUntouched {X = Reply} (Err end) disk disk_now
    → GroupEnds (sent_event old.desk request) old new (state disk) (state disk_now) faults
    faults_now (Err end)
GroupEnds-sent old new request sent state disk disk_now faults faults_now Memory sure sent_is
    going ends untouched = (ends.1, rw untouched (grows_none (state disk) sure))
GroupEnds-sent old new request sent state disk disk_now faults faults_now DiskFault sure sent_is
    going ends untouched = rw sent_is at ends
GroupEnds-sent old new request sent state disk disk_now faults faults_now Closed sure sent_is
    going ends untouched = absurd (let told = ends.0 in cc)
