-- What contracts see of a desk, and what a step leaves of it.
use Rattle.std.specs.Prelude.{⊤, ◌≤◌, ◌<◌, ◌^◌, Bool, max, Option, Some, None, length}
use Rattle.reg_base.specs.declared.records.Document.{Document}
use Rattle.reg_base.specs.Documents.{with_document, without_document}
use Rattle.desk_words.specs.declared.request.Request.{Request}
use Rattle.desk_words.specs.declared.reply.Acknowledgement.{Acknowledgement}
use Rattle.desk_words.specs.declared.reply.Answer.TheVariants.{Acknowledged}
use Rattle.desk_model.specs.State.{Desk}
use Rattle.desk_model.specs.Plans.{Meaning}
use Rattle.desk_model.specs.LastRequests.{lasts_with}
use Rattle.desk_model.specs.Limits.{records_in}
use Rattle.desk_model.specs.Journals.{longer, most_entry, most_journal}
use Rattle.desk_history.specs.Replays.{most_replayed_records}
use Rattle.desk_model.specs.Desk.{meaning_at}
use Rattle.desk_core.specs.declared.outcome.Change.{Change}
use Rattle.desk_core.specs.declared.outcome.Change.TheVariants.{Put, Remove, Close}
use Rattle.desk_core.specs.declared.outcome.Entry.{Entry}
use Rattle.desk_plans.specs.Bounds.{IsWithinBounds}

-- the desk of the machine, and whether a fault of the disk has stopped it
pub record DeskView : Type 0 where
  pub desk : Desk
  pub stopped : Bool

-- the desk with a change made
abbrev pub changed : Desk → Change → Desk
changed desk (Put document) = record desk {
  serial = record desk.serial {
    documents = with_document document desk.serial.documents;
    top = max desk.serial.top document.doc.number;
  };
}
changed desk (Remove number) = record desk {
  serial = record desk.serial { documents = without_document number desk.serial.documents };
}
changed desk (Close date) = record desk { serial = record desk.serial { closed = date } }

-- the desk with a request as its clerk's last, where it has a number
abbrev pub with_request : Desk → Meaning → Request → Acknowledgement → Desk
with_request desk meaning request acknowledgement = record desk {
  serial = record desk.serial {
    lasts = lasts_with meaning.clerk meaning.number request (Acknowledged acknowledgement)
        desk.serial.lasts;
  };
}

-- the desk with the entry of a request committed, where there is one
abbrev pub desk_with : Desk → Request → Option Entry → Desk
desk_with desk request None = desk
desk_with desk request (Some entry) = record
    (with_request (changed desk entry.change) (meaning_at desk request) request
    entry.acknowledgement) { journal = longer desk.journal (length entry.text.bytes) }

-- a document that may be put: its lists are short, and no limit is passed with it
pub record Fits (desk : Desk) (document : Document) : Type 0 where
  pub short : IsWithinBounds document
  pub few : length (with_document document desk.serial.documents) < 2 ^ 32
  pub within : records_in (with_document document desk.serial.documents) ≤ most_replayed_records

-- the lists of a document that a change puts are short
abbrev pub IsShortChange : Change → Type 0
IsShortChange (Put document) = IsWithinBounds document
IsShortChange (Remove number) = ⊤
IsShortChange (Close date) = ⊤

-- a change that a desk may make
abbrev pub MayChange : Desk → Change → Type 0
MayChange desk (Put document) = Fits desk document
MayChange desk (Remove number) = ⊤
MayChange desk (Close date) = ⊤

-- an entry that a desk may commit: it may make its change, and its journal has room for the text
pub record MayEnter (desk : Desk) (entry : Entry) : Type 0 where
  pub may : MayChange desk entry.change
  pub some : 1 ≤ length entry.text.bytes
  pub most : length entry.text.bytes ≤ most_entry
  pub low : longer desk.journal (length entry.text.bytes) ≤ most_journal
