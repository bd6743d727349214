-- What posting the groups of a file comes to: the lines that are written of them, the desk after
-- them, and what they commit.
use Rattle.std.specs.Prelude.{ℕ, codes, Bool, true, false, Option, Some, None, List, [], ◌∷◌, ◌++◌}
use Rattle.std.specs.Prelude.{filter, length}
use Rattle.reg_base.specs.Documents.{holder_of}
use Rattle.reg_base.specs.Numbers.{number_text}
use Rattle.desk_words.specs.ReplyWords.{refusal_number}
use Rattle.desk_words.specs.declared.reply.Acknowledgement.TheVariants.{Document, Closed, Swept}
use Rattle.desk_words.specs.declared.reply.Answer.{Answer}
use Rattle.desk_words.specs.declared.reply.Answer.TheVariants.{Acknowledged, Balance, Turnovers}
use Rattle.desk_words.specs.declared.reply.Answer.TheVariants.{Both, AccountBalance, DrCr, Shown}
use Rattle.desk_words.specs.declared.reply.Answer.TheVariants.{AccountTurnovers, AccountBoth}
use Rattle.desk_words.specs.declared.reply.Answer.TheVariants.{Documents}
use Rattle.desk_words.specs.declared.reply.Reply.{Reply}
use Rattle.desk_words.specs.declared.reply.Reply.TheVariants.{Done, Refused}
use Rattle.desk_words.specs.declared.request.Post.TheVariants.{Content}
use Rattle.desk_words.specs.declared.request.Request.{Request}
use Rattle.desk_words.specs.declared.request.Request.TheVariants.{Post}
use Rattle.desk_model.specs.Desk.{Event, step}
use Rattle.desk_model.specs.LastRequests.{last_of}
use Rattle.desk_model.specs.State.{Desk}
use Rattle.desk_history.specs.Histories.{event_entries}
use Rattle.desk_core.specs.BatchNumbers.{number_behind}
use Rattle.csv_groups.specs.declared.group.Group.{Group}
use Rattle.csv_import.specs.declared.outcome.Outcome.{Outcome}
use Rattle.csv_import.specs.declared.outcome.Outcome.TheVariants.{Posted as posted, There as there}
use Rattle.csv_import.specs.declared.outcome.Outcome.TheVariants.{Refused as refused}

-- ---- one group

-- the request of a group under another number
abbrev pub renumbered : ℕ → Request → Request
renumbered number (Post (Content content)) = Post (Content (record content { no = number }))
renumbered number request = request

-- the number that the clerk `batch` is at
abbrev pub batch_number : Desk → ℕ
batch_number desk = number_behind (last_of (codes "batch") desk.serial.lasts)

-- what sending a group comes to: it is posted under the next number of the clerk `batch`
abbrev pub group_event : Desk → Group → Event
group_event desk group = step desk (renumbered (batch_number desk) group.request)

-- the document that is acknowledged; only those that are posted are asked
abbrev pub acknowledged_document : Answer → ℕ
acknowledged_document (Acknowledged (Document active doc state)) = doc
acknowledged_document (Acknowledged (Closed date)) = 0
acknowledged_document (Acknowledged (Swept doc)) = 0
acknowledged_document (Balance rows scales) = 0
acknowledged_document (Turnovers balances rows scales) = 0
acknowledged_document (Both rows scales) = 0
acknowledged_document (AccountBalance rows scale) = 0
acknowledged_document (AccountTurnovers rows scale) = 0
acknowledged_document (AccountBoth rows scale) = 0
acknowledged_document (DrCr rows scale) = 0
acknowledged_document (Documents rows) = 0
acknowledged_document (Shown document) = 0

-- what a reply says of a group that was sent
abbrev pub sent_outcome : Reply → Outcome
sent_outcome (Done answer) = posted (acknowledged_document answer)
sent_outcome (Refused refusal) = refused (refusal_number refusal)

-- the number of the document that has a group's key already
abbrev pub standing_document : Desk → Group → Option ℕ
standing_document desk group = holder_of group.key desk.serial.documents

-- what a group comes to: where a document has its key already, nothing is sent
pub record GroupEvent : Type 0 where
  pub outcome : Outcome
  pub desk : Desk
  pub entries : List (List ℕ)

abbrev pub group_comes : Option ℕ → Desk → Group → GroupEvent
group_comes (Some doc) desk group = record { outcome = there doc; desk = desk; entries = [] }
group_comes None desk group = record {
  outcome = sent_outcome (group_event desk group).reply;
  desk = (group_event desk group).desk;
  entries = event_entries (group_event desk group);
}

unfoldable pub posting_of : Desk → Group → GroupEvent
posting_of desk group = group_comes (standing_document desk group) desk group

-- the line that is written of a group
abbrev pub outcome_text : Outcome → List ℕ
outcome_text (posted doc) = codes " posted " ++ (number_text doc ++ 10 ∷ [])
outcome_text (there doc) = codes " there " ++ (number_text doc ++ 10 ∷ [])
outcome_text (refused code) = codes " refused " ++ (number_text code ++ 10 ∷ [])

abbrev pub group_line : Desk → Group → List ℕ
group_line desk group = group.key ++ outcome_text (posting_of desk group).outcome

-- ---- groups, one after another

-- the desk behind groups
abbrev pub desk_behind : Desk → List Group → Desk
desk_behind desk [] = desk
desk_behind desk (group ∷ groups) = desk_behind (posting_of desk group).desk groups

-- the lines that are written of them
abbrev pub group_lines : Desk → List Group → List ℕ
group_lines desk [] = []
group_lines desk (group ∷ groups) =
    group_line desk group ++ group_lines (posting_of desk group).desk groups

-- what they commit
abbrev pub group_entries : Desk → List Group → List (List ℕ)
group_entries desk [] = []
group_entries desk (group ∷ groups) =
    (posting_of desk group).entries ++ group_entries (posting_of desk group).desk groups

-- what becomes of them
abbrev pub outcomes : Desk → List Group → List Outcome
outcomes desk [] = []
outcomes desk (group ∷ groups) =
    (posting_of desk group).outcome ∷ outcomes (posting_of desk group).desk groups

abbrev pub is_posted : Outcome → Bool
is_posted (posted doc) = true
is_posted (there doc) = false
is_posted (refused code) = false

abbrev pub is_there : Outcome → Bool
is_there (posted doc) = false
is_there (there doc) = true
is_there (refused code) = false

abbrev pub is_refused : Outcome → Bool
is_refused (posted doc) = false
is_refused (there doc) = false
is_refused (refused code) = true

-- the last line: how many documents were posted, were there, and were refused
abbrev pub counts_line : List Outcome → List ℕ
counts_line all = codes "posted " ++ (number_text (length (filter is_posted all))
    ++ (codes " there " ++ (number_text (length (filter is_there all))
    ++ (codes " refused " ++ (number_text (length (filter is_refused all)) ++ 10 ∷ [])))))

-- all that is written of groups
abbrev pub import_text : Desk → List Group → List ℕ
import_text desk groups = group_lines desk groups ++ counts_line (outcomes desk groups)
