-- The line that a reply is printed as.
use Rattle.std.specs.Prelude.{◌≡◌, ℕ, Bool, Option, IsSome, List, length, All, codes, ⊤}
use Rattle.serde_json.specs.Data.{Data, boolean, string, object, no_members, member}
use Rattle.serde_json.specs.Written.{compact_text}
use Rattle.reg_base.specs.Dates.{date_text}
use Rattle.reg_base.specs.declared.records.DocState.{DocState}
use Rattle.desk_words.specs.declared.reply.Reply.{Reply}
use Rattle.desk_words.specs.declared.reply.Reply.TheVariants.{Done, Refused}
use Rattle.desk_words.specs.declared.reply.Answer.{Answer}
use Rattle.desk_words.specs.declared.reply.Answer.TheVariants.{Acknowledged, Balance, Shown}
use Rattle.desk_words.specs.declared.reply.Answer.TheVariants.{Turnovers, Both, AccountBalance}
use Rattle.desk_words.specs.declared.reply.Answer.TheVariants.{AccountTurnovers, AccountBoth, DrCr}
use Rattle.desk_words.specs.declared.reply.Answer.TheVariants.{Documents}
use Rattle.desk_words.specs.declared.reply.Acknowledgement.{Acknowledgement}
use Rattle.desk_words.specs.declared.reply.Acknowledgement.TheVariants.{Document, Swept}
use Rattle.desk_words.specs.declared.reply.Acknowledgement.TheVariants.{Closed as ClosedBooks}
use Rattle.desk_words.specs.declared.reply.ShownDocument.{ShownDocument}
use Rattle.desk_words.specs.declared.reply.Refusal.{Refusal}
use Rattle.desk_words.specs.declared.reply.Refusal.TheVariants.{BadLine, UnknownClerk, NotAllowed}
use Rattle.desk_words.specs.declared.reply.Refusal.TheVariants.{Stale, NumberReused, UnknownDoc}
use Rattle.desk_words.specs.declared.reply.Refusal.TheVariants.{WrongState, BadField, KeyTaken}
use Rattle.desk_words.specs.declared.reply.Refusal.TheVariants.{Closed, Limit as LimitPassed, Rule}
use Rattle.desk_words.specs.declared.reply.Refusal.TheVariants.{Control, Table}
use Rattle.reg_base.specs.declared.fault.PostFault.{PostFault}
use Rattle.reg_base.specs.declared.fault.PostFault.TheVariants.{Broken, Shortage, Overflow, Entry}
use Rattle.reg_base.specs.declared.fault.PostFault.TheVariants.{TooManyRecords, Negative}
use Rattle.desk_words.specs.declared.row_values.RegisterTable.TheVariants.{Both as BothTable}
use Rattle.desk_words.specs.declared.row_values.AccountTable.TheVariants.{Balance as HeldTable}
use Rattle.desk_words.specs.declared.row_values.AccountTable.TheVariants.{Turnovers as MovedTable}
use Rattle.desk_words.specs.declared.row_values.AccountTable.TheVariants.{Both as WholeTable}
use Rattle.desk_words.specs.JsonValues.{whole}
use Rattle.desk_words.specs.FieldTexts.{fields_data, lines_data}
use Rattle.desk_words.specs.RequestTexts.{sets_data}
use Rattle.desk_words.specs.ReplyWords.{state_name}
use Rattle.desk_words.specs.RowTexts.{row_data, register_row_data, account_row_data, pair_row_data}
use Rattle.desk_words.specs.RowTexts.{document_row_data, table_data, turnovers_table, HasNumbers}
use Rattle.desk_words.specs.RowTexts.{key_data, kind_name}
use Rattle.desk_words.specs.RefusalTexts.{refusal_data}

-- a fault that tells a missing quantity has the scale of that quantity
abbrev pub HasMissingScale : Option ℕ → PostFault → Type 0
HasMissingScale scale (Shortage rule line missing) = IsSome scale
HasMissingScale scale (Broken rule line code) = ⊤
HasMissingScale scale (Overflow rule line) = ⊤
HasMissingScale scale (Entry rule line fault) = ⊤
HasMissingScale scale TooManyRecords = ⊤
HasMissingScale scale (Negative rule line) = ⊤

-- what a refusal prints has its scale
abbrev pub RefusalHasScales : Refusal → Type 0
RefusalHasScales (Rule fault scale) = HasMissingScale scale fault
RefusalHasScales (BadLine fault) = ⊤
RefusalHasScales UnknownClerk = ⊤
RefusalHasScales (NotAllowed right) = ⊤
RefusalHasScales (Stale last) = ⊤
RefusalHasScales NumberReused = ⊤
RefusalHasScales UnknownDoc = ⊤
RefusalHasScales (WrongState state) = ⊤
RefusalHasScales (BadField field) = ⊤
RefusalHasScales (KeyTaken doc) = ⊤
RefusalHasScales (Closed date) = ⊤
RefusalHasScales (LimitPassed which limit) = ⊤
RefusalHasScales (Control register values balance scale) = ⊤
RefusalHasScales (Table fault) = ⊤

-- each row has a scale for each of its numbers
abbrev pub AnswerHasScales : Answer → Type 0
AnswerHasScales (Acknowledged acknowledgement) = ⊤
AnswerHasScales (Balance rows scales) = All (λ row. length row.sums ≡ length scales) rows
AnswerHasScales (Shown shown) = ⊤
AnswerHasScales (Turnovers balances rows scales) =
    All (HasNumbers (turnovers_table balances) (length scales)) rows
AnswerHasScales (Both rows scales) = All (HasNumbers BothTable (length scales)) rows
AnswerHasScales (AccountBalance rows scale) = ⊤
AnswerHasScales (AccountTurnovers rows scale) = ⊤
AnswerHasScales (AccountBoth rows scale) = ⊤
AnswerHasScales (DrCr rows scale) = ⊤
AnswerHasScales (Documents rows) = ⊤

-- each number that the reply prints has its scale
abbrev pub HasScales : Reply → Type 0
HasScales (Done answer) = AnswerHasScales answer
HasScales (Refused refusal) = RefusalHasScales refusal

-- a document that was written, posted or marked
unfoldable pub document_data : Bool → ℕ → DocState → Data
document_data active doc state =
    object (member (codes "active") (boolean active)
    (member (codes "doc") (whole doc)
    (member (codes "state") (string (state_name state)) no_members)))

-- what an accepted change is acknowledged with
abbrev pub acknowledgement_data : Acknowledgement → Data
acknowledgement_data (Document active doc state) = document_data active doc state
acknowledgement_data (ClosedBooks date) =
    object (member (codes "closed") (string (date_text date)) no_members)
acknowledgement_data (Swept doc) = object (member (codes "doc") (whole doc) no_members)

-- a document: what it says, and the records that it has made
unfoldable pub shown_data : ShownDocument → Data
shown_data shown =
    object (member (codes "active") (boolean shown.active)
    (member (codes "comment") (string shown.comment)
    (member (codes "date") (string (date_text shown.date))
    (member (codes "doc") (whole shown.doc)
    (member (codes "head") (fields_data shown.head)
    (member (codes "key") (key_data shown.key)
    (member (codes "kind") (string (kind_name shown.kind))
    (member (codes "lines") (lines_data shown.lines)
    (member (codes "sets") (sets_data shown.sets)
    (member (codes "state") (string (state_name shown.state)) no_members))))))))))

-- what an accepted request gives
unfoldable pub answer_data : Answer → Data
answer_data (Acknowledged acknowledgement) = acknowledgement_data acknowledgement
answer_data (Balance rows scales) = table_data (row_data scales) rows
answer_data (Shown shown) = shown_data shown
answer_data (Turnovers balances rows scales) =
    table_data (register_row_data (turnovers_table balances) scales) rows
answer_data (Both rows scales) = table_data (register_row_data BothTable scales) rows
answer_data (AccountBalance rows scale) = table_data (account_row_data HeldTable scale) rows
answer_data (AccountTurnovers rows scale) = table_data (account_row_data MovedTable scale) rows
answer_data (AccountBoth rows scale) = table_data (account_row_data WholeTable scale) rows
answer_data (DrCr rows scale) = table_data (pair_row_data scale) rows
answer_data (Documents rows) = table_data document_row_data rows

-- a reply as JSON
unfoldable pub reply_data : Reply → Data
reply_data (Done answer) = object (member (codes "ok") (answer_data answer) no_members)
reply_data (Refused refusal) = object (member (codes "refused") (refusal_data refusal) no_members)

-- the line that a reply is printed as, without a line feed: compact JSON, members in byte order
unfoldable pub reply_text : Reply → List ℕ
reply_text reply = compact_text (reply_data reply)
