-- Questions for documents, and what all tables share.
use Rattle.std.specs.Prelude.{ℕ, ⊤, Option, None, option_map, unwrap_or, List, map, Result, Ok, Err}
use Rattle.reg_base.specs.declared.records.Document.{Document}
use Rattle.reg_base.specs.declared.records.DocRow.{DocRow}
use Rattle.reg_base.specs.declared.tables.Periodicity.{Periodicity}
use Rattle.reg_base.specs.declared.tables.Periodicity.TheVariants.{Period}
use Rattle.reg_base.specs.declared.tables.Range.{Range}
use Rattle.reg_base.specs.declared.fault.TableFault.{TableFault}
use Rattle.reg_base.specs.Results.{◌>>=◌}
use Rattle.reg_base.specs.Documents.{documents_between}
use Rattle.reg_base.specs.Turnovers.{limited_rows}
use Rattle.cfg_model.specs.declared.config.Config.{Config}
use Rattle.desk_words.specs.declared.tables.AskedDates.{AskedDates}
use Rattle.desk_words.specs.declared.request.DocQuestion.{DocQuestion as DocRequest}
use Rattle.desk_words.specs.declared.tables.DocumentsQuestion.{DocumentsQuestion}
use Rattle.desk_words.specs.declared.reply.Answer.{Answer}
use Rattle.desk_words.specs.declared.reply.Answer.TheVariants.{Acknowledged, Balance, Turnovers}
use Rattle.desk_words.specs.declared.reply.Answer.TheVariants.{Both, AccountBalance, DrCr, Shown}
use Rattle.desk_words.specs.declared.reply.Answer.TheVariants.{AccountTurnovers, AccountBoth}
use Rattle.desk_words.specs.declared.reply.Answer.TheVariants.{Documents}
use Rattle.desk_words.specs.declared.reply.Refusal.{Refusal}
use Rattle.desk_words.specs.declared.reply.Refusal.TheVariants.{Table}
use Rattle.desk_model.specs.Plans.{Question, about_document, about_documents}
use Rattle.desk_model.specs.Shown.{shown_document, kind_at}

-- ---- what all tables share

-- the last second of 2099
abbrev pub last_date : ℕ
last_date = 3_155_759_999

-- the dates that are asked for, all where none are given, in units or as a whole
abbrev pub range_of : AskedDates → Option Periodicity → Range
range_of dates by = record {
  from = unwrap_or dates.from 0;
  to = unwrap_or dates.to last_date;
  by = unwrap_or by Period;
}

-- the answer to a question: nothing is acknowledged
abbrev pub IsAnswer : Answer → Type 0
IsAnswer (Acknowledged acknowledgement) = ⊥
IsAnswer (Balance rows scales) = ⊤
IsAnswer (Turnovers balances rows scales) = ⊤
IsAnswer (Both rows scales) = ⊤
IsAnswer (AccountBalance rows scale) = ⊤
IsAnswer (AccountTurnovers rows scale) = ⊤
IsAnswer (AccountBoth rows scale) = ⊤
IsAnswer (DrCr rows scale) = ⊤
IsAnswer (Documents rows) = ⊤
IsAnswer (Shown document) = ⊤

-- what rows answer
abbrev pub answering : {R : Type 0} → (R → Answer) → Result R TableFault → Result Answer TableFault
answering answer rows = rows >>= λ found. Ok (answer found)

-- what a table answers, or the refusal that it is not made
abbrev pub or_refused : Result Answer TableFault → Result Answer Refusal
or_refused (Ok answer) = Ok answer
or_refused (Err fault) = Err (Table fault)

-- ---- documents

-- what `doc` asks: the document as it is shown
abbrev pub question_doc : Config → DocRequest → Result Question Refusal
question_doc config q = Ok (about_document (record {
  doc = q.doc;
  answer = λ d. Shown (shown_document config d);
}))

-- the row of a document in a list of documents
abbrev pub document_row : Config → Document → DocRow
document_row config d = record {
  number = d.doc.number;
  date = d.doc.date;
  kind = option_map (λ k. k.name) (kind_at config d.doc.kind);
  key = d.doc.key;
  state = d.doc.state;
}

-- the rows of the documents of a range
abbrev pub rows_between : Config → Range → List Document → List DocRow
rows_between config range documents =
    map (document_row config) (documents_between range.from range.to documents)

-- what `documents` asks: the documents of a range
abbrev pub question_documents : Config → DocumentsQuestion → Result Question Refusal
question_documents config q = Ok (about_documents (λ documents.
    or_refused (answering Documents (limited_rows
    (rows_between config (range_of q.dates None) documents)))))
