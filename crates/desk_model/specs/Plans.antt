-- What a request can mean: who asks, and a change or a question.
use Rattle.std.specs.Prelude.{ℕ, Bool, Option, List, Result}
use Rattle.reg_base.specs.declared.records.Document.{Document}
use Rattle.reg_base.specs.declared.records.Filter.{Filter}
use Rattle.reg_base.specs.Records.{Booked}
use Rattle.reg_base.specs.BookedEntries.{BookedEntry}
use Rattle.reg_base.specs.declared.right.Right.{Right}
use Rattle.desk_words.specs.declared.reply.Answer.{Answer}
use Rattle.desk_words.specs.declared.reply.Refusal.{Refusal}
use Rattle.desk_model.specs.declared.plan.Plan.{Plan}

-- what a change sees: the document that it names, the number of the document that has the key it
-- gives, the date to which the books are closed, and the number drawn for a new document
pub record Sight : Type 0 where
  pub before : Option Document
  pub holder : Option ℕ
  pub closed : ℕ
  pub drawn : ℕ

-- a change of a document: the number of the one that it names, the key that it gives, and its plan
-- or why there is none
pub record Change : Type 0 where
  pub doc : Option ℕ
  pub key : Option (List ℕ)
  pub plan : Sight → Result Plan Refusal

-- a question about a register: which of its records are asked for, and what they answer, or why
-- they answer nothing
pub record RegisterQuestion : Type 0 where
  pub register : ℕ
  pub asked : Filter
  pub answer : List Booked → Result Answer Refusal

-- a question about a ledger: what its entries answer, or why they answer nothing
pub record LedgerQuestion : Type 0 where
  pub ledger : ℕ
  pub answer : List BookedEntry → Result Answer Refusal

-- a question about a document: its number, and what it answers
pub record DocumentQuestion : Type 0 where
  pub doc : ℕ
  pub answer : Document → Answer

-- a question: about a register, a ledger, a document, or all documents
pub data Question : Type 0 where
  about_register : RegisterQuestion → Question
  about_ledger : LedgerQuestion → Question
  about_document : DocumentQuestion → Question
  about_documents : (List Document → Result Answer Refusal) → Question

-- what a request does: it changes a document, closes the books before a date, or asks
pub data Deed : Type 0 where
  changes : Change → Deed
  closes : ℕ → Deed
  asks : Result Question Refusal → Deed

-- what a request means: who asks, by which right, under which request number, whether a document
-- number is drawn for it, and what is to be done
pub record Meaning : Type 0 where
  pub clerk : List ℕ
  pub right : Right
  pub number : Option ℕ
  pub draws : Bool
  pub deed : Deed
