-- What an accepted request leaves, and what is asked before it does.
use Rattle.std.specs.Prelude.{ℕ, max, Option, Some, None, List, [], ◌∷◌, Result, Ok}
use Rattle.reg_base.specs.declared.records.Doc.{Doc}
use Rattle.reg_base.specs.declared.records.Document.{Document}
use Rattle.desk_words.specs.declared.reply.Answer.{Answer}
use Rattle.desk_words.specs.declared.reply.Answer.TheVariants.{Acknowledged}
use Rattle.desk_words.specs.declared.reply.Acknowledgement.{Acknowledgement}
use Rattle.desk_words.specs.declared.reply.Acknowledgement.TheVariants.{Document as DocumentStands}
use Rattle.desk_words.specs.declared.reply.Acknowledgement.TheVariants.{Closed, Swept}
use Rattle.desk_words.specs.declared.reply.Refusal.{Refusal}
use Rattle.desk_model.specs.State.{State}
use Rattle.desk_model.specs.Stops.{Stop}
use Rattle.reg_base.specs.Documents.{with_document, without_document}
use Rattle.desk_model.specs.declared.plan.Source.{Source}
use Rattle.desk_model.specs.declared.plan.Source.TheVariants.{ByHand, ByRules, Kept, Nothing}
use Rattle.desk_model.specs.declared.plan.Source.TheVariants.{Removed}
use Rattle.desk_model.specs.Plans.{Sight}
use Rattle.desk_model.specs.declared.plan.Plan.{Plan}

-- what a change does to one document: how it was and how it is, none where it is not there
pub record Work : Type 0 where
  pub before : Option Document
  pub after : Option Document

-- what an accepted request leaves: the state after, what it did to documents, and its answer
pub record Effect : Type 0 where
  pub state : State
  pub works : List Work
  pub answer : Answer

-- what a machine asks besides the request itself, and where: of the request's number, before what
-- it does is looked at; of a plan, with the document that its records make or why they can't be
-- made, before that is answered; and then of the entry of its journal
pub record Tests : Type 0 where
  pub number : Result (Unit {0}) Stop
  pub limits : Sight → Plan → Result (Option Document) Refusal → Result (Unit {0}) Refusal
  pub entry : Result (Unit {0}) Refusal

-- no tests
abbrev pub no_tests : Tests
no_tests = record {
  number = Ok tt;
  limits = λ sight plan made. Ok tt;
  entry = Ok tt;
}

-- ---- effects of changes

-- the documents with a work done: one takes the place of its number, or its number's is taken away
abbrev pub documents_with : Option Document → Option Document → List Document → List Document
documents_with before (Some after) documents = with_document after documents
documents_with (Some before) None documents = without_document before.doc.number documents
documents_with None None documents = documents

-- the state with a work done under a command's number
abbrev pub state_with : State → ℕ → Work → State
state_with state number work = record state {
  documents = documents_with work.before work.after state.documents;
  top = max state.top number;
}

-- how a changed document stands, or that it is removed, as its change is acknowledged
abbrev pub acknowledgement_of : Doc → Source → Acknowledgement
acknowledgement_of doc (ByHand given) = DocumentStands doc.active doc.number doc.state
acknowledgement_of doc ByRules = DocumentStands doc.active doc.number doc.state
acknowledgement_of doc Kept = DocumentStands doc.active doc.number doc.state
acknowledgement_of doc Nothing = DocumentStands doc.active doc.number doc.state
acknowledgement_of doc Removed = Swept doc.number

-- what a change leaves: the state with its work, and how its document stands
abbrev pub effect_with : State → ℕ → Plan → Work → Effect
effect_with state number plan work = record {
  state = state_with state number work;
  works = work ∷ [];
  answer = Acknowledged (acknowledgement_of plan.doc plan.source);
}

-- what it leaves that the books are closed before a date
abbrev pub close_effect : State → ℕ → Effect
close_effect state date = record {
  state = record state { closed = date };
  works = [];
  answer = Acknowledged (Closed date);
}
