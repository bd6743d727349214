-- What a command does to the serial state, and the serial machine.
use Rattle.std.specs.Prelude.{ℕ, ◌==◌, Bool, true, false, ◌&&◌, nat_lt, is_none, Option}
use Rattle.std.specs.Prelude.{option_and_then, List, [], Result, Ok, Err}
use Rattle.reg_base.specs.Results.{◌>>=◌, unless, some_or, none_or}
use Rattle.reg_base.specs.declared.records.Document.{Document}
use Rattle.reg_base.specs.Records.{records_of, chosen_records}
use Rattle.reg_base.specs.BookedEntries.{entries_of}
use Rattle.desk_words.specs.declared.request.Request.{Request}
use Rattle.desk_words.specs.declared.reply.Answer.{Answer}
use Rattle.desk_words.specs.declared.reply.Refusal.{Refusal}
use Rattle.desk_words.specs.declared.reply.Refusal.TheVariants.{UnknownClerk, NotAllowed}
use Rattle.desk_words.specs.declared.reply.Refusal.TheVariants.{UnknownDoc}
use Rattle.desk_model.specs.State.{Setting, State, Command}
use Rattle.reg_base.specs.Documents.{document_at, holder_of}
use Rattle.desk_model.specs.Effects.{Effect, Tests, no_tests}
use Rattle.desk_model.specs.Stops.{Stop, refuses, or_stop}
use Rattle.desk_model.specs.Effects.{documents_with, effect_with, close_effect}
use Rattle.desk_model.specs.declared.plan.Plan.{Plan}
use Rattle.desk_model.specs.Plans.{Sight, Change, Question, Deed, Meaning, changes, closes, asks}
use Rattle.desk_model.specs.Plans.{about_register, about_ledger, about_document, about_documents}
use Rattle.desk_model.specs.Clerks.{is_clerk, is_allowed}
use Rattle.desk_model.specs.LastRequests.{lasts_with}
use Rattle.desk_model.specs.Controls.{control_fault}
use Rattle.desk_model.specs.DocumentSets.{document_from}
use Rattle.desk_model.specs.Meanings.{meaning_of}

-- ---- changes

-- what a change sees of a state
abbrev pub sight_of : State → ℕ → Change → Sight
sight_of state number change = record {
  before = option_and_then (λ n. document_at n state.documents) change.doc;
  holder = option_and_then (λ k. holder_of k state.documents) change.key;
  closed = state.closed;
  drawn = number;
}

-- the document that a plan makes of a state, or why its records can't be made
abbrev pub made_at : Setting → State → Sight → Plan → Result (Option Document) Refusal
made_at setting state sight plan =
    document_from setting state.documents sight.before plan.doc plan.source

-- the effect of a plan whose document was made: what it controls holds behind it
unfoldable pub work_effect : Setting → State → ℕ → Sight → Plan → Option Document →
    Result Effect Refusal
work_effect setting state number sight plan after = do
  _ ← none_or (control_fault setting plan (documents_with sight.before after state.documents)
      sight.before after)
  Ok (effect_with state number plan (record {
    before = sight.before;
    after = after;
  }))

-- the effect of a plan, or its first refusal: the machine's limits are asked, that of its journal
-- behind the others, then whether its records can be made, and then its controls
unfoldable pub plan_effect : Tests → Setting → State → ℕ → Sight → Plan → Result Effect Refusal
plan_effect tests setting state number sight plan =
    let made = made_at setting state sight plan in
    tests.limits sight plan made >>= λ _. tests.entry >>= λ _.
    made >>= work_effect setting state number sight plan

-- the effect of a change, or its first refusal
unfoldable pub change_effect : Tests → Setting → State → ℕ → Change → Result Effect Refusal
change_effect tests setting state number change = do
  plan ← change.plan (sight_of state number change)
  plan_effect tests setting state number (sight_of state number change) plan

-- ---- questions

-- the effect of a question that was answered: nothing changes
abbrev pub answer_effect : State → Answer → Effect
answer_effect state answer = record {
  state = state;
  works = [];
  answer = answer;
}

-- what a question is answered over documents: from their records, their entries or themselves
unfoldable pub answer_to : List Document → Question → Result Answer Refusal
answer_to documents (about_register q) =
    q.answer (chosen_records q.asked (records_of q.register documents))
answer_to documents (about_ledger q) = q.answer (entries_of q.ledger documents)
answer_to documents (about_document q) = do
  d ← some_or (document_at q.doc documents) UnknownDoc
  Ok (q.answer d)
answer_to documents (about_documents answer) = answer documents

-- what is answered where a question can be asked
unfoldable pub question_answer : List Document → Result Question Refusal → Result Answer Refusal
question_answer documents question = do
  q ← question
  answer_to documents q

-- the effect of a question
unfoldable pub question_effect : State → Result Question Refusal → Result Effect Refusal
question_effect state question = do
  answer ← question_answer state.documents question
  Ok (answer_effect state answer)

-- ---- commands

-- the effect of a deed
abbrev pub deed_effect : Tests → Setting → State → ℕ → Deed → Result Effect Refusal
deed_effect tests setting state number (changes change) =
    change_effect tests setting state number change
deed_effect tests setting state number (closes date) =
    tests.entry >>= λ _. Ok (close_effect state date)
deed_effect tests setting state number (asks question) = question_effect state question

-- the effect of a command, or why it goes no further: there is such a clerk, who may do this, and
-- his number is asked; and then its deed
unfoldable pub effect_of : Tests → Setting → State → Command → Result Effect Stop
effect_of tests setting state command = do
  let meaning = meaning_of setting.config command.request
  _ ← unless (is_clerk setting.config meaning.clerk) (refuses UnknownClerk)
  _ ← unless (is_allowed setting.config meaning.clerk meaning.right)
      (refuses (NotAllowed meaning.right))
  _ ← tests.number
  or_stop (deed_effect tests setting state command.number meaning.deed)

-- the state that a command leaves: one with a number is its clerk's last
abbrev pub state_kept : Meaning → Request → Effect → State
state_kept meaning request effect = record effect.state {
  lasts = lasts_with meaning.clerk meaning.number request effect.answer effect.state.lasts;
}

-- why the serial machine takes no command: it stops, or its number is none that can be drawn
pub data SerialFault : Type 0 where
  stops : Stop → SerialFault
  bad_number : SerialFault

-- whether a command has a number of its own exactly where its request draws one
abbrev pub is_drawn : State → Bool → ℕ → Bool
is_drawn state true number = nat_lt 0 number && is_none (document_at number state.documents)
is_drawn state false number = number == 0

-- the effect of a command, or why the serial machine does not take it
abbrev pub or_fault : Result Effect Stop → Result Effect SerialFault
or_fault (Ok effect) = Ok effect
or_fault (Err stop) = Err (stops stop)

-- the serial machine: one command, as a replay runs it, with no tests but those of the request
unfoldable pub serial : Setting → State → Command → Result Effect SerialFault
serial setting state command = do
  let meaning = meaning_of setting.config command.request
  _ ← unless (is_drawn state meaning.draws command.number) bad_number
  or_fault (effect_of no_tests setting state command)
