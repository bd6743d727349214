-- A state that entries replay to has few records, and no amount past the largest number.
use Rattle.std.proofs.Common.{◌≡◌, ℕ, ◌+◌, ◌≤◌, unsigned_abs, Bool, true, false, cond, nat_le}
use Rattle.std.proofs.Common.{option_and_then, Option, Some, None, IfSome, List, [], ◌∷◌, Result}
use Rattle.std.proofs.Common.{Ok, Err, IfOk, refl, subst, arith}
use Rattle.std.specs.List.{All}
use Rattle.std.specs.Result.{result_ok}
use Rattle.std.specs.Ordering.{match_ordering, nat_cmp}
use Rattle.std.specs.declared.cmp.Ordering.{Ordering}
use Rattle.std.specs.declared.cmp.Ordering.TheVariants.{Equal, Greater, Less}
use Rattle.std.proofs.lemmas.Bool.{leb-true}
use Rattle.std.proofs.lemmas.List.Elements.{All-cons, All-head, All-nil, All-tail}
use Rattle.reg_base.specs.declared.records.Document.{Document}
use Rattle.reg_base.specs.Documents.{document_at, with_document, without_document}
use Rattle.reg_base.specs.Numbers.{largest_units, parse_num}
use Rattle.reg_base.specs.Results.{◌>>=◌, none_or, some_or}
use Rattle.reg_base.proofs.ForAbove.{IfOk-next, IfOk-then, IfOk-unless}
use Rattle.desk_words.specs.declared.reply.Refusal.{Refusal}
use Rattle.desk_words.specs.declared.reply.Refusal.TheVariants.{NotAllowed, UnknownClerk}
use Rattle.desk_model.specs.State.{Command, Setting, State, first_state}
use Rattle.desk_model.specs.Clerks.{is_allowed, is_clerk}
use Rattle.desk_model.specs.Controls.{control_fault}
use Rattle.desk_model.specs.Effects.{Effect, Tests, documents_with, no_tests}
use Rattle.desk_model.specs.Limits.{records_in}
use Rattle.desk_model.specs.Meanings.{meaning_of}
use Rattle.desk_model.specs.Plans.{Change, Deed, Meaning, Question, Sight, asks, changes, closes}
use Rattle.desk_model.specs.Serial.{SerialFault, bad_number, change_effect, deed_effect, effect_of}
use Rattle.desk_model.specs.Serial.{is_drawn, made_at, or_fault, plan_effect, question_answer}
use Rattle.desk_model.specs.Serial.{question_effect, serial, sight_of, state_kept, work_effect}
use Rattle.desk_model.specs.Stops.{Stop, or_stop, refuses}
use Rattle.desk_history.specs.Entries.{command_of}
use Rattle.desk_history.specs.Replays.{if_few, is_next, most_replayed_records, replay_command}
use Rattle.desk_history.specs.Replays.{replay_entry, replay_from, replayed}
use Rattle.desk_reports.proofs.AmountLemmas.{HasSmallSets, LeavesSmall, YieldsAreSmall}
use Rattle.desk_reports.proofs.AmountLemmas.{document_from-small}
use Rattle.desk_reports.proofs.PlanLemmas.{DeedIsSmall, PlansSmall, meaning-small}

-- ---- documents in order of number

-- no amount of any document's entries is past the largest number
abbrev pub AreSmall : List Document → Type 0
AreSmall documents = All HasSmallSets documents

document_at-small : (number : ℕ) (documents : List Document) → AreSmall documents
    → LeavesSmall (document_at number documents)
document_at-small number [] are = tt
document_at-small number (d ∷ ds) are =
    at (nat_cmp number d.doc.number)
    (document_at-small number ds (All-tail HasSmallSets d ds are))
  where
    at : (order : Ordering) → LeavesSmall (document_at number ds)
        → LeavesSmall (match_ordering order None (Some d) (document_at number ds))
    at Less others = tt
    at Equal others = All-head HasSmallSets d ds are
    at Greater others = others

with_document-small : (d : Document) (documents : List Document) → HasSmallSets d
    → AreSmall documents → AreSmall (with_document d documents)
with_document-small d [] small are = All-cons HasSmallSets d [] small are
with_document-small d (e ∷ es) small are =
    at (nat_cmp d.doc.number e.doc.number)
    (with_document-small d es small (All-tail HasSmallSets e es are))
  where
    at : (order : Ordering) → AreSmall (with_document d es)
        → AreSmall (match_ordering order (d ∷ e ∷ es) (d ∷ es) (e ∷ with_document d es))
    at Less others = All-cons HasSmallSets d (e ∷ es) small are
    at Equal others = All-cons HasSmallSets d es small (All-tail HasSmallSets e es are)
    at Greater others =
        All-cons HasSmallSets e (with_document d es) (All-head HasSmallSets e es are) others

without_document-small : (number : ℕ) (documents : List Document) → AreSmall documents
    → AreSmall (without_document number documents)
without_document-small number [] are = are
without_document-small number (d ∷ ds) are =
    at (nat_cmp number d.doc.number)
    (without_document-small number ds (All-tail HasSmallSets d ds are))
  where
    at : (order : Ordering) → AreSmall (without_document number ds)
        → AreSmall (match_ordering order (d ∷ ds) ds (d ∷ without_document number ds))
    at Less others = are
    at Equal others = All-tail HasSmallSets d ds are
    at Greater others =
        All-cons HasSmallSets d (without_document number ds) (All-head HasSmallSets d ds are) others

documents_with-small : (before after : Option Document) (documents : List Document)
    → LeavesSmall after → AreSmall documents → AreSmall (documents_with before after documents)
documents_with-small before (Some d) documents small are =
    with_document-small d documents small are
documents_with-small (Some d) None documents small are =
    without_document-small d.doc.number documents are
documents_with-small None None documents small are = are

-- ---- one command

-- the documents that an effect leaves are small
abbrev KeepsSmall : Effect → Type 0
KeepsSmall effect = AreSmall effect.state.documents

before-small : (state : State) (number : ℕ) (change : Change) → AreSmall state.documents
    → LeavesSmall (sight_of state number change).before
before-small state number change are = at change.doc
  where
    at : (doc : Option ℕ) → LeavesSmall (option_and_then
        (λ n. document_at n state.documents) doc)
    at None = tt
    at (Some n) = document_at-small n state.documents are

question_effect-small : (state : State) (question : Result Question Refusal)
    → AreSmall state.documents → IfOk (question_effect state question) KeepsSmall
unfolding question_effect
question_effect-small state question are =
    IfOk-next KeepsSmall (question_answer state.documents question) _ (λ answer. are)

pub IfOk-or_stop : (P : Effect → Type 0) (came : Result Effect Refusal) → IfOk came P
    → IfOk (or_stop came) P
IfOk-or_stop P (Ok effect) holds = holds
IfOk-or_stop P (Err refusal) holds = tt

IfOk-or_fault : (came : Result Effect Stop) → IfOk came KeepsSmall
    → IfOk (or_fault came) KeepsSmall
IfOk-or_fault (Ok effect) holds = holds
IfOk-or_fault (Err stop) holds = tt

-- ---- replayed states

-- a state that is replayed
pub record IsReplayed (state : State) : Type 0 where
  pub few : records_in state.documents ≤ 8_000_000
  pub small : AreSmall state.documents

if_few-replayed : (state : State) → AreSmall state.documents
    → IfSome (if_few state) IsReplayed
if_few-replayed state are =
    at (nat_le (records_in state.documents) most_replayed_records) refl
  where
    at : (b : Bool) → nat_le (records_in state.documents) most_replayed_records ≡ b
        → IfSome (cond b (Some state) None) IsReplayed
    at true is = record { few = leb-true _ most_replayed_records is; small = are }
    at false is = tt

module _ (yields : YieldsAreSmall) (in_range : (text : List ℕ) (scale : ℕ)
    → IfOk (parse_num text scale) (λ n. unsigned_abs n.units ≤ largest_units)) where
  change_effect-small : (tests : Tests) (setting : Setting) (state : State) (number : ℕ)
      (change : Change) → ((sight : Sight) → IfOk (change.plan sight) PlansSmall)
      → AreSmall state.documents
      → IfOk (change_effect tests setting state number change) KeepsSmall
  unfolding change_effect plan_effect work_effect
  change_effect-small tests setting state number change plans are =
      let sight = sight_of state number change in
      IfOk-then PlansSmall KeepsSmall (change.plan sight) _ (plans sight)
      (λ plan small. IfOk-next KeepsSmall (tests.limits sight plan
      (made_at setting state sight plan)) _
      (λ _. IfOk-next KeepsSmall tests.entry _
      (λ _. IfOk-then LeavesSmall KeepsSmall (made_at setting state sight plan) _
      (document_from-small yields setting state.documents sight.before plan.doc plan.source small
      (before-small state number change are))
      (λ after made. IfOk-next KeepsSmall (none_or (control_fault setting plan
      (documents_with sight.before after state.documents) sight.before after)) _
      (λ _. documents_with-small sight.before after state.documents made are)))))

  deed_effect-small : (tests : Tests) (setting : Setting) (state : State) (number : ℕ)
      (deed : Deed) → DeedIsSmall deed → AreSmall state.documents
      → IfOk (deed_effect tests setting state number deed) KeepsSmall
  deed_effect-small tests setting state number (changes change) small are =
      change_effect-small tests setting state number change small are
  deed_effect-small tests setting state number (closes date) small are =
      IfOk-next KeepsSmall tests.entry _ (λ _. are)
  deed_effect-small tests setting state number (asks question) small are =
      question_effect-small state question are

  serial-small : (setting : Setting) (state : State) (c : Command) → AreSmall state.documents
      → IfOk (serial setting state c) KeepsSmall
  unfolding serial effect_of
  serial-small setting state c are =
      let meaning : Meaning = meaning_of setting.config c.request in
      IfOk-unless KeepsSmall (is_drawn state meaning.draws c.number) bad_number _
      (λ _. IfOk-or_fault _
      (IfOk-unless KeepsSmall (is_clerk setting.config meaning.clerk) (refuses UnknownClerk) _
      (λ _. IfOk-unless KeepsSmall (is_allowed setting.config meaning.clerk meaning.right)
      (refuses (NotAllowed meaning.right)) _
      (λ _. IfOk-or_stop KeepsSmall _ (deed_effect-small no_tests setting state c.number meaning.deed
      (meaning-small in_range setting.config c.request) are)))))

  command-replayed : (setting : Setting) (state : State) (c : Command)
      → AreSmall state.documents → IfSome (replay_command setting state c) IsReplayed
  unfolding replay_command
  command-replayed setting state c are =
      next (is_next state.lasts meaning.clerk meaning.number)
    where
      meaning : Meaning
      meaning = meaning_of setting.config c.request

      done : (came : Result Effect SerialFault) → IfOk came KeepsSmall
          → IfSome (option_and_then (λ effect. if_few (state_kept meaning c.request effect))
          (result_ok came)) IsReplayed
      done (Ok effect) kept = if_few-replayed (state_kept meaning c.request effect) kept
      done (Err fault) kept = tt

      next : (b : Bool) → IfSome (cond b
          (option_and_then (λ effect. if_few (state_kept meaning c.request effect))
          (result_ok (serial setting state c))) None) IsReplayed
      next true = done (serial setting state c) (serial-small setting state c are)
      next false = tt

  entry-replayed : (setting : Setting) (state : State) (entry : List ℕ)
      → AreSmall state.documents → IfSome (replay_entry setting state entry) IsReplayed
  unfolding replay_entry
  entry-replayed setting state entry are = at (command_of entry)
    where
      at : (found : Option Command)
          → IfSome (option_and_then (replay_command setting state) found) IsReplayed
      at None = tt
      at (Some c) = command-replayed setting state c are

  from-replayed : (setting : Setting) (state : State) (index : ℕ) (entries : List (List ℕ))
      → IsReplayed state → IfOk (replay_from setting state index entries) IsReplayed
  from-replayed setting state index [] is = is
  from-replayed setting state index (entry ∷ entries) is =
      at (replay_entry setting state entry) (entry-replayed setting state entry is.small)
      (λ next so. from-replayed setting next (index + 1) entries so)
    where
      at : (one : Option State) → IfSome one IsReplayed
          → ((next : State) → IsReplayed next
          → IfOk (replay_from setting next (index + 1) entries) IsReplayed)
          → IfOk (some_or one index >>= λ s. replay_from setting s (index + 1) entries) IsReplayed
      at None so others = tt
      at (Some next) so others = others next so

  -- the state that all entries replay to
  pub replayed-is : (setting : Setting) (entries : List (List ℕ)) (state : State)
      → replayed setting entries ≡ Ok state → IsReplayed state
  replayed-is setting entries state is =
      subst (λ (r : Result State ℕ). IfOk r IsReplayed) is
      (from-replayed setting first_state 1 entries
      (record { few = omega arith; small = All-nil HasSmallSets }))
