-- Each number that a reply prints has its scale.
use Rattle.std.proofs.Common.{ℕ, Bool, true, false, Option, Some, None, List}
use Rattle.std.proofs.Common.{Result, Ok, Err}
use Rattle.reg_base.specs.declared.records.Document.{Document}
use Rattle.reg_base.specs.Results.{◌>>=◌, unless, none_or}
use Rattle.desk_words.specs.declared.request.Request.{Request}
use Rattle.desk_words.specs.declared.request.Request.TheVariants.{Write, Post, Unpost, Mark, Manual}
use Rattle.desk_words.specs.declared.request.Request.TheVariants.{Activity, Close, Sweep, Balance}
use Rattle.desk_words.specs.declared.request.Request.TheVariants.{Doc, Turnovers, Both, Documents}
use Rattle.desk_words.specs.declared.request.Request.TheVariants.{AccountBalance, AccountTurnovers}
use Rattle.desk_words.specs.declared.request.Request.TheVariants.{AccountBoth, DrCr}
use Rattle.desk_words.specs.declared.request.Post.TheVariants.{Content, Standing}
use Rattle.desk_words.specs.declared.reply.Refusal.{Refusal}
use Rattle.desk_words.specs.declared.reply.Refusal.TheVariants.{UnknownClerk, NotAllowed, Stale}
use Rattle.desk_model.specs.declared.last.Last.{Last}
use Rattle.desk_model.specs.LastRequests.{is_same, last_of, same_number, number_after, number_test}
use Rattle.std.specs.Ordering.{nat_cmp, match_ordering}
use Rattle.std.specs.declared.cmp.Ordering.{Ordering}
use Rattle.std.specs.declared.cmp.Ordering.TheVariants.{Less, Equal, Greater}
use Rattle.desk_words.specs.ReplyTexts.{HasScales, AnswerHasScales, RefusalHasScales}
use Rattle.desk_model.specs.State.{Setting, State, Desk, Command}
use Rattle.desk_model.specs.declared.plan.Plan.{Plan}
use Rattle.desk_model.specs.Plans.{Sight, Change, Meaning}
use Rattle.desk_model.specs.Effects.{Effect, Tests, documents_with}
use Rattle.desk_model.specs.Stops.{Stop, refuses, or_stop}
use Rattle.desk_model.specs.Controls.{control_fault}
use Rattle.desk_model.specs.Serial.{sight_of, made_at, work_effect, plan_effect, change_effect}
use Rattle.desk_model.specs.Serial.{deed_effect, effect_of}
use Rattle.desk_model.specs.Clerks.{is_clerk, is_allowed}
use Rattle.desk_model.specs.Desk.{meaning_at, command_at, tests_of, event_of, step}
use Rattle.desk_model.specs.Desk.{entry_length}
use Rattle.desk_model.proofs.TableScales.{AreFine, balance-fine, turnovers-fine, both-fine}
use Rattle.desk_model.proofs.TableScales.{account_balance-fine, account_turnovers-fine}
use Rattle.desk_model.proofs.TableScales.{account_both-fine, pairs-fine, documents-fine, doc-fine}
use Rattle.desk_model.proofs.ErrorLemmas.{IfOk-last, IfErr-then}
use Rattle.desk_model.proofs.RefusalScales.{Plainly, plan_write-plainly, plan_mark-plainly}
use Rattle.desk_model.proofs.RefusalScales.{plan_manual-plainly, plan_activity-plainly}
use Rattle.desk_model.proofs.RefusalScales.{plan_sweep-plainly, limits_of-plainly}
use Rattle.desk_model.proofs.RefusalScales.{entry_limit-plainly}
use Rattle.desk_model.specs.Journals.{entry_limit}
use Rattle.desk_model.proofs.RuleScales.{document_from-plainly, control_fault-plainly}
use Rattle.desk_model.proofs.RuleScales.{plan_post-plainly, plan_standing-plainly}
use Rattle.desk_model.proofs.RuleScales.{plan_unpost-plainly}

-- ---- effects

change_effect-fine : (tests : Tests) (setting : Setting) (state : State) (number : ℕ)
    (change : Change) → ((sight : Sight) (plan : Plan) (made : Result (Option Document) Refusal) →
    Plainly (tests.limits sight plan made)) → Plainly tests.entry →
    ((sight : Sight) → Plainly (change.plan sight)) →
    AreFine (change_effect tests setting state number change)
unfolding change_effect plan_effect work_effect
change_effect-fine tests setting state number change of_limits of_entry of_plan = record {
  answer =
      IfOk-last Answers (change.plan sight) _
      (λ plan. IfOk-last Answers (tests.limits sight plan (made plan)) _
      (λ u. IfOk-last Answers tests.entry _
      (λ v. IfOk-last Answers (made plan) _
      (λ after. IfOk-last Answers (none_or (fault plan after)) _ (λ held. tt)))));
  refusal =
      IfErr-then RefusalHasScales (change.plan sight) _ (of_plan sight)
      (λ plan. IfErr-then RefusalHasScales (tests.limits sight plan (made plan)) _
      (of_limits sight plan (made plan))
      (λ u. IfErr-then RefusalHasScales tests.entry _ of_entry
      (λ v. IfErr-then RefusalHasScales (made plan) _
      (document_from-plainly setting state.documents sight.before plan.doc plan.source)
      (λ after. IfErr-then RefusalHasScales (none_or (fault plan after)) _
      (control_fault-plainly setting plan (documents_with sight.before after state.documents)
      sight.before after) (λ held. tt)))));
}
  where
    sight : Sight
    sight = sight_of state number change

    made : Plan → Result (Option Document) Refusal
    made plan = made_at setting state sight plan

    fault : Plan → Option Document → Option Refusal
    fault plan after = control_fault setting plan
        (documents_with sight.before after state.documents) sight.before after

    Answers : Effect → Type 0
    Answers effect = AnswerHasScales effect.answer

-- a change at a desk
change-fine : (desk : Desk) (request : Request) (number : ℕ) (change : Change) →
    ((sight : Sight) → Plainly (change.plan sight)) →
    AreFine (change_effect (tests_of desk (meaning_at desk request) request)
    desk.setting desk.serial number change)
change-fine desk request number change =
    change_effect-fine (tests_of desk (meaning_at desk request) request)
    desk.setting desk.serial number change (limits_of-plainly desk.serial)
    (entry_limit-plainly desk.journal (entry_length desk request))

-- the deed of each request
deed-fine : (desk : Desk) (request : Request) →
    AreFine (deed_effect (tests_of desk (meaning_at desk request) request)
    desk.setting desk.serial (command_at desk request).number (meaning_at desk request).deed)
deed-fine desk (Write w) =
    change-fine desk (Write w) _ _ (plan_write-plainly desk.setting.config w)
deed-fine desk (Post (Content w)) =
    change-fine desk (Post (Content w)) _ _ (plan_post-plainly desk.setting.config w)
deed-fine desk (Post (Standing s)) =
    change-fine desk (Post (Standing s)) _ _ plan_standing-plainly
deed-fine desk (Unpost u) = change-fine desk (Unpost u) _ _ plan_unpost-plainly
deed-fine desk (Mark m) = change-fine desk (Mark m) _ _ (plan_mark-plainly m)
deed-fine desk (Manual m) =
    change-fine desk (Manual m) _ _ (plan_manual-plainly desk.setting.config m)
deed-fine desk (Activity m) = change-fine desk (Activity m) _ _ (plan_activity-plainly m)
deed-fine desk (Close c) =
    let entry = entry_limit desk.journal (entry_length desk (Close c)) in
    record {
      answer = IfOk-last (λ (e : Effect). AnswerHasScales e.answer) entry _ (λ u. tt);
      refusal = IfErr-then RefusalHasScales entry _
          (entry_limit-plainly desk.journal (entry_length desk (Close c))) (λ u. tt);
    }
deed-fine desk (Sweep s) = change-fine desk (Sweep s) _ _ plan_sweep-plainly
deed-fine desk (Balance b) = balance-fine desk.setting.config desk.serial b
deed-fine desk (Turnovers t) = turnovers-fine desk.setting.config desk.serial t
deed-fine desk (Both b) = both-fine desk.setting.config desk.serial b
deed-fine desk (AccountBalance b) = account_balance-fine desk.setting.config desk.serial b
deed-fine desk (AccountTurnovers t) = account_turnovers-fine desk.setting.config desk.serial t
deed-fine desk (AccountBoth t) = account_both-fine desk.setting.config desk.serial t
deed-fine desk (DrCr q) = pairs-fine desk.setting.config desk.serial q
deed-fine desk (Documents q) = documents-fine desk.setting.config desk.serial q
deed-fine desk (Doc q) = doc-fine desk.setting.config desk.serial q

event-scales : (desk : Desk) (meaning : Meaning) (command : Command)
    (tried : Result Effect Refusal) → AreFine tried →
    HasScales (event_of desk meaning command (or_stop tried)).reply
event-scales desk meaning command (Ok effect) fine = fine.answer
event-scales desk meaning command (Err refusal) fine = fine.refusal

-- a number is refused without one, and a repeat is acknowledged without one
number_after-scales : (desk : Desk) (meaning : Meaning) (command : Command) (last : Option Last)
    (number : ℕ) (r : Request) (done : Result Effect Stop) →
    HasScales (event_of desk meaning command done).reply →
    HasScales (event_of desk meaning command (number_after last number r >>= λ _. done)).reply
number_after-scales desk meaning command None number r done fine = fine
number_after-scales desk meaning command (Some last) number r done fine =
    at (nat_cmp number last.number) (is_same r last.request)
  where
    at : (order : Ordering) (same : Bool) → HasScales (event_of desk meaning command
        (match_ordering order (Err (refuses (Stale last.number)))
        (same_number same last.acknowledgement) (Ok tt) >>= λ _. done)).reply
    at Less same = tt
    at Equal true = tt
    at Equal false = tt
    at Greater same = fine

number_test-scales : (desk : Desk) (meaning : Meaning) (command : Command) (lasts : List Last)
    (clerk : List ℕ) (number : Option ℕ) (r : Request) (done : Result Effect Stop) →
    HasScales (event_of desk meaning command done).reply →
    HasScales (event_of desk meaning command
    (number_test lasts clerk number r >>= λ _. done)).reply
number_test-scales desk meaning command lasts clerk None r done fine = fine
number_test-scales desk meaning command lasts clerk (Some number) r done fine =
    number_after-scales desk meaning command (last_of clerk lasts) number r done fine

pub HasScales-step : (desk : Desk) (request : Request) → HasScales (step desk request).reply
unfolding step effect_of
HasScales-step desk request = at (is_clerk desk.setting.config meaning.clerk)
    (is_allowed desk.setting.config meaning.clerk meaning.right)
  where
    meaning : Meaning
    meaning = meaning_at desk request

    done : Result Effect Refusal
    done = deed_effect (tests_of desk meaning request) desk.setting desk.serial
        (command_at desk request).number meaning.deed

    at : (known allowed : Bool) → HasScales
        (event_of desk meaning (command_at desk request)
        (unless known (refuses UnknownClerk) >>= λ _. unless allowed
        (refuses (NotAllowed meaning.right)) >>= λ _.
        number_test desk.serial.lasts meaning.clerk meaning.number request >>= λ _.
        or_stop done)).reply
    at true true = number_test-scales desk meaning (command_at desk request) desk.serial.lasts
        meaning.clerk meaning.number request (or_stop done)
        (event-scales desk meaning (command_at desk request) done (deed-fine desk request))
    at true false = tt
    at false allowed = tt
