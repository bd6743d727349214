-- What a step comes to: it stays, or its request enters as its clerk's last.
use Rattle.std.proofs.Common.{◌≡◌, ℕ, ◌<◌, Bool, true, false, Option, Some, None, List, [], ◌∷◌}
use Rattle.std.proofs.Common.{Result, Ok, Err, IfOk, refl, sym, ap, ◌⊎◌, inl, inr}
use Rattle.std.specs.Bool.{⊤}
use Rattle.std.proofs.lemmas.Cmp.{ranked}
use Rattle.std.specs.Ordering.{match_ordering, nat_cmp}
use Rattle.std.specs.declared.cmp.Ordering.{Ordering}
use Rattle.std.specs.declared.cmp.Ordering.TheVariants.{Less, Equal, Greater}
use Rattle.reg_base.specs.declared.right.Right.{Right}
use Rattle.reg_base.specs.Results.{◌>>=◌, unless}
use Rattle.desk_words.specs.declared.request.Request.{Request}
use Rattle.desk_words.specs.declared.request.Request.TheVariants.{Write, Post, Unpost, Mark, Manual}
use Rattle.desk_words.specs.declared.request.Request.TheVariants.{Activity, Close, Sweep, Balance}
use Rattle.desk_words.specs.declared.request.Request.TheVariants.{Doc, Turnovers, Both, Documents}
use Rattle.desk_words.specs.declared.request.Request.TheVariants.{AccountBalance, AccountTurnovers}
use Rattle.desk_words.specs.declared.request.Request.TheVariants.{AccountBoth, DrCr}
use Rattle.desk_words.specs.declared.request.Post.TheVariants.{Content, Standing}
use Rattle.desk_words.specs.declared.reply.Acknowledgement.{Acknowledgement}
use Rattle.desk_words.specs.declared.reply.Answer.{Answer}
use Rattle.desk_words.specs.declared.reply.Answer.TheVariants.{Acknowledged}
use Rattle.desk_words.specs.declared.reply.Reply.TheVariants.{Done}
use Rattle.desk_words.specs.declared.reply.Refusal.{Refusal}
use Rattle.desk_words.specs.declared.reply.Refusal.TheVariants.{UnknownClerk, NotAllowed, Stale}
use Rattle.desk_model.specs.declared.last.Last.{Last}
use Rattle.desk_model.specs.State.{Desk, Command}
use Rattle.desk_model.specs.Stops.{Stop, refuses, or_stop}
use Rattle.desk_model.specs.Clerks.{is_clerk, is_allowed}
use Rattle.desk_model.specs.LastRequests.{is_same, last_of, with_last, same_number, number_after}
use Rattle.desk_model.specs.LastRequests.{number_test}
use Rattle.desk_model.specs.Plans.{Change, Question, Deed, Meaning, changes, closes}
use Rattle.desk_model.specs.Meanings.{asking}
use Rattle.desk_model.specs.Questions.{question_doc, question_documents}
use Rattle.desk_model.specs.RegisterQuestions.{question_balance, question_turnovers, question_both}
use Rattle.desk_model.specs.LedgerQuestions.{question_account_balance, question_account_turnovers}
use Rattle.desk_model.specs.LedgerQuestions.{question_account_both, question_pairs}
use Rattle.desk_model.specs.Effects.{Effect, close_effect}
use Rattle.desk_model.specs.Serial.{change_effect, answer_effect}
use Rattle.desk_model.specs.Serial.{question_answer, question_effect, effect_of}
use Rattle.desk_model.specs.Desk.{Event, meaning_at, command_at, tests_of, commits_of, event_of}
use Rattle.desk_model.specs.Desk.{entry_length, step}
use Rattle.desk_model.specs.Journals.{entry_limit}
use Rattle.desk_model.proofs.Acknowledging.{Acknowledges, change_effect-acknowledges}
use Rattle.desk_model.proofs.Acknowledging.{close_effect-acknowledges}

-- ---- a number beside the last one

-- a number is above that of the last request, where there is one
abbrev pub IsAbove : Option Last → ℕ → Type 0
IsAbove None number = ⊤
IsAbove (Some last) number = last.number < number

number_after-above : (last : Option Last) (number : ℕ) (r : Request) →
    number_after last number r ≡ Ok tt → IsAbove last number
number_after-above None number r h = tt
number_after-above (Some last) number r h = at (nat_cmp number last.number) refl h
  where
    same : (b : Bool) → same_number b last.acknowledgement ≡ Ok tt → last.number < number
    same true e = absurd (cc)
    same false e = absurd (cc)

    at : (order : Ordering) → nat_cmp number last.number ≡ order →
        match_ordering order (Err (refuses (Stale last.number)))
        (same_number (is_same r last.request) last.acknowledgement) (Ok tt) ≡ Ok tt →
        last.number < number
    at Less is e = absurd (cc)
    at Equal is e = same (is_same r last.request) e
    at Greater is e = ranked number last.number Greater (sym is)

-- ---- the cases

-- nothing is committed, and the desk is as it was
pub record Stays (desk : Desk) (event : Event) : Type 0 where
  pub commits_none : event.commits ≡ []
  pub same : event.desk ≡ desk

-- the request is committed, and is its clerk's last
pub record Enters (desk : Desk) (meaning : Meaning) (r : Request) (event : Event) : Type 0 where
  pub number : ℕ
  pub acknowledgement : Acknowledgement
  pub known : is_clerk desk.setting.config meaning.clerk ≡ true
  pub allowed : is_allowed desk.setting.config meaning.clerk meaning.right ≡ true
  pub number_is : meaning.number ≡ Some number
  pub above : IsAbove (last_of meaning.clerk desk.serial.lasts) number
  pub commits_it : event.commits ≡ (command_at desk r ∷ []) ∷ []
  pub reply_is : event.reply ≡ Done (Acknowledged acknowledgement)
  pub lasts_are : event.desk.serial.lasts ≡ with_last
      (record {
        clerk = meaning.clerk;
        number = number;
        request = r;
        acknowledgement = acknowledgement;
      }) desk.serial.lasts
  pub setting_is : event.desk.setting ≡ desk.setting

-- an event of a request stays or enters
abbrev pub Comes : Desk → Meaning → Request → Event → Type 0
Comes desk meaning r event = Stays desk event ⊎ Enters desk meaning r event

-- what a request that means this comes to, once its clerk, his right, its number and its deed are
-- asked
abbrev event_by : Desk → Meaning → Request → Bool → Bool → Result (Unit {0}) Stop
    → Result Effect Refusal → Event
event_by desk meaning r known allowed numbered done = event_of desk meaning (command_at desk r)
    (unless known (refuses UnknownClerk) >>= λ _. unless allowed
    (refuses (NotAllowed meaning.right)) >>= λ _. numbered >>= λ _. or_stop done)

-- what is done under a number
abbrev numbered_deed : List ℕ → Right → ℕ → Bool → Deed → Meaning
numbered_deed clerk right number draws deed = record {
  clerk = clerk;
  right = right;
  number = Some number;
  draws = draws;
  deed = deed;
}

-- a deed commits its command, as an entry of its own
abbrev CommitsOne : Deed → Type 0
CommitsOne deed = (command : Command) → commits_of deed command ≡ (command ∷ []) ∷ []

module _ (desk : Desk) (r : Request) where
  deed-comes : (clerk : List ℕ) (right : Right) (number : ℕ) (draws : Bool) (deed : Deed) →
      (known allowed : Bool) (numbered : Result (Unit {0}) Stop) (done : Result Effect Refusal) →
      CommitsOne deed →
      is_clerk desk.setting.config clerk ≡ known →
      is_allowed desk.setting.config clerk right ≡ allowed →
      number_test desk.serial.lasts clerk (Some number) r ≡ numbered →
      IfOk done (Acknowledges desk.serial) →
      Comes desk (numbered_deed clerk right number draws deed) r
      (event_by desk (numbered_deed clerk right number draws deed) r known allowed numbered done)
  deed-comes clerk right number draws deed true true (Ok u) (Ok effect) one k a n ack =
      inr (record {
        number = number;
        acknowledgement = ack.acknowledgement;
        known = k;
        allowed = a;
        number_is = refl;
        above = number_after-above (last_of clerk desk.serial.lasts) number r n;
        commits_it = one (command_at desk r);
        reply_is = ap Done ack.answer_is;
        lasts_are = rw (ack.answer_is, ack.lasts_are);
        setting_is = refl;
      })
  deed-comes clerk right number draws deed true true (Ok u) (Err refusal) one k a n ack =
      inl (record { commits_none = refl; same = refl })
  deed-comes clerk right number draws deed true true (Err stop) done one k a n ack =
      inl (record { commits_none = refl; same = refl })
  deed-comes clerk right number draws deed true false numbered done one k a n ack =
      inl (record { commits_none = refl; same = refl })
  deed-comes clerk right number draws deed false allowed numbered done one k a n ack =
      inl (record { commits_none = refl; same = refl })

  -- a change of a document is a deed that comes
  change-comes : (clerk : List ℕ) (right : Right) (number : ℕ) (draws : Bool) (change : Change) →
      Comes desk (numbered_deed clerk right number draws (changes change)) r
      (event_by desk (numbered_deed clerk right number draws (changes change)) r
      (is_clerk desk.setting.config clerk) (is_allowed desk.setting.config clerk right)
      (number_test desk.serial.lasts clerk (Some number) r)
      (change_effect (tests_of desk (numbered_deed clerk right number draws (changes change))
      r) desk.setting desk.serial (command_at desk r).number change))
  change-comes clerk right number draws change =
      deed-comes clerk right number draws (changes change) _ _ _ _ (λ command. refl) refl refl refl
      (change_effect-acknowledges (tests_of desk
      (numbered_deed clerk right number draws (changes change)) r) desk.setting
      desk.serial (command_at desk r).number change)

  question-stays : (clerk : List ℕ) (question : Result Question Refusal) (known allowed : Bool) →
      Stays desk (event_by desk (asking clerk question) r known allowed (Ok tt)
      (question_effect desk.serial question))
  unfolding question_effect
  question-stays clerk question known allowed =
      at known allowed (question_answer desk.serial.documents question)
    where
      at : (known allowed : Bool) (answer : Result Answer Refusal) →
          Stays desk (event_by desk (asking clerk question) r known allowed (Ok tt)
          (answer >>= λ a. Ok (answer_effect desk.serial a)))
      at true true (Ok a) = record { commits_none = refl; same = refl }
      at true true (Err refusal) = record { commits_none = refl; same = refl }
      at true false answer = record { commits_none = refl; same = refl }
      at false allowed answer = record { commits_none = refl; same = refl }

-- each step stays or enters
pub step-comes : (desk : Desk) (r : Request) → Comes desk (meaning_at desk r) r (step desk r)
unfolding step effect_of
step-comes desk (Write w) = change-comes desk (Write w) w.clerk _ w.no _ _
step-comes desk (Post (Content w)) =
    change-comes desk (Post (Content w)) w.clerk _ w.no _ _
step-comes desk (Post (Standing s)) =
    change-comes desk (Post (Standing s)) s.clerk _ s.no _ _
step-comes desk (Unpost u) = change-comes desk (Unpost u) u.clerk _ u.no _ _
step-comes desk (Mark m) = change-comes desk (Mark m) m.clerk _ m.no _ _
step-comes desk (Manual m) = change-comes desk (Manual m) m.clerk _ m.no _ _
step-comes desk (Activity m) = change-comes desk (Activity m) m.clerk _ m.no _ _
step-comes desk (Close c) =
    let entry = entry_limit desk.journal (entry_length desk (Close c)) in
    deed-comes desk (Close c) c.clerk _ c.no _ (closes c.date) _ _ _
    (entry >>= λ _. Ok (close_effect desk.serial c.date)) (λ command. refl) refl refl refl
    (close_effect-acknowledges entry desk.serial c.date)
step-comes desk (Sweep s) = change-comes desk (Sweep s) s.clerk _ s.no _ _
step-comes desk (Balance b) = inl (question-stays desk (Balance b) b.clerk
    (question_balance desk.setting.config b) _ _)
step-comes desk (Turnovers t) = inl (question-stays desk (Turnovers t) t.clerk
    (question_turnovers desk.setting.config t) _ _)
step-comes desk (Both b) = inl (question-stays desk (Both b) b.turnovers.clerk
    (question_both desk.setting.config b) _ _)
step-comes desk (AccountBalance b) = inl (question-stays desk (AccountBalance b) b.clerk
    (question_account_balance desk.setting.config b) _ _)
step-comes desk (AccountTurnovers t) = inl (question-stays desk (AccountTurnovers t) t.clerk
    (question_account_turnovers desk.setting.config t) _ _)
step-comes desk (AccountBoth t) = inl (question-stays desk (AccountBoth t) t.clerk
    (question_account_both desk.setting.config t) _ _)
step-comes desk (DrCr q) = inl (question-stays desk (DrCr q) q.clerk
    (question_pairs desk.setting.config q) _ _)
step-comes desk (Documents q) = inl (question-stays desk (Documents q) q.clerk
    (question_documents desk.setting.config q) _ _)
step-comes desk (Doc q) = inl (question-stays desk (Doc q) q.clerk
    (question_doc desk.setting.config q) _ _)

-- a step leaves the setting
pub step-setting : (desk : Desk) (r : Request) → (step desk r).desk.setting ≡ desk.setting
step-setting desk r = elim (step-comes desk r) [
  | inl stays ↦ ap (λ (d : Desk). d.setting) stays.same
  | inr enters ↦ enters.setting_is
]
