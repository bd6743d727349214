-- What a desk commits replays to the state that it leaves.
use Rattle.std.proofs.Common.{◌≡◌, ℕ, ◌+◌, ◌<◌, ◌^◌, Bool, true, false, cond, nat_lt}
use Rattle.std.proofs.Common.{nat_le, is_some, List, [], ◌∷◌, ◌++◌, Option, Some, None}
use Rattle.std.proofs.Common.{Result, Ok, Err, IfOk, refl, ap, ◌∙◌, sym, subst}
use Rattle.std.proofs.Common.{arith, append-nil}
use Rattle.std.proofs.lemmas.Bool.Decides.{nat_tests}
use Rattle.std.proofs.lemmas.Cmp.{ranked}
use Rattle.std.specs.Ordering.{match_ordering, nat_cmp}
use Rattle.std.specs.declared.cmp.Ordering.{Ordering}
use Rattle.std.specs.declared.cmp.Ordering.TheVariants.{Less, Equal, Greater}
use Rattle.reg_base.specs.declared.line.Line.{Line}
use Rattle.reg_base.specs.Results.{◌>>=◌, unless, some_or}
use Rattle.desk_words.specs.declared.fault.WordFault.{WordFault}
use Rattle.desk_words.specs.declared.request.Request.{Request}
use Rattle.desk_words.specs.declared.reply.Answer.{Answer}
use Rattle.desk_words.specs.declared.reply.Refusal.{Refusal}
use Rattle.desk_words.specs.declared.reply.Refusal.TheVariants.{UnknownClerk, NotAllowed, Stale}
use Rattle.desk_words.specs.Reading.{request}
use Rattle.desk_words.specs.WellFormed.{IsRequest}
use Rattle.desk_model.specs.declared.last.Last.{Last}
use Rattle.desk_model.specs.State.{Setting, State, Desk, Command, first_state}
use Rattle.desk_model.specs.Stops.{Stop, refuses, or_stop}
use Rattle.desk_model.specs.Effects.{Effect}
use Rattle.desk_model.specs.Plans.{Meaning, Deed, Question, changes, closes, asks}
use Rattle.desk_model.specs.Clerks.{is_allowed, is_batch, is_clerk}
use Rattle.desk_model.specs.LastRequests.{is_same, last_of, number_after, number_test, same_number}
use Rattle.desk_model.specs.Limits.{greatest_number, records_in}
use Rattle.desk_model.specs.Serial.{answer_effect, deed_effect, effect_of, question_answer}
use Rattle.desk_model.specs.Serial.{question_effect, state_kept}
use Rattle.desk_model.specs.Desk.{Event, command_at, effect_at, event_of, meaning_at, next_number}
use Rattle.desk_model.specs.Desk.{step, tests_of}
use Rattle.desk_model.specs.Answers.{event_of_reading, is_blank_line, line_desk}
use Rattle.desk_model.specs.Answers.{refusal_event}
use Rattle.desk_model.specs.Laws.{AreNumbered, Replays}
use Rattle.desk_model.specs.Journals.{commands_text}
use Rattle.desk_model.proofs.ForAbove.{HasNumber, meaning-HasNumber}
use Rattle.desk_history.specs.Entries.{command_of}
use Rattle.desk_history.specs.Replays.{is_above, is_next, most_replayed_records}
use Rattle.desk_history.specs.Replays.{replay_command, replay_entry, replay_from, replayed}
use Rattle.desk_history.specs.Histories.{AreFew, LineReplays, StepReplays}
use Rattle.desk_history.specs.Histories.{event_entries, line_entries}

-- ---- one entry behind others

-- entries replay one behind another
replay-append : (setting : Setting) (state : State) (index : ℕ) (xs ys : List (List ℕ))
    (next : State) → replay_from setting state index xs ≡ Ok next
    → (j : ℕ) × (replay_from setting state index (xs ++ ys) ≡ replay_from setting next j ys)
replay-append setting state index [] ys next is =
    let same : state ≡ next = cc in
    (index, ap (λ s. replay_from setting s index ys) same)
replay-append setting state index (x ∷ xs) ys next is =
    at (replay_entry setting state x)
    (λ s e. replay-append setting s (index + 1) xs ys next e) is
  where
    at : (one : Option State)
        → ((s : State) → replay_from setting s (index + 1) xs ≡ Ok next
        → (j : ℕ) × (replay_from setting s (index + 1) (xs ++ ys) ≡ replay_from setting next j ys))
        → (some_or one index >>= λ s. replay_from setting s (index + 1) xs) ≡ Ok next
        → (j : ℕ) × ((some_or one index >>= λ s. replay_from setting s (index + 1) (xs ++ ys))
        ≡ replay_from setting next j ys)
    at None others e = absurd (cc)
    at (Some s) others e = others s e

-- one entry more
replayed-more : (setting : Setting) (entries : List (List ℕ)) (entry : List ℕ)
    (state next : State) → replayed setting entries ≡ Ok state
    → replay_entry setting state entry ≡ Some next
    → replayed setting (entries ++ entry ∷ []) ≡ Ok next
replayed-more setting entries entry state next so one =
    let more = replay-append setting first_state 1 entries (entry ∷ []) state so in
    more.1 ∙ ap (λ o. some_or o more.0 >>= λ s. Ok s) one

-- ---- a number that was asked

-- a number that passed beside the clerk's last is above it
is_above-passed : (last : Option Last) (number : ℕ) (r : Request) →
    number_after last number r ≡ Ok tt → is_above last number ≡ true
is_above-passed None number r h = refl
is_above-passed (Some last) number r h = at (nat_cmp number last.number) refl h
  where
    same : (b : Bool) → same_number b last.acknowledgement ≡ Ok tt →
        nat_lt last.number number ≡ true
    same true e = absurd (cc)
    same false e = absurd (cc)

    at : (order : Ordering) → nat_cmp number last.number ≡ order →
        match_ordering order (Err (refuses (Stale last.number)))
        (same_number (is_same r last.request) last.acknowledgement) (Ok tt) ≡ Ok tt →
        nat_lt last.number number ≡ true
    at Less is e = absurd (cc)
    at Equal is e = same (is_same r last.request) e
    at Greater is e =
        let less : last.number < number = ranked number last.number Greater (sym is) in
        grind (arith, nat_tests, less)

-- what passed a test of its number is above its clerk's last
is_next-passed : (lasts : List Last) (clerk : List ℕ) (number : Option ℕ) (r : Request) →
    is_some number ≡ true → number_test lasts clerk number r ≡ Ok tt →
    is_next lasts clerk number ≡ true
is_next-passed lasts clerk None r some h = absurd (cc)
is_next-passed lasts clerk (Some number) r some h =
    is_above-passed (last_of clerk lasts) number r h

-- an effect passed the test of its number, and is that of its deed
passed : (known allowed : Bool) (first second : Stop) (number : Result (Unit {0}) Stop)
    (done : Result Effect Stop) (effect : Effect) →
    (unless known first >>= λ _. unless allowed second >>= λ _. number >>= λ _. done) ≡ Ok effect →
    (number ≡ Ok tt) × (done ≡ Ok effect)
passed true true first second (Ok tt) done effect e = (refl, e)
passed true true first second (Err stop) done effect e = absurd (cc)
passed true false first second number done effect e = absurd (cc)
passed false allowed first second number done effect e = absurd (cc)

-- ---- questions

-- a question leaves the state
question-keeps : (state : State) (question : Result Question Refusal) (effect : Effect) →
    or_stop (question_effect state question) ≡ Ok effect → effect.state ≡ state
unfolding question_effect
question-keeps state question effect e = at (question_answer state.documents question) e
  where
    at : (answer : Result Answer Refusal) →
        or_stop (answer >>= λ a. Ok (answer_effect state a)) ≡ Ok effect → effect.state ≡ state
    at (Ok a) h = cc
    at (Err refusal) h = absurd (cc)

-- ---- a request that is accepted

-- entries with those of an event behind them replay to the state that it leaves
abbrev LeavesReplayed : Desk → List (List ℕ) → Event → Type 0
LeavesReplayed desk entries event =
    replayed desk.setting (entries ++ event_entries event) ≡ Ok event.desk.serial

-- a drawn number fits
next_number-small : (state : State) → next_number state < 2 ^ 32
next_number-small state = at (nat_lt state.top greatest_number) refl
  where
    at : (b : Bool) → nat_lt state.top greatest_number ≡ b → cond b (state.top + 1) 0 < 2 ^ 32
    at true h = grind (arith, nat_tests, h)
    at false h = omega arith

command-small : (desk : Desk) (r : Request) → (command_at desk r).number < 2 ^ 32
command-small desk r = at (meaning_at desk r).draws
  where
    at : (b : Bool) → cond b (next_number desk.serial) 0 < 2 ^ 32
    at true = next_number-small desk.serial
    at false = omega arith

-- an accepted request passed the test of its number, and has the effect of its deed
accepted-passed : (desk : Desk) (r : Request) (effect : Effect) → effect_at desk r ≡ Ok effect →
    (number_test desk.serial.lasts (meaning_at desk r).clerk (meaning_at desk r).number r ≡ Ok tt)
    × (or_stop (deed_effect (tests_of desk (meaning_at desk r) r) desk.setting desk.serial
    (command_at desk r).number (meaning_at desk r).deed) ≡ Ok effect)
unfolding effect_of
accepted-passed desk r effect accepted =
    let meaning = meaning_at desk r in
    let tests = tests_of desk meaning r in
    passed (is_clerk desk.setting.config meaning.clerk)
    (is_allowed desk.setting.config meaning.clerk meaning.right) (refuses UnknownClerk)
    (refuses (NotAllowed meaning.right)) tests.number (or_stop (deed_effect tests desk.setting
    desk.serial (command_at desk r).number meaning.deed)) effect accepted

module _ (read_back : (c : Command) → c.number < 2 ^ 32 → IsRequest c.request
    → command_of (commands_text (c ∷ [])) ≡ Some c)
    (replays : (desk : Desk) (r : Request) → Replays desk r) where
  -- the entry of an accepted change replays to the state that it leaves
  entry-replays : (desk : Desk) (r : Request) (effect : Effect) → IsRequest r →
      AreNumbered desk.serial → is_some (meaning_at desk r).number ≡ true →
      effect_at desk r ≡ Ok effect → AreFew (state_kept (meaning_at desk r) r effect) →
      replay_entry desk.setting desk.serial (commands_text (command_at desk r ∷ []))
      ≡ Some (state_kept (meaning_at desk r) r effect)
  unfolding replay_entry replay_command
  entry-replays desk r effect is numbered has accepted few =
      let meaning = meaning_at desk r in
      let number = (accepted-passed desk r effect accepted).0 in
      let next : is_next desk.serial.lasts meaning.clerk meaning.number ≡ true =
      is_next-passed desk.serial.lasts meaning.clerk meaning.number r has number in
      let within : nat_le (records_in (state_kept meaning r effect).documents)
      most_replayed_records ≡ true = grind (arith, nat_tests, few) in
      rw (
        read_back (command_at desk r) (command-small desk r) is,
        next,
        replays desk r effect numbered accepted,
        within,
      ) refl

  -- what a request comes to replays
  pub step-replays : (desk : Desk) (r : Request) → StepReplays desk r
  unfolding step
  step-replays desk r is numbered few entries so =
      at (effect_at desk r) refl few
    where
      meaning : Meaning
      meaning = meaning_at desk r

      kept : replayed desk.setting (entries ++ []) ≡ Ok desk.serial
      kept = ap (replayed desk.setting) (append-nil entries) ∙ so

      done : (effect : Effect) → effect_at desk r ≡ Ok effect →
          AreFew (state_kept meaning r effect) → (number : Option ℕ) (deed : Deed) →
          meaning.number ≡ number → meaning.deed ≡ deed → HasNumber number deed →
          LeavesReplayed desk entries (event_of desk
          (record meaning { number = number; deed = deed }) (command_at desk r) (Ok effect))
      done effect accepted within number (changes change) n d has =
          replayed-more desk.setting entries _ desk.serial _ so
          (entry-replays desk r effect is numbered (ap is_some n ∙ has) accepted within
          ∙ ap (λ k. Some (state_kept (record meaning { number = k }) r effect)) n)
      done effect accepted within number (closes date) n d has =
          replayed-more desk.setting entries _ desk.serial _ so
          (entry-replays desk r effect is numbered (ap is_some n ∙ has) accepted within
          ∙ ap (λ k. Some (state_kept (record meaning { number = k }) r effect)) n)
      done effect accepted within None (asks question) n d has =
          let did : or_stop (deed_effect (tests_of desk meaning r) desk.setting desk.serial
          (command_at desk r).number (asks question)) ≡ Ok effect =
          subst (λ deed. or_stop (deed_effect (tests_of desk meaning r) desk.setting desk.serial
          (command_at desk r).number deed) ≡ Ok effect) d
          (accepted-passed desk r effect accepted).1 in
          kept ∙ ap Ok (sym (question-keeps desk.serial question effect did))
      done effect accepted within (Some number) (asks question) n d has = absurd (cc)

      at : (came : Result Effect Stop) → effect_at desk r ≡ came →
          AreFew (event_of desk meaning (command_at desk r) came).desk.serial →
          LeavesReplayed desk entries (event_of desk meaning (command_at desk r) came)
      at (Err stop) e within = kept
      at (Ok effect) e within = done effect e within meaning.number meaning.deed refl refl
          (meaning-HasNumber desk.setting.config r)

  -- what a line comes to replays
  pub line-replays : (desk : Desk) (line : Line) → LineReplays desk line
  unfolding line_entries line_desk
  line-replays desk line is numbered few entries so =
      asked (is_blank_line line) (request line) is few
    where
      kept : replayed desk.setting (entries ++ []) ≡ Ok desk.serial
      kept = ap (replayed desk.setting) (append-nil entries) ∙ so

      by_clerk : (r : Request) → IsRequest r → (batch : Bool) →
          let event : Event = cond batch (refusal_event desk UnknownClerk) (step desk r) in
          AreFew event.desk.serial →
          replayed desk.setting (entries ++ event_entries event) ≡ Ok event.desk.serial
      by_clerk r well true within = kept
      by_clerk r well false within = step-replays desk r well numbered within entries so

      asked : (blank : Bool) (reading : Result Request WordFault) → IfOk reading IsRequest →
          AreFew (cond blank desk (event_of_reading desk reading).desk).serial →
          replayed desk.setting
          (entries ++ cond blank [] (event_entries (event_of_reading desk reading)))
          ≡ Ok (cond blank desk (event_of_reading desk reading).desk).serial
      asked true reading well within = kept
      asked false (Ok r) well within =
          by_clerk r well (is_batch (meaning_at desk r).clerk) within
      asked false (Err fault) well within = kept
