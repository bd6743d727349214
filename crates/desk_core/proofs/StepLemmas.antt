-- What a step does, from what its request comes to.
use Rattle.std.proofs.Common.{◌≡◌, ℕ, ◌≤◌, Bool, true, false, nat_le, Option, Some, None}
use Rattle.std.proofs.Common.{List, [], ◌∷◌, ◌++◌, length, map, Result, Ok, Err, IfOk, refl, ap}
use Rattle.std.proofs.Common.{◌∙◌}
use Rattle.std.proofs.Common.{sym, subst, arith, length-append}
use Rattle.std.specs.Option.{ForSome}
use Rattle.std.proofs.lemmas.Bool.Decides.{nat_tests}
use Rattle.reg_base.specs.Numbers.{number_text}
use Rattle.reg_base.specs.Results.{◌>>=◌, unless}
use Rattle.post_journal.specs.declared.journal.Payload.{Payload}
use Rattle.desk_words.specs.RequestTexts.{request_text}
use Rattle.desk_words.specs.declared.request.Request.{Request}
use Rattle.desk_words.specs.declared.reply.Reply.{Reply}
use Rattle.desk_words.specs.declared.reply.Refusal.{Refusal}
use Rattle.desk_words.specs.declared.reply.Refusal.TheVariants.{Limit}
use Rattle.desk_words.specs.declared.reply.Limit.TheVariants.{Journal}
use Rattle.desk_words.specs.ReplyTexts.{reply_text}
use Rattle.desk_model.specs.State.{State, Desk, Command, Setting}
use Rattle.desk_model.specs.Plans.{Deed, Meaning, changes, closes, asks}
use Rattle.desk_model.specs.Journals.{command_text, commands_text, entry_limit, journal_with}
use Rattle.desk_model.specs.Journals.{longer}
use Rattle.desk_model.specs.Journals.{most_entry, most_journal}
use Rattle.desk_model.specs.Effects.{Effect, Tests, close_effect}
use Rattle.desk_model.specs.Serial.{change_effect, deed_effect, made_at, plan_effect, sight_of}
use Rattle.desk_model.specs.Stops.{Stop}
use Rattle.desk_model.specs.Desk.{meaning_at, command_at, commits_of, effect_at, Event, event_of}
use Rattle.desk_model.specs.Desk.{entry_length, step, tests_of}
use Rattle.desk_model.specs.declared.last.Last.{Last}
use Rattle.desk_model.specs.declared.plan.Plan.{Plan}
use Rattle.desk_model.specs.LastRequests.{lasts_with}
use Rattle.desk_words.specs.declared.reply.Answer.{Answer}
use Rattle.desk_words.specs.declared.reply.Answer.TheVariants.{Acknowledged, Balance, Shown}
use Rattle.desk_words.specs.declared.reply.Answer.TheVariants.{Turnovers, Both, AccountBalance}
use Rattle.desk_words.specs.declared.reply.Answer.TheVariants.{AccountTurnovers, AccountBoth, DrCr}
use Rattle.desk_words.specs.declared.reply.Answer.TheVariants.{Documents}
use Rattle.desk_words.specs.declared.reply.Reply.TheVariants.{Done}
use Rattle.desk_words.specs.declared.reply.Acknowledgement.{Acknowledgement}
use Rattle.desk_core.specs.declared.outcome.Change.{Change as CoreChange}
use Rattle.desk_core.specs.declared.outcome.Entry.{Entry}
use Rattle.desk_core.specs.declared.outcome.Outcome.TheVariants.{Replies, Changes}
use Rattle.desk_core.specs.declared.outcome.Prepared.{Prepared}
use Rattle.desk_core.specs.declared.way.Way.{Way}
use Rattle.desk_core.specs.declared.way.Way.TheVariants.{Served}
use Rattle.desk_core.specs.DeskViews.{changed, desk_with, MayChange, MayEnter}
use Rattle.desk_model.specs.Questions.{IsAnswer}
use Rattle.desk_core.specs.Outcomes.{Comes, IsEntered, IsReplied, Prepares, entry_texts}
use Rattle.desk_core.proofs.RequestLemmas.{answered-commits, effect-deed}

-- ---- an entry of a request that was accepted

-- the line of a command has its line feed
command-some : (c : Command) → 1 ≤ length (commands_text (c ∷ []))
command-some c =
    omega (
      arith,
      length-append (command_text c) [],
      length-append (number_text c.number) (32 ∷ (request_text c.request ++ 10 ∷ [])),
    )

entry-fits : (journal count : ℕ) → entry_limit journal count ≡ Ok tt →
    (count ≤ most_entry) × (longer journal count ≤ most_journal)
unfolding entry_limit
entry-fits journal count h =
    at (nat_le count most_entry) (nat_le (longer journal count) most_journal) refl refl h
  where
    at : (first second : Bool) → nat_le count most_entry ≡ first →
        nat_le (longer journal count) most_journal ≡ second →
        (unless first (Limit Journal most_entry) >>= λ _.
        unless second (Limit Journal most_journal)) ≡ Ok tt →
        (count ≤ most_entry) × (longer journal count ≤ most_journal)
    at true true f s e = (grind (arith, nat_tests, f), grind (arith, nat_tests, s))
    at true false f s e = absurd (cc)
    at false second f s e = absurd (cc)

-- a deed that commits something passed the test of its entry
deed-entered : (tests : Tests) (setting : Setting) (state : State) (number : ℕ) (deed : Deed)
    (effect : Effect) (command : Command) → deed_effect tests setting state number deed ≡ Ok effect
    → commits_of deed command ≡ (command ∷ []) ∷ [] → tests.entry ≡ Ok tt
unfolding change_effect plan_effect
deed-entered tests setting state number (changes change) effect command is commits =
    planned (change.plan (sight_of state number change)) is
  where
    passed : (entry : Result (Unit {0}) Refusal) (rest : Result Effect Refusal) →
        (entry >>= λ _. rest) ≡ Ok effect → entry ≡ Ok tt
    passed (Ok u) rest h = refl
    passed (Err refusal) rest h = absurd (cc)

    limited : (limits entry : Result (Unit {0}) Refusal) (rest : Result Effect Refusal) →
        (limits >>= λ _. entry >>= λ _. rest) ≡ Ok effect → entry ≡ Ok tt
    limited (Ok u) entry rest h = passed entry rest h
    limited (Err refusal) entry rest h = absurd (cc)

    planned : (plan : Result Plan Refusal) →
        (plan >>= λ p. plan_effect tests setting state number (sight_of state number change) p)
        ≡ Ok effect → tests.entry ≡ Ok tt
    planned (Ok p) h = limited (tests.limits (sight_of state number change) p
        (made_at setting state (sight_of state number change) p)) tests.entry _ h
    planned (Err refusal) h = absurd (cc)
deed-entered tests setting state number (closes date) effect command is commits =
    at tests.entry is
  where
    at : (entry : Result (Unit {0}) Refusal) →
        (entry >>= λ _. Ok (close_effect state date)) ≡ Ok effect → entry ≡ Ok tt
    at (Ok u) h = refl
    at (Err refusal) h = absurd (cc)
deed-entered tests setting state number (asks question) effect command is commits = absurd (cc)

-- so the entry of an accepted request is within its limits
entry-within : (desk : Desk) (r : Request) (effect : Effect) (count : ℕ) →
    entry_length desk r ≡ count → effect_at desk r ≡ Ok effect →
    commits_of (meaning_at desk r).deed (command_at desk r) ≡ (command_at desk r ∷ []) ∷ [] →
    (count ≤ most_entry) × (longer desk.journal count ≤ most_journal)
entry-within desk r effect count long is commits = entry-fits desk.journal count
    (ap (entry_limit desk.journal) (sym long)
    ∙ deed-entered (tests_of desk (meaning_at desk r) r) desk.setting desk.serial
    (command_at desk r).number (meaning_at desk r).deed effect (command_at desk r)
    (effect-deed desk r effect is) commits)

-- ---- steps

-- what is prepared of a request that is answered, or goes no further
pub step-replies : (way : Way) (desk : Desk) (r : Request) (reply : Reply) (prepared : Prepared) →
    Comes way desk (effect_at desk r) (Replies reply) → prepared.reply ≡ reply →
    prepared.text.items ≡ reply_text reply ++ 10 ∷ [] → prepared.entry ≡ None →
    Prepares desk r (step desk r) prepared
unfolding step
step-replies way desk r reply prepared comes reply_is text_is none =
    at (effect_at desk r) refl comes
  where
    kept : (clerk : List ℕ) (number : Option ℕ) (answer : Answer)
        (lasts : List Last) → IsAnswer answer → lasts_with clerk number r answer lasts ≡ lasts
    kept clerk None answer lasts is = refl
    kept clerk (Some n) (Acknowledged a) lasts is = absurd is
    kept clerk (Some n) (Balance rows scales) lasts is = refl
    kept clerk (Some n) (Turnovers balances rows scales) lasts is = refl
    kept clerk (Some n) (Both rows scales) lasts is = refl
    kept clerk (Some n) (AccountBalance rows scale) lasts is = refl
    kept clerk (Some n) (AccountTurnovers rows scale) lasts is = refl
    kept clerk (Some n) (AccountBoth rows scale) lasts is = refl
    kept clerk (Some n) (DrCr rows scale) lasts is = refl
    kept clerk (Some n) (Documents rows) lasts is = refl
    kept clerk (Some n) (Shown document) lasts is = refl

    made : (event : Event) → event.reply ≡ reply → event.desk ≡ desk → event.commits ≡ [] →
        Prepares desk r event prepared
    made event replied stays nothing = record {
      reply_is = replied ∙ sym reply_is;
      text_is = text_is ∙ ap (λ (x : Reply). reply_text x ++ 10 ∷ []) (sym replied);
      desk_is = stays ∙ ap (desk_with desk r) (sym none);
      entries_are = ap (map commands_text) nothing ∙ ap entry_texts (sym none);
      may = subst (λ (e : Option Entry). ForSome e (MayEnter desk)) (sym none) (λ x e. cc);
    }

    at : (effect : Result Effect Stop) → effect_at desk r ≡ effect →
        IsReplied desk effect reply →
        Prepares desk r (event_of desk (meaning_at desk r) (command_at desk r) effect) prepared
    at (Ok effect) is answers =
        let meaning : Meaning = meaning_at desk r in
        let nothing = answered-commits (tests_of desk meaning r) desk.setting desk.serial
        (command_at desk r).number meaning.deed effect (effect-deed desk r effect is)
        answers.answer (command_at desk r) in
        made (event_of desk meaning (command_at desk r) (Ok effect)) answers.reply_is
        (λ i. record desk {
          serial = record (answers.state_is i) {
            lasts = (ap (lasts_with meaning.clerk meaning.number r effect.answer)
                (ap (λ (s : State). s.lasts) answers.state_is)
                ∙ kept meaning.clerk meaning.number effect.answer desk.serial.lasts answers.answer)
                i;
          };
          journal = journal_with desk.journal (nothing i);
        }) nothing
    at (Err stop) is replied =
        made (event_of desk (meaning_at desk r) (command_at desk r) (Err stop)) replied refl refl

-- what is prepared of a change, whose entry has this text
pub step-changes : (desk : Desk) (r : Request) (change : CoreChange)
    (acknowledgement : Acknowledgement) (text : Payload) (prepared : Prepared) →
    text.bytes ≡ commands_text (command_at desk r ∷ []) →
    Comes (Served (length text.bytes)) desk (effect_at desk r) (Changes change acknowledgement) →
    IsEntered desk r (Changes change acknowledgement) →
    prepared.reply ≡ Done (Acknowledged acknowledgement) →
    prepared.text.items ≡ reply_text prepared.reply ++ 10 ∷ [] →
    prepared.entry ≡ Some (record {
      change = change;
      acknowledgement = acknowledgement;
      text = text;
    }) → Prepares desk r (step desk r) prepared
unfolding step
step-changes desk r change acknowledgement text prepared spelt comes commits reply_is text_is
    entry_is = at (effect_at desk r) refl comes
  where
    meaning : Meaning
    meaning = meaning_at desk r

    one : List (List Command)
    one = (command_at desk r ∷ []) ∷ []

    at : (effect : Result Effect Stop) → effect_at desk r ≡ effect →
        Comes (Served (length text.bytes)) desk effect (Changes change acknowledgement) →
        Prepares desk r (event_of desk meaning (command_at desk r) effect) prepared
    at (Err stop) is nothing = absurd nothing
    at (Ok effect) is leaves =
        let replied : Done effect.answer ≡ prepared.reply = ap Done leaves.answer_is
        ∙ sym reply_is in
        let state : effect.state ≡ (changed desk change).serial =
        ap (λ (d : Desk). d.serial) leaves.state_is in
        let setting : desk.setting ≡ (changed desk change).setting =
        ap (λ (d : Desk). d.setting) leaves.state_is in
        let long : journal_with desk.journal (commits_of meaning.deed (command_at desk r))
        ≡ longer desk.journal (length text.bytes) = ap (journal_with desk.journal) commits
        ∙ ap (λ (t : List ℕ). longer desk.journal (length t)) (sym spelt) in
        record {
          reply_is = replied;
          text_is = text_is ∙ ap (λ (x : Reply). reply_text x ++ 10 ∷ []) (sym replied);
          desk_is =
              (λ i. record {
                setting = setting i;
                serial = record (state i) {
                  lasts = lasts_with meaning.clerk meaning.number r (leaves.answer_is i)
                      (state i).lasts;
                };
                journal = long i;
              })
              ∙ ap (desk_with desk r) (sym entry_is);
          entries_are = ap (map commands_text) commits
              ∙ ap (λ (t : List ℕ). t ∷ []) (sym spelt) ∙ ap entry_texts (sym entry_is);
          may = subst (λ (e : Option Entry). ForSome e (MayEnter desk)) (sym entry_is)
              (λ x e. subst (MayEnter desk) (inner x e) (enters effect is leaves.may));
        }
      where
        inner : (x : Entry) → Some (record {
          change = change;
          acknowledgement = acknowledgement;
          text = text;
        }) ≡ Some x → (record {
          change = change;
          acknowledgement = acknowledgement;
          text = text;
        }) ≡ x
        inner x e = cc

        enters : (effect : Effect) → effect_at desk r ≡ Ok effect → MayChange desk change →
            MayEnter desk (record {
              change = change;
              acknowledgement = acknowledgement;
              text = text;
            })
        enters effect is may =
            let within = entry-within desk r effect (length text.bytes)
            (ap length (sym spelt)) is commits in
            record {
              may = may;
              some = subst (λ (t : List ℕ). 1 ≤ length t) (sym spelt)
                  (command-some (command_at desk r));
              most = within.0;
              low = within.1;
            }

-- ---- what is prepared

-- what three facts of a value have together
pub IfOk-three : {F X : Type 0} (P Q R S : X → Type 0) (r : Result X F) → IfOk r P → IfOk r Q →
    IfOk r R → ((x : X) → P x → Q x → R x → S x) → IfOk r S
IfOk-three P Q R S (Ok x) p q t all = all x p q t
IfOk-three P Q R S (Err fault) p q t all = tt

-- a reply that is given is that of the step
pub step-reply : (way : Way) (desk : Desk) (r : Request) (reply : Reply) →
    Comes way desk (effect_at desk r) (Replies reply) → (step desk r).reply ≡ reply
unfolding step
step-reply way desk r reply comes = at (effect_at desk r) comes
  where
    at : (effect : Result Effect Stop) → IsReplied desk effect reply →
        (event_of desk (meaning_at desk r) (command_at desk r) effect).reply ≡ reply
    at (Ok effect) answers = answers.reply_is
    at (Err stop) replied = replied
