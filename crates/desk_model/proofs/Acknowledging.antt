-- What is done under a number is acknowledged, and leaves the last requests to be written.
use Rattle.std.proofs.Common.{◌≡◌, ℕ, Some, Result, Ok, Err, IfOk, refl, subst}
use Rattle.reg_base.specs.Results.{◌>>=◌, none_or, unless}
use Rattle.desk_words.specs.declared.reply.Acknowledgement.{Acknowledgement}
use Rattle.desk_words.specs.declared.reply.Answer.TheVariants.{Acknowledged}
use Rattle.desk_words.specs.declared.reply.Refusal.{Refusal}
use Rattle.desk_words.specs.declared.reply.Refusal.TheVariants.{NotAllowed, UnknownClerk}
use Rattle.desk_model.specs.State.{Setting, State, Command}
use Rattle.desk_model.specs.Stops.{Stop, or_stop, refuses}
use Rattle.desk_model.specs.Clerks.{is_allowed, is_clerk}
use Rattle.desk_model.specs.Controls.{control_fault}
use Rattle.desk_model.specs.Effects.{Effect, Tests, close_effect, documents_with, no_tests}
use Rattle.desk_model.specs.Plans.{Change, Deed, Meaning, asks, changes, closes}
use Rattle.desk_model.specs.Meanings.{meaning_of}
use Rattle.desk_model.specs.Serial.{bad_number, change_effect, deed_effect, effect_of}
use Rattle.desk_model.specs.Serial.{is_drawn, made_at, or_fault, plan_effect, serial, sight_of}
use Rattle.desk_model.specs.Serial.{work_effect}
use Rattle.desk_model.proofs.ErrorLemmas.{IfOk-last}
use Rattle.desk_model.proofs.NumberedDeeds.{HasNumber, meaning-HasNumber}

-- what is done is acknowledged, and leaves the last requests
pub record Acknowledges (state : State) (effect : Effect) : Type 0 where
  pub acknowledgement : Acknowledgement
  pub answer_is : effect.answer ≡ Acknowledged acknowledgement
  pub lasts_are : effect.state.lasts ≡ state.lasts

pub change_effect-acknowledges : (tests : Tests) (setting : Setting) (state : State) (number : ℕ)
    (change : Change) → IfOk (change_effect tests setting state number change) (Acknowledges state)
unfolding change_effect plan_effect work_effect
change_effect-acknowledges tests setting state number change =
    let sight = sight_of state number change in
    IfOk-last (Acknowledges state) (change.plan sight) _
    (λ plan. IfOk-last (Acknowledges state) (tests.limits sight plan
    (made_at setting state sight plan)) _
    (λ u. IfOk-last (Acknowledges state) tests.entry _
    (λ v. IfOk-last (Acknowledges state) (made_at setting state sight plan) _
    (λ after. IfOk-last (Acknowledges state) (none_or (control_fault setting plan
    (documents_with sight.before after state.documents) sight.before after)) _
    (λ held. record { acknowledgement = _; answer_is = refl; lasts_are = refl })))))

pub close_effect-acknowledges : (entry : Result (Unit {0}) Refusal) (state : State) (date : ℕ) →
    IfOk (entry >>= λ _. Ok (close_effect state date)) (Acknowledges state)
close_effect-acknowledges entry state date = IfOk-last (Acknowledges state) entry _
    (λ u. record { acknowledgement = _; answer_is = refl; lasts_are = refl })

-- a deed that has a number
deed_effect-acknowledges : (tests : Tests) (setting : Setting) (state : State) (drawn number : ℕ)
    (deed : Deed) → HasNumber (Some number) deed →
    IfOk (deed_effect tests setting state drawn deed) (Acknowledges state)
deed_effect-acknowledges tests setting state drawn number (changes change) has =
    change_effect-acknowledges tests setting state drawn change
deed_effect-acknowledges tests setting state drawn number (closes date) has =
    close_effect-acknowledges tests.entry state date
deed_effect-acknowledges tests setting state drawn number (asks question) has = absurd (cc)

IfOk-or_stop : (P : Effect → Type 0) (came : Result Effect Refusal) → IfOk came P →
    IfOk (or_stop came) P
IfOk-or_stop P (Ok effect) holds = holds
IfOk-or_stop P (Err refusal) holds = tt

IfOk-or_fault : (P : Effect → Type 0) (came : Result Effect Stop) → IfOk came P →
    IfOk (or_fault came) P
IfOk-or_fault P (Ok effect) holds = holds
IfOk-or_fault P (Err stop) holds = tt

-- what the serial machine accepts under a request's number
pub serial-acknowledges : (setting : Setting) (state : State) (command : Command) (number : ℕ) →
    (meaning_of setting.config command.request).number ≡ Some number →
    IfOk (serial setting state command) (Acknowledges state)
unfolding serial effect_of
serial-acknowledges setting state command number is =
    let meaning : Meaning = meaning_of setting.config command.request in
    let has = subst (λ n. HasNumber n meaning.deed) is
    (meaning-HasNumber setting.config command.request) in
    IfOk-last (Acknowledges state) (unless (is_drawn state meaning.draws command.number)
    bad_number) _ (λ u. IfOk-or_fault (Acknowledges state) _
    (IfOk-last (Acknowledges state) (unless (is_clerk setting.config meaning.clerk)
    (refuses UnknownClerk)) _
    (λ v. IfOk-last (Acknowledges state) (unless
    (is_allowed setting.config meaning.clerk meaning.right) (refuses (NotAllowed meaning.right))) _
    (λ w. IfOk-or_stop (Acknowledges state) _ (deed_effect-acknowledges no_tests setting state
    command.number number meaning.deed has)))))
