-- What a change comes to, from what its plan comes to.
use Rattle.std.proofs.Common.{◌≡◌, ℕ, Bool, true, false, cond, Option, Some, None, is_none, List}
use Rattle.std.proofs.Common.{Result, Ok, Err, IfOk, refl, sym, subst}
use Rattle.reg_base.specs.Results.{◌>>=◌, unless}
use Rattle.desk_words.specs.declared.request.Request.{Request}
use Rattle.desk_words.specs.declared.reply.Reply.{Reply}
use Rattle.desk_words.specs.declared.reply.Refusal.TheVariants.{UnknownClerk, NotAllowed}
use Rattle.desk_model.specs.Clerks.{is_clerk, is_allowed}
use Rattle.desk_model.specs.LastRequests.{number_test}
use Rattle.desk_words.specs.declared.reply.Refusal.{Refusal}
use Rattle.desk_model.specs.declared.plan.Plan.{Plan}
use Rattle.desk_model.specs.State.{State, Desk}
use Rattle.desk_model.specs.Plans.{Sight}
use Rattle.desk_model.specs.Effects.{Tests}
use Rattle.desk_model.specs.Stops.{Stop, refuses, or_stop}
use Rattle.desk_model.specs.Serial.{change_effect, deed_effect, effect_of}
use Rattle.desk_model.specs.Desk.{command_at, meaning_at, effect_at, reply_at, tests_of}
use Rattle.desk_model.specs.Desk.{entry_length}
use Rattle.desk_core.specs.declared.outcome.Outcome.{Outcome}
use Rattle.desk_core.specs.declared.outcome.Outcome.TheVariants.{Replies}
use Rattle.desk_core.specs.Outcomes.{Comes, planned_effect, stop_reply}
use Rattle.desk_core.specs.declared.way.Way.{Way}
use Rattle.desk_core.specs.declared.way.Way.TheVariants.{Served}
use Rattle.desk_core.specs.Ways.{deed_in, new_number}
use Rattle.desk_core.specs.SeenStates.{drawn_for, sight_at}

-- a new document draws a number
pub drawn-new : (way : Way) (state : State) (doc : Option ℕ) →
    cond (is_none doc) (new_number way state) 0 ≡ drawn_for way state doc
drawn-new way state None = refl
drawn-new way state (Some number) = refl

pub change-comes : {F : Type 0} (way : Way) (desk : Desk) (tests : Tests) (number : ℕ) (doc : Option
    ℕ)
    (key : Option (List ℕ)) (plan : Sight → Result Plan Refusal) (sight : Sight)
    (result : Result Outcome F) → number ≡ drawn_for way desk.serial doc →
    sight ≡ sight_at way desk.serial doc key →
    IfOk result (Comes way desk (or_stop (planned_effect desk tests sight (plan sight)))) →
    IfOk result (Comes way desk (or_stop (change_effect tests desk.setting desk.serial number
    (record { doc = doc; key = key; plan = plan }))))
unfolding change_effect
change-comes way desk tests number doc key plan sight result drawn same comes =
    subst (λ n. IfOk result (Comes way desk (or_stop (change_effect tests desk.setting desk.serial n
    (record { doc = doc; key = key; plan = plan }))))) (sym drawn)
    (subst (λ (s : Sight). IfOk result (Comes way desk (or_stop
    (planned_effect desk tests s (plan s))))) same comes)

-- a number that is not above the clerk's last one stops the request
pub number-stops : (way : Way) (desk : Desk) (request : Request) (reply : Reply) →
    is_clerk desk.setting.config (meaning_at desk request).clerk ≡ true →
    is_allowed desk.setting.config (meaning_at desk request).clerk
    (meaning_at desk request).right ≡ true →
    Some reply ≡ stop_reply (number_test desk.serial.lasts (meaning_at desk request).clerk
    (meaning_at desk request).number request) →
    Comes way desk (effect_at desk request) (Replies reply)
unfolding effect_of
number-stops way desk request reply known allowed stopped =
    at (is_clerk desk.setting.config (meaning_at desk request).clerk)
    (is_allowed desk.setting.config (meaning_at desk request).clerk
    (meaning_at desk request).right) known allowed
    (number_test desk.serial.lasts (meaning_at desk request).clerk
    (meaning_at desk request).number request) stopped
  where
    at : (is_known is_allowed : Bool) → is_known ≡ true → is_allowed ≡ true →
        (test : Result (Unit {0}) Stop) → Some reply ≡ stop_reply test →
        Comes way desk (unless is_known (refuses UnknownClerk) >>= λ _. unless is_allowed
        (refuses (NotAllowed (meaning_at desk request).right)) >>= λ _. test >>= λ _. or_stop
        (deed_effect (tests_of desk (meaning_at desk request) request) desk.setting
        desk.serial (command_at desk request).number (meaning_at desk request).deed))
        (Replies reply)
    at true true k a (Ok u) h = cc
    at true true k a (Err stop) h = let same : reply_at stop ≡ reply = cc in same
    at true false k a test h = cc
    at false allowed k a test h = cc

-- a number that is above it lets the request go on to its deed
pub number-goes : {F : Type 0} (entry : ℕ) (desk : Desk) (request : Request)
    (result : Result Outcome F) → entry ≡ entry_length desk request →
    is_clerk desk.setting.config (meaning_at desk request).clerk ≡ true →
    is_allowed desk.setting.config (meaning_at desk request).clerk
    (meaning_at desk request).right ≡ true →
    None ≡ stop_reply (number_test desk.serial.lasts (meaning_at desk request).clerk
    (meaning_at desk request).number request) →
    IfOk result (Comes (Served entry) desk (or_stop (deed_in (Served entry)
    (number_test desk.serial.lasts (meaning_at desk request).clerk
    (meaning_at desk request).number request) desk request))) →
    IfOk result (Comes (Served entry) desk (effect_at desk request))
unfolding effect_of
number-goes {F} entry desk request result long known allowed goes comes =
    at (is_clerk desk.setting.config (meaning_at desk request).clerk)
    (is_allowed desk.setting.config (meaning_at desk request).clerk
    (meaning_at desk request).right) known allowed
    (number_test desk.serial.lasts (meaning_at desk request).clerk
    (meaning_at desk request).number request) goes
    (subst (λ n. IfOk result (Comes (Served entry) desk (or_stop (deed_in (Served n)
    (number_test desk.serial.lasts (meaning_at desk request).clerk
    (meaning_at desk request).number request) desk request)))) long comes)
  where
    at : (is_known is_allowed : Bool) → is_known ≡ true → is_allowed ≡ true →
        (test : Result (Unit {0}) Stop) → None ≡ stop_reply test →
        IfOk result (Comes (Served entry) desk (or_stop
        (deed_effect (tests_of desk (meaning_at desk request) request) desk.setting
        desk.serial (command_at desk request).number (meaning_at desk request).deed))) →
        IfOk result (Comes (Served entry) desk
        (unless is_known (refuses UnknownClerk) >>= λ _. unless is_allowed
        (refuses (NotAllowed (meaning_at desk request).right)) >>= λ _. test >>= λ _. or_stop
        (deed_effect (tests_of desk (meaning_at desk request) request) desk.setting
        desk.serial (command_at desk request).number (meaning_at desk request).deed)))
    at true true k a (Ok u) h c = c
    at true true k a (Err stop) h c = absurd (cc)
    at true false k a test h c = absurd (cc)
    at false allowed k a test h c = absurd (cc)
