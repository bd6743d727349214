-- Refusals change nothing.
use Rattle.std.proofs.Common.{◌≡◌, Bool, true, false, cond, Result, Ok, Err, refl}
use Rattle.reg_base.specs.declared.line.Line.{Line}
use Rattle.desk_words.specs.declared.request.Request.{Request}
use Rattle.desk_words.specs.declared.fault.WordFault.{WordFault}
use Rattle.desk_words.specs.declared.reply.Refusal.TheVariants.{UnknownClerk}
use Rattle.desk_words.specs.Reading.{request}
use Rattle.desk_model.specs.State.{Desk, Command}
use Rattle.desk_model.specs.Plans.{Meaning}
use Rattle.desk_model.specs.Effects.{Effect}
use Rattle.desk_model.specs.Stops.{Stop}
use Rattle.desk_model.specs.Clerks.{is_batch}
use Rattle.desk_model.specs.Desk.{meaning_at, command_at, effect_at, event_of, step}
use Rattle.desk_model.specs.Answers.{is_blank_line, refusal_event, event_of_reading, line_event}
use Rattle.desk_model.specs.Answers.{line_desk}
use Rattle.desk_model.specs.Laws.{IsRefusal, RefusalKeeps}

event_of-refusal : (desk : Desk) (meaning : Meaning) (command : Command)
    (effect : Result Effect Stop) → IsRefusal (event_of desk meaning command effect).reply →
    (event_of desk meaning command effect).desk ≡ desk
event_of-refusal desk meaning command (Ok effect) h = absurd h
event_of-refusal desk meaning command (Err stop) h = refl

-- a request that is refused leaves the desk
pub step-refusal : (desk : Desk) (r : Request) → IsRefusal (step desk r).reply →
    (step desk r).desk ≡ desk
unfolding step
step-refusal desk r h = event_of-refusal desk (meaning_at desk r) (command_at desk r)
    (effect_at desk r) h

event-refusal : (desk : Desk) (reading : Result Request WordFault) →
    IsRefusal (event_of_reading desk reading).reply → (event_of_reading desk reading).desk ≡ desk
event-refusal desk (Ok r) h = at (is_batch (meaning_at desk r).clerk) h
  where
    at : (batch : Bool) → IsRefusal
        (cond batch (refusal_event desk UnknownClerk) (step desk r)).reply →
        (cond batch (refusal_event desk UnknownClerk) (step desk r)).desk ≡ desk
    at true e = refl
    at false e = step-refusal desk r e
event-refusal desk (Err fault) h = refl

-- so does a line
pub RefusalKeeps-always : (desk : Desk) (line : Line) → RefusalKeeps desk line
unfolding line_desk
RefusalKeeps-always desk line = λ h. at (is_blank_line line) (event-refusal desk (request line) h)
  where
    at : (blank : Bool) → (line_event desk line).desk ≡ desk →
        cond blank desk (line_event desk line).desk ≡ desk
    at true e = refl
    at false e = e
