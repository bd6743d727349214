-- Private: what a request comes to, before anything is committed.
use Rattle.std.specs.Prelude.{◌≡◌, ℕ, Option, None, Some, List, [], ◌∷◌, ◌++◌, Result, Ok, Err, ⊤}
use Rattle.std.specs.Option.{ForSome}
use Rattle.desk_words.specs.declared.reply.Acknowledgement.{Acknowledgement}
use Rattle.desk_words.specs.declared.reply.Answer.TheVariants.{Acknowledged}
use Rattle.desk_words.specs.declared.reply.Reply.{Reply}
use Rattle.desk_words.specs.declared.reply.Reply.TheVariants.{Done}
use Rattle.desk_words.specs.ReplyTexts.{reply_text}
use Rattle.desk_model.specs.State.{Desk}
use Rattle.desk_model.specs.Effects.{Effect}
use Rattle.desk_model.specs.Stops.{Stop}
use Rattle.reg_base.specs.Results.{◌>>=◌}
use Rattle.reg_base.specs.declared.records.Document.{Document}
use Rattle.desk_words.specs.declared.request.Request.{Request}
use Rattle.desk_words.specs.declared.reply.Refusal.{Refusal}
use Rattle.desk_model.specs.declared.plan.Plan.{Plan}
use Rattle.desk_model.specs.declared.plan.Source.{Source}
use Rattle.desk_model.specs.declared.plan.Source.TheVariants.{ByHand, ByRules, Kept, Nothing}
use Rattle.desk_model.specs.declared.plan.Source.TheVariants.{Removed}
use Rattle.desk_model.specs.Plans.{Sight}
use Rattle.desk_model.specs.Questions.{IsAnswer}
use Rattle.desk_model.specs.Effects.{Tests, close_effect}
use Rattle.desk_model.specs.Serial.{plan_effect, work_effect}
use Rattle.desk_model.specs.Desk.{Event, reply_at, meaning_at, command_at, commits_of}
use Rattle.desk_history.specs.Histories.{event_entries}
use Rattle.desk_core.specs.declared.outcome.Change.{Change}
use Rattle.desk_core.specs.declared.outcome.Entry.{Entry}
use Rattle.desk_core.specs.declared.outcome.Outcome.{Outcome}
use Rattle.desk_core.specs.declared.outcome.Outcome.TheVariants.{Replies, Changes}
use Rattle.desk_core.specs.declared.outcome.Prepared.{Prepared}
use Rattle.desk_core.specs.declared.way.Way.{Way}
use Rattle.desk_core.specs.declared.way.Way.TheVariants.{Served, Replayed}
use Rattle.desk_core.specs.DeskViews.{changed, desk_with, IsShortChange, MayChange, MayEnter}
use Rattle.desk_core.specs.Ways.{entry_test, limits_in}

-- the reply where a test stops a request
abbrev pub stop_reply : Result (Unit {0}) Stop → Option Reply
stop_reply (Ok u) = None
stop_reply (Err stop) = Some (reply_at stop)

-- an effect is answered, and changes nothing
pub record Answers (desk : Desk) (effect : Effect) (reply : Reply) : Type 0 where
  pub reply_is : Done effect.answer ≡ reply
  pub state_is : effect.state ≡ desk.serial
  pub answer : IsAnswer effect.answer

-- what is known of a change before it is made: a desk may make it, a replay asks first
abbrev pub MayMake : Way → Desk → Change → Type 0
MayMake (Served entry) desk change = MayChange desk change
MayMake (Replayed number) desk change = IsShortChange change

-- an effect is what a change does to the desk
pub record Leaves (way : Way) (desk : Desk) (effect : Effect) (change : Change)
    (acknowledgement : Acknowledgement) : Type 0 where
  pub answer_is : effect.answer ≡ Acknowledged acknowledgement
  pub state_is : record desk { serial = effect.state } ≡ changed desk change
  pub may : MayMake way desk change

-- what a question is replied, by its effect or by why it goes no further
abbrev pub IsReplied : Desk → Result Effect Stop → Reply → Type 0
IsReplied desk (Ok effect) reply = Answers desk effect reply
IsReplied desk (Err stop) reply = reply_at stop ≡ reply

-- what a request comes to, by its effect or by why it goes no further
abbrev pub Comes : Way → Desk → Result Effect Stop → Outcome → Type 0
Comes way desk tried (Replies reply) = IsReplied desk tried reply
Comes way desk (Ok effect) (Changes change acknowledgement) =
    Leaves way desk effect change acknowledgement
Comes way desk (Err stop) (Changes change acknowledgement) = ⊥

-- a request that changes something commits its command, as an entry of its own
abbrev pub IsEntered : Desk → Request → Outcome → Type 0
IsEntered desk request (Replies reply) = ⊤
IsEntered desk request (Changes change acknowledgement) =
    commits_of (meaning_at desk request).deed (command_at desk request)
    ≡ (command_at desk request ∷ []) ∷ []

-- the texts of what is left to be committed
abbrev pub entry_texts : Option Entry → List (List ℕ)
entry_texts None = []
entry_texts (Some entry) = entry.text.bytes ∷ []

-- what is prepared of a request is an event: its reply, the text of that, and an entry that makes
-- its desk and may be appended
pub record Prepares (desk : Desk) (request : Request) (event : Event) (prepared : Prepared)
    : Type 0 where
  pub reply_is : event.reply ≡ prepared.reply
  pub text_is : prepared.text.items ≡ reply_text event.reply ++ 10 ∷ []
  pub desk_is : event.desk ≡ desk_with desk request prepared.entry
  pub entries_are : event_entries event ≡ entry_texts prepared.entry
  pub may : ForSome prepared.entry (MayEnter desk)

-- ---- deeds

-- a reply as what a request comes to
abbrev pub as_outcome : {F : Type 0} → Result Reply F → Result Outcome F
as_outcome (Ok reply) = Ok (Replies reply)
as_outcome (Err fault) = Err fault

-- the effect of closing the books before a date
abbrev pub closing_effect : Way → Desk → ℕ → Result Effect Refusal
closing_effect way desk date = entry_test way desk >>= λ _. Ok (close_effect desk.serial date)

-- the effect of a plan, where there is one
abbrev pub planned_effect : Desk → Tests → Sight → Result Plan Refusal → Result Effect Refusal
planned_effect desk tests sight planned =
    planned >>= λ plan. plan_effect tests desk.setting desk.serial sight.drawn sight plan

-- the effect of a plan whose document was made, or could not be made
abbrev pub made_effect : Way → Desk → Sight → Plan → Result (Option Document) Refusal →
    Result Effect Refusal
made_effect way desk sight plan made = limits_in way desk sight plan made >>= λ _. made >>=
    work_effect desk.setting desk.serial sight.drawn sight plan

-- a plan's document is put, and not removed
abbrev pub IsPut : Source → Type 0
IsPut (ByHand given) = ⊤
IsPut ByRules = ⊤
IsPut Kept = ⊤
IsPut Nothing = ⊤
IsPut Removed = ⊥
