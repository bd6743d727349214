-- What a request comes to, by what it does: questions are replied, changes commit their command.
use Rattle.std.proofs.Common.{◌≡◌, ℕ, Bool, true, false, [], ◌∷◌, Result, Ok, Err, IfOk, refl}
use Rattle.std.proofs.Common.{ap, sym, subst}
use Rattle.reg_base.specs.Results.{◌>>=◌, unless, none_or}
use Rattle.reg_base.proofs.ForAbove.{IfOk-next}
use Rattle.desk_words.specs.declared.request.Request.{Request}
use Rattle.desk_words.specs.declared.request.Request.TheVariants.{Close, Post}
use Rattle.desk_words.specs.declared.request.Close.{Close as CloseRequest}
use Rattle.desk_words.specs.declared.request.Post.{Post as PostRequest}
use Rattle.desk_words.specs.declared.request.Post.TheVariants.{Content, Standing}
use Rattle.desk_words.specs.declared.reply.Acknowledgement.{Acknowledgement}
use Rattle.desk_words.specs.declared.reply.Answer.TheVariants.{Acknowledged}
use Rattle.desk_words.specs.declared.reply.Refusal.{Refusal}
use Rattle.desk_words.specs.declared.reply.Refusal.TheVariants.{UnknownClerk, NotAllowed}
use Rattle.desk_words.specs.declared.reply.Reply.{Reply}
use Rattle.desk_model.specs.State.{Setting, State, Desk, Command}
use Rattle.desk_model.specs.Plans.{Change, Deed, changes, closes, asks}
use Rattle.desk_model.specs.Questions.{IsAnswer}
use Rattle.desk_model.specs.Stops.{Stop, or_stop, refuses}
use Rattle.desk_model.specs.Effects.{Effect, Tests, close_effect, documents_with}
use Rattle.desk_model.specs.Controls.{control_fault}
use Rattle.desk_model.specs.Clerks.{is_allowed, is_clerk}
use Rattle.desk_model.specs.Serial.{change_effect, deed_effect, effect_of, made_at, plan_effect}
use Rattle.desk_model.specs.Serial.{sight_of, work_effect}
use Rattle.desk_model.specs.Desk.{command_at, commits_of, effect_at, meaning_at, tests_of}
use Rattle.desk_core.specs.declared.outcome.Outcome.{Outcome}
use Rattle.desk_core.specs.declared.outcome.Outcome.TheVariants.{Replies, Changes}
use Rattle.desk_core.specs.declared.way.Way.{Way}
use Rattle.desk_core.specs.Outcomes.{Comes, IsEntered, IsReplied, as_outcome}

-- ---- a reply

as-comes : {F : Type 0} (way : Way) (desk : Desk) (tried : Result Effect Stop)
    (reply : Result Reply F) → IfOk reply (IsReplied desk tried) →
    IfOk (as_outcome reply) (Comes way desk tried)
as-comes way desk tried (Ok r) h = h
as-comes way desk tried (Err fault) h = tt

pub reply-comes : {F : Type 0} (way : Way) (desk : Desk) (tried : Result Effect Stop)
    (reply : Result Reply F) (result : Result Outcome F) → result ≡ as_outcome reply →
    IfOk reply (IsReplied desk tried) → IfOk result (Comes way desk tried)
reply-comes {F} way desk tried reply result is replied =
    subst (λ (r : Result Outcome F). IfOk r (Comes way desk tried)) (sym is)
    (as-comes way desk tried reply replied)

as-entered : {F : Type 0} (desk : Desk) (request : Request) (reply : Result Reply F) →
    IfOk (as_outcome reply) (IsEntered desk request)
as-entered desk request (Ok r) = tt
as-entered desk request (Err fault) = tt

pub reply-entered : {F : Type 0} (desk : Desk) (request : Request) (reply : Result Reply F)
    (result : Result Outcome F) → result ≡ as_outcome reply →
    IfOk result (IsEntered desk request)
reply-entered {F} desk request reply result is =
    subst (λ (r : Result Outcome F). IfOk r (IsEntered desk request)) (sym is)
    (as-entered desk request reply)

-- ---- an entry

-- a request whose deed commits its command
pub any-entered : {F : Type 0} (desk : Desk) (request : Request) (result : Result Outcome F) →
    commits_of (meaning_at desk request).deed (command_at desk request)
    ≡ (command_at desk request ∷ []) ∷ [] → IfOk result (IsEntered desk request)
any-entered desk request (Ok (Replies reply)) commits = tt
any-entered desk request (Ok (Changes change acknowledgement)) commits = commits
any-entered desk request (Err fault) commits = tt

pub close-entered : (desk : Desk) (c : CloseRequest) (o : Outcome) → IsEntered desk (Close c) o
close-entered desk c (Replies reply) = tt
close-entered desk c (Changes change acknowledgement) = refl

pub post-commits : (desk : Desk) (p : PostRequest) →
    commits_of (meaning_at desk (Post p)).deed (command_at desk (Post p))
    ≡ (command_at desk (Post p) ∷ []) ∷ []
post-commits desk (Content w) = refl
post-commits desk (Standing s) = refl

-- ---- an answer that acknowledges nothing

-- an effect acknowledges something
record IsAcknowledged (effect : Effect) : Type 0 where
  acknowledgement : Acknowledgement
  answer_is : effect.answer ≡ Acknowledged acknowledgement

change-acknowledged : (tests : Tests) (setting : Setting) (state : State) (number : ℕ)
    (change : Change) →
    IfOk (change_effect tests setting state number change) IsAcknowledged
unfolding change_effect plan_effect work_effect
change-acknowledged tests setting state number change =
    let sight = sight_of state number change in
    IfOk-next IsAcknowledged (change.plan sight) _
    (λ plan. IfOk-next IsAcknowledged (tests.limits sight plan
    (made_at setting state sight plan)) _
    (λ u. IfOk-next IsAcknowledged tests.entry _
    (λ v. IfOk-next IsAcknowledged (made_at setting state sight plan) _
    (λ after. IfOk-next IsAcknowledged (none_or (control_fault setting plan
    (documents_with sight.before after state.documents) sight.before after)) _
    (λ held. record { acknowledgement = _; answer_is = refl })))))

-- what acknowledges nothing commits nothing
pub answered-commits : (tests : Tests) (setting : Setting) (state : State) (number : ℕ)
    (deed : Deed) (effect : Effect) → deed_effect tests setting state number deed ≡ Ok effect →
    IsAnswer effect.answer → (command : Command) → commits_of deed command ≡ []
answered-commits tests setting state number (changes change) effect is answer command =
    let ack = subst (λ (r : Result Effect Refusal). IfOk r IsAcknowledged) is
    (change-acknowledged tests setting state number change) in
    absurd (subst IsAnswer ack.answer_is answer)
answered-commits tests setting state number (closes date) effect is answer command =
    at tests.entry is
  where
    at : (entry : Result (Unit {0}) Refusal) →
        (entry >>= λ _. Ok (close_effect state date)) ≡ Ok effect →
        commits_of (closes date) command ≡ []
    at (Ok u) h =
        let same : close_effect state date ≡ effect = cc in
        absurd (subst (λ (e : Effect). IsAnswer e.answer) (sym same) answer)
    at (Err refusal) h = absurd (cc)
answered-commits tests setting state number (asks question) effect is answer command = refl

-- an effect at a desk is that of its deed
pub effect-deed : (desk : Desk) (request : Request) (effect : Effect) →
    effect_at desk request ≡ Ok effect →
    deed_effect (tests_of desk (meaning_at desk request) request) desk.setting desk.serial
    (command_at desk request).number (meaning_at desk request).deed ≡ Ok effect
unfolding effect_of
effect-deed desk request effect is =
    at (is_clerk desk.setting.config (meaning_at desk request).clerk)
    (is_allowed desk.setting.config (meaning_at desk request).clerk
    (meaning_at desk request).right) (tests_of desk (meaning_at desk request) request).number
    (deed_effect (tests_of desk (meaning_at desk request) request) desk.setting desk.serial
    (command_at desk request).number (meaning_at desk request).deed) is
  where
    at : (known allowed : Bool) (number : Result (Unit {0}) Stop) (done : Result Effect Refusal) →
        (unless known (refuses UnknownClerk) >>= λ _. unless allowed
        (refuses (NotAllowed (meaning_at desk request).right)) >>= λ _. number >>= λ _.
        or_stop done) ≡ Ok effect → done ≡ Ok effect
    at true true (Ok u) (Ok e) h = let same : e ≡ effect = cc in ap Ok same
    at true true (Ok u) (Err refusal) h = absurd (cc)
    at true true (Err stop) done h = absurd (cc)
    at true false number done h = absurd (cc)
    at false allowed number done h = absurd (cc)
