-- What a question comes to that is answered, or refused.
use Rattle.std.proofs.Common.{◌≡◌, Result, Ok, Err, refl, sym, subst}
use Rattle.reg_base.specs.Results.{◌>>=◌}
use Rattle.desk_words.specs.declared.reply.Answer.{Answer}
use Rattle.desk_words.specs.declared.reply.Refusal.{Refusal}
use Rattle.desk_words.specs.declared.reply.Reply.TheVariants.{Done, Refused}
use Rattle.desk_model.specs.State.{Desk}
use Rattle.desk_model.specs.Plans.{Question}
use Rattle.desk_model.specs.Questions.{IsAnswer}
use Rattle.desk_model.specs.Stops.{or_stop}
use Rattle.desk_model.specs.Serial.{question_answer, question_effect, answer_effect}
use Rattle.desk_core.specs.Outcomes.{IsReplied}

pub answered-comes : (desk : Desk) (question : Result Question Refusal) (answer : Answer)
    → IsAnswer answer → question_answer desk.serial.documents question ≡ Ok answer
    → IsReplied desk (or_stop (question_effect desk.serial question)) (Done answer)
unfolding question_effect
answered-comes desk question answer good h =
    subst (λ (r : Result Answer Refusal).
    IsReplied desk (or_stop (r >>= λ a. Ok (answer_effect desk.serial a))) (Done answer))
    (sym h) (record { reply_is = refl; state_is = refl; answer = good })

pub refused-comes : (desk : Desk) (question : Result Question Refusal) (refusal : Refusal)
    → question_answer desk.serial.documents question ≡ Err refusal
    → IsReplied desk (or_stop (question_effect desk.serial question)) (Refused refusal)
unfolding question_effect
refused-comes desk question refusal h =
    subst (λ (r : Result Answer Refusal).
    IsReplied desk (or_stop (r >>= λ a. Ok (answer_effect desk.serial a))) (Refused refusal))
    (sym h) refl
