use Rattle.std.proofs.Common.{Err, IfOk, ap, ◌∙◌, subst}
use Rattle.reg_base.specs.Tries.{Tries}
use Rattle.desk_model.specs.Questions.{IsAnswer}
use Rattle.desk_model.specs.Serial.{question_answer}
use Rattle.desk_core.proofs.QuestionLemmas.{answered-comes, refused-comes}
use Rattle.desk_core.proofs.questions.answered.Goals as goal

pub returns-in-Ok : goal.returns-in-Ok
returns-in-Ok c = λ desk question tries.
    answered-comes desk question c.in-Ok.answer
    (subst (λ r. IfOk r IsAnswer) c.in-Ok.is c.requires)
    (subst (λ r. Tries r (question_answer desk.serial.documents question)) c.in-Ok.is tries)

pub returns-in-Err-Refused : goal.returns-in-Err-Refused
returns-in-Err-Refused c = λ desk question tries.
    refused-comes desk question c.in-Err-Refused.refusal
    (subst (λ r. Tries r (question_answer desk.serial.documents question))
    (c.in-Err-Refused.is ∙ ap Err c.in-Err-Refused.field-0-is) tries)
