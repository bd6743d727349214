-- Worked rows of the desk machine: a first day, clerks and their numbers, and the serial machine.
use Rattle.std.proofs.Common.{◌≡◌, ℕ, pos, true, false, Some, None, List, [], ◌∷◌, refl}
use Rattle.std.proofs.Common.{ap, codes, map, Result, Ok, Err}
use Rattle.reg_base.specs.declared.value.Value.TheVariants.{Code}
use Rattle.reg_base.specs.declared.records.DocState.TheVariants.{Posted}
use Rattle.reg_base.specs.declared.cut.Cut.TheVariants.{BeforeDate, ThroughDate}
use Rattle.reg_base.specs.declared.right.Right.TheVariants.{Manual as ManualRight, Read}
use Rattle.reg_base.specs.Balances.{sum_rows}
use Rattle.reg_base.specs.Codes.{is_code}
use Rattle.reg_base.specs.Numbers.{parse_num, digits_from, decimals_from, last_digits_from}
use Rattle.reg_base.specs.Numbers.{units_of}
use Rattle.reg_base.specs.Rights.{right_word}
use Rattle.reg_base.specs.Results.{◌>>=◌}
use Rattle.desk_words.specs.declared.request.Request.{Request}
use Rattle.desk_words.specs.declared.request.Request.TheVariants.{Balance}
use Rattle.desk_words.specs.declared.reply.Reply.TheVariants.{Done, Refused}
use Rattle.desk_words.specs.declared.reply.Acknowledgement.TheVariants.{Document as DocumentStands}
use Rattle.desk_words.specs.declared.reply.Answer.TheVariants.{Balance as BalanceAnswer}
use Rattle.desk_words.specs.declared.reply.Field.TheVariants.{Register as RegisterField}
use Rattle.desk_words.specs.declared.reply.Refusal.TheVariants.{UnknownClerk, NotAllowed, Stale}
use Rattle.desk_words.specs.declared.reply.Refusal.TheVariants.{NumberReused}
use Rattle.desk_model.specs.declared.last.Last.{Last}
use Rattle.desk_model.specs.State.{Setting, Desk, first_state, first_desk}
use Rattle.desk_model.specs.Stops.{Stop, refuses, repeats}
use Rattle.desk_model.specs.LastRequests.{same_number, number_test, is_same}
use Rattle.desk_model.specs.Manuals.{space_of, given_set, given_sets, plan_manual}
use Rattle.desk_model.specs.GivenRecords.{record_in_register, given_record}
use Rattle.desk_model.specs.RecordSets.{record_set}
use Rattle.desk_model.specs.RegisterQuestions.{question_about, question_balance}
use Rattle.desk_model.specs.Limits.{limits_of}
use Rattle.desk_model.specs.Effects.{Effect}
use Rattle.desk_model.specs.Serial.{work_effect, plan_effect, change_effect, question_answer}
use Rattle.desk_model.specs.Serial.{question_effect, answer_to, effect_of, SerialFault}
use Rattle.desk_model.specs.Serial.{bad_number, serial}
use Rattle.desk_model.specs.Desk.{step}
use Rattle.desk_model.proofs.RepeatLemmas.{step-same_number, same_number-same}
use Rattle.desk_model.proofs.RowBooks.{shop, empty, morning, fifteenth, manual_at, nails_under}
use Rattle.desk_model.proofs.RowBooks.{goods_at, stands, bad_field, replies, after, row_step}

-- ---- a first day

-- a receipt of ten nails is posted; before its date it is no row, and through its date it is one
first_day : replies empty
    (nails_under 1 ∷ goods_at (Some (BeforeDate morning)) ∷ goods_at (Some (ThroughDate morning))
    ∷ nails_under 2 ∷ [])
    ≡ stands true 1 Posted ∷ Done (BalanceAnswer [] (3 ∷ 2 ∷ []))
    ∷ Done (BalanceAnswer (record {
      group = Code (codes "nail") ∷ [];
      sums = pos 10_000 ∷ pos 5_000 ∷ [];
    } ∷ []) (3 ∷ 2 ∷ [])) ∷ stands true 2 Posted ∷ []
unfolding step effect_of change_effect plan_effect work_effect limits_of right_word
    plan_manual given_sets given_set space_of given_record record_in_register record_set is_code
    parse_num digits_from decimals_from last_digits_from units_of
    question_effect question_answer answer_to question_balance question_about sum_rows
first_day = refl

-- a balance of a register, as a clerk asks for it
balance_of_clerk : List ℕ → List ℕ → Request
balance_of_clerk clerk register = Balance (record {
  clerk = clerk;
  register = record { name = register; filter = None; group = None };
  cut = None;
  tx = None;
})

-- a clerk that is not there is refused, and so is a register without balances
refused_questions : replies empty
    (balance_of_clerk (codes "zoe") (codes "goods")
    ∷ balance_of_clerk (codes "anna") (codes "sales")
    ∷ balance_of_clerk (codes "anna") (codes "main") ∷ [])
    ≡ Refused UnknownClerk ∷ bad_field RegisterField ∷ bad_field RegisterField ∷ []
unfolding step effect_of right_word question_effect question_answer answer_to question_balance
    question_about balance_of_clerk
refused_questions = refl

-- without its right a clerk may not
barred : Setting
barred = record shop {
  config = record shop.config {
    clerks = record { name = codes "anna"; rights = ManualRight ∷ [] } ∷ [];
  };
}

not_allowed : replies (first_desk barred) (goods_at None ∷ []) ≡ Refused (NotAllowed Read) ∷ []
unfolding step effect_of right_word barred
not_allowed = refl

-- ---- numbers of a clerk

-- two requests that were accepted
two : Desk
two = after empty (nails_under 1 ∷ nails_under 2 ∷ [])

-- the second one again is given the same reply, and leaves the desk as it is
second_again : (step two (nails_under 2)).reply ≡ stands true 2 Posted
unfolding step effect_of change_effect plan_effect work_effect limits_of right_word two
    plan_manual given_sets given_set space_of given_record record_in_register record_set is_code
    parse_num digits_from decimals_from last_digits_from units_of
second_again = step-same_number two (nails_under 2) _ 2 (repeats (DocumentStands true 2 Posted))
    refl refl refl refl refl
    (same_number-same (nails_under 2) (DocumentStands true 2 Posted))

-- another request under its number is refused: its text is another one
later : Request
later = manual_at 2 None None fifteenth []

number_reused : is_same later (nails_under 2) ≡ false →
    (step two later).reply ≡ Refused NumberReused
unfolding step effect_of change_effect plan_effect work_effect limits_of right_word two later
    plan_manual given_sets given_set space_of given_record record_in_register record_set is_code
    parse_num digits_from decimals_from last_digits_from units_of
number_reused differs = step-same_number two later _ 2 (refuses NumberReused)
    refl refl refl refl refl (ap (λ b. same_number b (DocumentStands true 2 Posted)) differs)

-- a number below the last one is stale, whatever its request
stale : replies two (nails_under 1 ∷ manual_at 1 None None fifteenth [] ∷ [])
    ≡ Refused (Stale 2) ∷ Refused (Stale 2) ∷ []
unfolding step effect_of change_effect plan_effect work_effect limits_of right_word two
    plan_manual given_sets given_set space_of given_record record_in_register record_set is_code
    parse_num digits_from decimals_from last_digits_from units_of
stale = refl

-- what a number says where this was the clerk's last request, under number 2
last_was_two : Last
last_was_two = record {
  clerk = codes "anna";
  number = 2;
  request = nails_under 2;
  acknowledgement = DocumentStands true 7 Posted;
}

asked_with : ℕ → Request → Result (Unit {0}) Stop
asked_with nr r = number_test (last_was_two ∷ []) (codes "anna") (Some nr) r

-- again: the kept reply; another text: the number is used again; below: stale; above: it goes on
again : asked_with 2 (nails_under 2) ≡ Err (repeats (DocumentStands true 7 Posted))
unfolding asked_with last_was_two
again = same_number-same (nails_under 2) (DocumentStands true 7 Posted)

another_text : is_same later (nails_under 2) ≡ false →
    asked_with 2 later ≡ Err (refuses NumberReused)
unfolding asked_with last_was_two
another_text differs = ap (λ b. same_number b (DocumentStands true 7 Posted)) differs

below : asked_with 1 later ≡ Err (refuses (Stale 2))
unfolding asked_with last_was_two
below = refl

above : asked_with 3 (nails_under 2) ≡ Ok tt
unfolding asked_with last_was_two
above = refl

-- another clerk's numbers are his own
of_another : number_test (last_was_two ∷ []) (codes "boris") (Some 1) later ≡ Ok tt
unfolding last_was_two
of_another = refl

-- a request that was accepted is its clerk's last, and one that was refused is not
kept : map (λ l. l.number) (after empty
    (nails_under 4 ∷ manual_at 5 (Some 9) None morning [] ∷ [])).serial.lasts ≡ 4 ∷ []
unfolding step effect_of change_effect plan_effect work_effect limits_of right_word
    plan_manual given_sets given_set space_of given_record record_in_register record_set is_code
    parse_num digits_from decimals_from last_digits_from units_of
kept = refl

-- ---- the serial machine

-- the desk behind the first day
after_nails : Desk
after_nails = after empty (nails_under 1 ∷ [])

-- what a step commits is the request under its number
commits : (row_step after_nails (nails_under 2)).commits
    ≡ (record { number = 2; request = nails_under 2 } ∷ []) ∷ []
unfolding step effect_of change_effect plan_effect work_effect limits_of right_word after_nails
    plan_manual given_sets given_set space_of given_record record_in_register record_set is_code
    parse_num digits_from decimals_from last_digits_from units_of
commits = refl

-- the numbers of an effect's documents, and the greatest that there was
numbers : Result Effect SerialFault → List ℕ
numbers (Ok effect) = effect.state.top ∷ map (λ d. d.doc.number) effect.state.documents
numbers (Err fault) = []

-- the serial machine takes numbers in any order, and keeps the greatest: here 2 before 1
second_first : numbers (serial shop first_state
    (record { number = 2; request = nails_under 1 }) >>= λ e. serial shop e.state
    (record { number = 1; request = nails_under 1 })) ≡ 2 ∷ 1 ∷ 2 ∷ []
unfolding step effect_of change_effect plan_effect work_effect limits_of right_word numbers serial
    plan_manual given_sets given_set space_of given_record record_in_register record_set is_code
    parse_num digits_from decimals_from last_digits_from units_of
second_first = refl

-- it takes no number twice, and none but 0 for a request that draws none
taken : serial shop after_nails.serial (record { number = 1; request = nails_under 1 })
    ≡ Err bad_number
unfolding step effect_of change_effect plan_effect work_effect limits_of right_word serial
    after_nails
    plan_manual given_sets given_set space_of given_record record_in_register record_set is_code
    parse_num digits_from decimals_from last_digits_from units_of
taken = refl

not_drawn : serial shop first_state (record { number = 0; request = nails_under 1 })
    ≡ Err bad_number
unfolding serial
not_drawn = refl

drawn_for_a_question : serial shop first_state (record { number = 1; request = goods_at None })
    ≡ Err bad_number
unfolding serial
drawn_for_a_question = refl

drawn_for_another : serial shop after_nails.serial
    (record { number = 2; request = manual_at 2 (Some 1) None morning [] }) ≡ Err bad_number
unfolding step effect_of change_effect plan_effect work_effect limits_of right_word serial
    after_nails
    plan_manual given_sets given_set space_of given_record record_in_register record_set is_code
    parse_num digits_from decimals_from last_digits_from units_of
drawn_for_another = refl

-- it knows no limit: a number above the greatest one that a desk draws is taken
no_limit : numbers (serial shop first_state
    (record { number = 4_294_967_296; request = nails_under 1 }))
    ≡ 4_294_967_296 ∷ 4_294_967_296 ∷ []
unfolding step effect_of change_effect plan_effect work_effect limits_of right_word numbers serial
    plan_manual given_sets given_set space_of given_record record_in_register record_set is_code
    parse_num digits_from decimals_from last_digits_from units_of
no_limit = refl
