-- Worked rows of documents: their states, keys and types, and closed books.
use Rattle.std.proofs.Common.{◌≡◌, ℕ, pos, true, false, Some, None, List, [], ◌∷◌, ◌++◌, refl}
use Rattle.std.proofs.Common.{codes, map}
use Rattle.reg_base.specs.declared.value.Value.TheVariants.{Code}
use Rattle.reg_base.specs.declared.value.Cell.TheVariants.{Code as CodeCell, Num as NumCell}
use Rattle.reg_base.specs.declared.records.DocState.TheVariants.{Written, Posted, Marked}
use Rattle.reg_base.specs.Balances.{sum_rows}
use Rattle.reg_base.specs.Codes.{is_code}
use Rattle.reg_base.specs.Numbers.{parse_num, digits_from, decimals_from, last_digits_from}
use Rattle.reg_base.specs.Numbers.{units_of}
use Rattle.reg_base.specs.Rights.{right_word}
use Rattle.desk_words.specs.declared.request.Request.{Request}
use Rattle.desk_words.specs.declared.request.Request.TheVariants.{Manual}
use Rattle.desk_words.specs.declared.request.FieldText.{FieldText}
use Rattle.desk_words.specs.declared.reply.Reply.{Reply}
use Rattle.desk_words.specs.declared.reply.Reply.TheVariants.{Done, Refused}
use Rattle.desk_words.specs.declared.reply.Acknowledgement.TheVariants.{Swept}
use Rattle.desk_words.specs.declared.reply.Acknowledgement.TheVariants.{Closed as BooksClosed}
use Rattle.desk_words.specs.declared.reply.Answer.TheVariants.{Acknowledged}
use Rattle.desk_words.specs.declared.reply.Answer.TheVariants.{Balance as BalanceAnswer}
use Rattle.desk_words.specs.declared.reply.Field.TheVariants.{Kind, Named}
use Rattle.desk_words.specs.declared.reply.Refusal.TheVariants.{UnknownDoc, WrongState, KeyTaken}
use Rattle.desk_words.specs.declared.reply.Refusal.TheVariants.{Closed}
use Rattle.desk_model.specs.Manuals.{space_of, given_set, given_sets, plan_manual}
use Rattle.desk_model.specs.GivenRecords.{record_in_register, given_record}
use Rattle.desk_model.specs.RecordSets.{record_set}
use Rattle.desk_model.specs.States.{plan_mark, plan_activity, plan_sweep}
use Rattle.desk_model.specs.Fields.{cells_of}
use Rattle.desk_model.specs.Writes.{kind_of_request, content_of, plan_content, plan_write}
use Rattle.desk_model.specs.RegisterQuestions.{question_about, question_balance}
use Rattle.desk_model.specs.Limits.{limits_of}
use Rattle.desk_model.specs.Serial.{work_effect, plan_effect, change_effect, question_answer}
use Rattle.desk_model.specs.Serial.{question_effect, answer_to, effect_of}
use Rattle.desk_model.specs.Desk.{step}
use Rattle.desk_model.proofs.RowBooks.{empty, morning, tenth, eleventh, twelfth, fifteenth}
use Rattle.desk_model.proofs.RowBooks.{february}
use Rattle.desk_model.proofs.RowBooks.{manual_at, received, nails_under, write_at, text_of}
use Rattle.desk_model.proofs.RowBooks.{filled, fill, mark, activity, close, sweep, goods_at}
use Rattle.desk_model.proofs.RowBooks.{stands, bad_field, replies, after}

-- the rows of the balance of goods
abbrev rows_are : List ℕ → ℕ → ℕ → Reply
rows_are item quantity amount = Done (BalanceAnswer
    (record { group = Code item ∷ []; sums = pos quantity ∷ pos amount ∷ [] } ∷ [])
    (3 ∷ 2 ∷ []))

abbrev no_rows : Reply
no_rows = Done (BalanceAnswer [] (3 ∷ 2 ∷ []))

-- ---- marks, activity and the closed date

-- a marked document takes no change of its activity; behind the closed date nothing is made
marked_and_closed : replies (after empty (nails_under 1 ∷ []))
    (mark 2 1 true ∷ activity 3 1 false ∷ close 3 february
    ∷ manual_at 4 None None fifteenth
    (received (codes "nail") (codes "10.000") (codes "50.00") ∷ [])
    ∷ [])
    ≡ stands true 1 Marked ∷ Refused (WrongState Marked)
    ∷ Done (Acknowledged (BooksClosed february)) ∷ Refused (Closed february) ∷ []
unfolding step effect_of change_effect plan_effect work_effect limits_of right_word
    plan_manual given_sets given_set space_of given_record record_in_register record_set is_code
    parse_num digits_from decimals_from last_digits_from units_of
    plan_mark plan_activity plan_sweep
marked_and_closed = refl

-- a document given by hand is marked once, keeps its mark, and a marked one has no records
mark_stays : replies (after empty (nails_under 1 ∷ []))
    (mark 2 1 false ∷ mark 2 1 true ∷ mark 3 1 true ∷ mark 3 1 false ∷ goods_at None ∷ [])
    ≡ Refused (WrongState Posted) ∷ stands true 1 Marked ∷ Refused (WrongState Marked)
    ∷ Refused (WrongState Marked) ∷ no_rows ∷ []
unfolding step effect_of change_effect plan_effect work_effect limits_of right_word
    plan_manual given_sets given_set space_of given_record record_in_register record_set is_code
    parse_num digits_from decimals_from last_digits_from units_of
    plan_mark plan_activity plan_sweep
    question_effect question_answer answer_to question_balance question_about sum_rows
mark_stays = refl

-- a document of a type that is marked is written again once its mark is taken off
mark_of_written : replies (after empty (fill 1 [] ∷ []))
    (mark 2 1 false ∷ mark 2 1 true ∷ mark 3 1 false ∷ activity 4 1 false ∷ [])
    ≡ Refused (WrongState Written) ∷ stands true 1 Marked ∷ stands true 1 Written
    ∷ Refused (WrongState Written) ∷ []
unfolding step effect_of change_effect plan_effect work_effect limits_of right_word
    plan_write plan_content kind_of_request content_of cells_of is_code parse_num digits_from
    decimals_from last_digits_from units_of
    plan_mark plan_activity plan_sweep
mark_of_written = refl

-- records of a document that is not active do not count, and twice off is off; a mark leaves it so
activity_off_and_on : replies (after empty (nails_under 1 ∷ []))
    (activity 2 1 false ∷ goods_at None ∷ activity 3 1 false ∷ activity 4 1 true ∷ goods_at None
    ∷ activity 5 1 false ∷ mark 6 1 true ∷ [])
    ≡ stands false 1 Posted ∷ no_rows ∷ stands false 1 Posted ∷ stands true 1 Posted
    ∷ rows_are (codes "nail") 10_000 5_000 ∷ stands false 1 Posted ∷ stands false 1 Marked ∷ []
unfolding step effect_of change_effect plan_effect work_effect limits_of right_word
    plan_manual given_sets given_set space_of given_record record_in_register record_set is_code
    parse_num digits_from decimals_from last_digits_from units_of
    plan_mark plan_activity plan_sweep
    question_effect question_answer answer_to question_balance question_about sum_rows
activity_off_and_on = refl

-- what is dated before the closed date is neither changed nor moved, nor is another moved before
-- it; what is dated at it is open, and the books may be opened again
closed_period : replies (after empty
    (manual_at 1 None None tenth [] ∷ manual_at 2 None None twelfth [] ∷ fill 3 []
    ∷ close 4 eleventh ∷ []))
    (mark 5 1 true ∷ activity 5 1 false ∷ manual_at 5 (Some 1) None twelfth []
    ∷ manual_at 5 (Some 2) None tenth [] ∷ mark 5 3 true
    ∷ write_at 5 (Some 3) None (codes "fill") twelfth [] []
    ∷ manual_at 5 (Some 2) None eleventh [] ∷ close 6 tenth ∷ mark 7 1 true ∷ close 8 eleventh
    ∷ sweep 9 1 ∷ [])
    ≡ Refused (Closed eleventh) ∷ Refused (Closed eleventh) ∷ Refused (Closed eleventh)
    ∷ Refused (Closed eleventh) ∷ Refused (Closed eleventh) ∷ Refused (Closed eleventh)
    ∷ stands true 2 Posted ∷ Done (Acknowledged (BooksClosed tenth)) ∷ stands true 1 Marked
    ∷ Done (Acknowledged (BooksClosed eleventh)) ∷ Refused (Closed eleventh) ∷ []
unfolding step effect_of change_effect plan_effect work_effect limits_of right_word
    plan_manual given_sets given_set space_of given_record record_in_register record_set is_code
    parse_num digits_from decimals_from last_digits_from units_of
    plan_write plan_content kind_of_request content_of cells_of
    plan_mark plan_activity plan_sweep
closed_period = refl

-- no document of this number is seen
unknown_document : replies (after empty (nails_under 1 ∷ []))
    (mark 2 2 true ∷ activity 2 2 true ∷ sweep 2 2 ∷ manual_at 2 (Some 2) None morning []
    ∷ write_at 2 (Some 2) None (codes "fill") morning [] [] ∷ sweep 2 1 ∷ [])
    ≡ Refused UnknownDoc ∷ Refused UnknownDoc ∷ Refused UnknownDoc ∷ Refused UnknownDoc
    ∷ Refused UnknownDoc ∷ Refused (WrongState Posted) ∷ []
unfolding step effect_of change_effect plan_effect work_effect limits_of right_word
    plan_manual given_sets given_set space_of given_record record_in_register record_set is_code
    parse_num digits_from decimals_from last_digits_from units_of
    plan_write plan_content kind_of_request content_of cells_of
    plan_mark plan_activity plan_sweep
unknown_document = refl

-- ---- keys

-- a key is its document's, marked or not, until that is swept; its number is not drawn again
key_taken_and_freed : replies empty
    (manual_at 1 None (Some (codes "k")) morning []
    ∷ manual_at 2 None (Some (codes "k")) morning []
    ∷ write_at 2 None (Some (codes "k")) (codes "fill") morning [] []
    ∷ mark 2 1 true ∷ manual_at 3 None (Some (codes "k")) morning [] ∷ sweep 3 1
    ∷ manual_at 4 None (Some (codes "k")) morning [] ∷ [])
    ≡ stands true 1 Posted ∷ Refused (KeyTaken 1) ∷ Refused (KeyTaken 1) ∷ stands true 1 Marked
    ∷ Refused (KeyTaken 1) ∷ Done (Acknowledged (Swept 1)) ∷ stands true 2 Posted ∷ []
unfolding step effect_of change_effect plan_effect work_effect limits_of right_word
    plan_manual given_sets given_set space_of given_record record_in_register record_set is_code
    parse_num digits_from decimals_from last_digits_from units_of
    plan_write plan_content kind_of_request content_of cells_of
    plan_mark plan_activity plan_sweep
key_taken_and_freed = refl

-- a swept document is not there any more
swept : map (λ d. d.doc.number) (after empty
    (nails_under 1 ∷ nails_under 2 ∷ mark 3 1 true ∷ sweep 4 1 ∷ [])).serial.documents ≡ 2 ∷ []
unfolding step effect_of change_effect plan_effect work_effect limits_of right_word
    plan_manual given_sets given_set space_of given_record record_in_register record_set is_code
    parse_num digits_from decimals_from last_digits_from units_of
    plan_mark plan_activity plan_sweep
swept = refl

-- ---- replacement

-- a set that is given again takes the place of the one before; the document counts again, and keeps
-- its number and its key
replaced_set : replies (after empty
    (manual_at 1 None (Some (codes "k")) morning
    (received (codes "nail") (codes "10.000") (codes "50.00") ∷ []) ∷ activity 2 1 false ∷ []))
    (manual_at 3 (Some 1) None tenth (received (codes "bolt") (codes "2.000") (codes "3.00") ∷ [])
    ∷ goods_at None ∷ manual_at 4 None (Some (codes "k")) morning [] ∷ [])
    ≡ stands true 1 Posted ∷ rows_are (codes "bolt") 2_000 300 ∷ Refused (KeyTaken 1) ∷ []
unfolding step effect_of change_effect plan_effect work_effect limits_of right_word
    plan_manual given_sets given_set space_of given_record record_in_register record_set is_code
    parse_num digits_from decimals_from last_digits_from units_of
    plan_mark plan_activity plan_sweep
    question_effect question_answer answer_to question_balance question_about sum_rows
replaced_set = refl

-- a comment that is not given again is empty
commented : Request
commented = Manual (record {
  clerk = codes "anna";
  no = 1;
  doc = None;
  key = None;
  date = morning;
  sets = [];
  comment = Some (codes "by post");
  tx = None;
})

comments : map (λ desk. map (λ d. d.doc.comment) desk.serial.documents)
    (after empty (commented ∷ [])
    ∷ after empty (commented ∷ manual_at 2 (Some 1) None morning [] ∷ []) ∷ [])
    ≡ (codes "by post" ∷ []) ∷ ([] ∷ []) ∷ []
unfolding step effect_of change_effect plan_effect work_effect limits_of right_word commented
    plan_manual given_sets
comments = refl

-- a document is given by hand or is of a type, and neither takes the other's place
neither_takes_the_other : replies (after empty (nails_under 1 ∷ fill 2 [] ∷ []))
    (write_at 3 (Some 1) None (codes "fill") tenth [] [] ∷ manual_at 3 (Some 2) None tenth [] ∷ [])
    ≡ Refused (WrongState Posted) ∷ Refused (WrongState Written) ∷ []
unfolding step effect_of change_effect plan_effect work_effect limits_of right_word
    plan_manual given_sets given_set space_of given_record record_in_register record_set is_code
    parse_num digits_from decimals_from last_digits_from units_of
    plan_write plan_content kind_of_request content_of cells_of
neither_takes_the_other = refl

-- ---- documents of a type

-- a line of a fill
one_nail : List FieldText
one_nail = filled (codes "2.50") (codes "nail") (codes "1")

-- a written document takes new content of its own type, and no other type
written_again : replies empty
    (fill 1 (one_nail ∷ []) ∷ write_at 2 (Some 1) None (codes "fill") twelfth [] []
    ∷ write_at 3 (Some 1) None (codes "take") twelfth [] []
    ∷ write_at 3 (Some 1) None (codes "order") twelfth [] [] ∷ mark 3 1 true
    ∷ write_at 4 (Some 1) None (codes "fill") twelfth [] [] ∷ [])
    ≡ stands true 1 Written ∷ stands true 1 Written ∷ bad_field Kind ∷ bad_field Kind
    ∷ stands true 1 Marked ∷ Refused (WrongState Marked) ∷ []
unfolding step effect_of change_effect plan_effect work_effect limits_of right_word
    plan_write plan_content kind_of_request content_of cells_of is_code parse_num digits_from
    decimals_from last_digits_from units_of
    plan_mark plan_activity plan_sweep one_nail
written_again = refl

-- its fields stand in the order of the configuration, at their scales
written_cells : map (λ d. d.doc.lines) (after empty (fill 1 (one_nail ∷ []) ∷ [])).serial.documents
    ≡ ((CodeCell (codes "nail") ∷ NumCell (pos 1_000) ∷ NumCell (pos 250) ∷ []) ∷ []) ∷ []
unfolding step effect_of change_effect plan_effect work_effect limits_of right_word
    plan_write plan_content kind_of_request content_of cells_of is_code parse_num digits_from
    decimals_from last_digits_from units_of one_nail
written_cells = refl

-- of wrong fields the first is told: of the head, then of each line; in each those of the type in
-- its order, missing or not to be read, and then the least that it does not have
wrong_fields : replies empty
    (write_at 1 None None (codes "receipt") tenth [] (one_nail ∷ [])
    ∷ write_at 1 None None (codes "receipt") tenth (text_of (codes "warehouse") (codes "a b") ∷ [])
    []
    ∷ write_at 1 None None (codes "receipt") tenth
    (text_of (codes "amount") (codes "1") ∷ text_of (codes "item") (codes "nail")
    ∷ text_of (codes "warehouse") (codes "main") ∷ []) []
    ∷ fill 1 (one_nail ∷ filled (codes "x") (codes "nail") (codes "1.2345") ∷ [])
    ∷ fill 1 (filled (codes "2.505") (codes "nail") (codes "1") ∷ [])
    ∷ fill 1 ((one_nail ++ text_of (codes "price") (codes "1")
    ∷ text_of (codes "weight") (codes "1") ∷ []) ∷ []) ∷ [])
    ≡ bad_field (Named (codes "warehouse")) ∷ bad_field (Named (codes "warehouse"))
    ∷ bad_field (Named (codes "amount")) ∷ bad_field (Named (codes "quantity"))
    ∷ bad_field (Named (codes "amount")) ∷ bad_field (Named (codes "price")) ∷ []
unfolding step effect_of change_effect plan_effect work_effect limits_of right_word
    plan_write plan_content kind_of_request content_of cells_of is_code parse_num digits_from
    decimals_from last_digits_from units_of one_nail
wrong_fields = refl
