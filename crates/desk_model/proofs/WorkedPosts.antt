-- Worked rows of documents that are posted by rules: what they make, and what they lose again.
use Rattle.std.proofs.Common.{◌≡◌, ℕ, pos, true, Option, Some, None, List, [], ◌∷◌, ◌++◌, refl}
use Rattle.std.proofs.Common.{codes, map, Ok, Err, Result}
use Rattle.reg_base.specs.declared.cut.Cut.TheVariants.{BeforePoint, ThroughPoint}
use Rattle.reg_base.specs.declared.records.Document.{Document}
use Rattle.reg_base.specs.declared.records.DocState.TheVariants.{Written, Posted, Marked}
use Rattle.reg_base.specs.declared.records.Mark.{Mark}
use Rattle.reg_base.specs.declared.records.Mark.TheVariants.{Receipt, Expense, Turn}
use Rattle.reg_base.specs.declared.records.Posting.{Posting}
use Rattle.reg_base.specs.declared.records.Rec.{Rec}
use Rattle.reg_base.specs.declared.records.Sets.{Sets}
use Rattle.reg_base.specs.declared.value.Value.{Value}
use Rattle.reg_base.specs.declared.value.Value.TheVariants.{Code, Lot}
use Rattle.reg_base.specs.Balances.{sum_rows}
use Rattle.reg_base.specs.Codes.{is_code}
use Rattle.reg_base.specs.Numbers.{parse_num, digits_from, decimals_from, last_digits_from}
use Rattle.reg_base.specs.Numbers.{units_of}
use Rattle.reg_base.specs.Rights.{right_word}
use Rattle.reg_base.specs.Shares.{share}
use Rattle.cfg_model.specs.Entries.{entry_check}
use Rattle.cfg_model.specs.Places.{account_at}
use Rattle.post_model.specs.Scenes.{total_at, terms_value, sum_value, bound_value, cond_holds}
use Rattle.post_model.specs.Scenes.{when_holds}
use Rattle.post_model.specs.Lefts.{read_item, left_of}
use Rattle.post_model.specs.WriteOffs.{all_in_stock, taken, write_off, cost_of}
use Rattle.post_model.specs.Makes.{number_for, numbers_for, at_place, record_made, expenses_made}
use Rattle.post_model.specs.Makes.{checked, entry_made}
use Rattle.post_model.specs.Yields.{lot_places, written_off, act_on, act_run, statement_run}
use Rattle.post_model.specs.Yields.{round_run, lines_run, yield_of}
use Rattle.desk_words.specs.declared.request.FieldText.{FieldText}
use Rattle.desk_words.specs.declared.request.Request.{Request}
use Rattle.desk_words.specs.declared.reply.Reply.{Reply}
use Rattle.desk_words.specs.declared.reply.Reply.TheVariants.{Done, Refused}
use Rattle.desk_words.specs.declared.reply.Acknowledgement.TheVariants.{Document as DocumentStands}
use Rattle.desk_words.specs.declared.reply.Acknowledgement.TheVariants.{Closed as BooksClosed}
use Rattle.desk_words.specs.declared.reply.Acknowledgement.TheVariants.{Swept}
use Rattle.desk_words.specs.declared.reply.Answer.{Answer}
use Rattle.desk_words.specs.declared.reply.Answer.TheVariants.{Acknowledged}
use Rattle.desk_words.specs.declared.reply.Answer.TheVariants.{Balance as BalanceAnswer}
use Rattle.desk_words.specs.declared.reply.Field.TheVariants.{Kind}
use Rattle.desk_words.specs.declared.reply.Refusal.TheVariants.{UnknownDoc, WrongState, Closed}
use Rattle.desk_model.specs.Manuals.{space_of, given_set, given_sets, plan_manual}
use Rattle.desk_model.specs.GivenRecords.{record_in_register, given_record}
use Rattle.desk_model.specs.RecordSets.{record_set}
use Rattle.desk_model.specs.States.{plan_mark, plan_sweep}
use Rattle.desk_model.specs.Fields.{cells_of}
use Rattle.desk_model.specs.Writes.{kind_of_request, content_of, plan_content, plan_write}
use Rattle.desk_model.specs.Posts.{plan_post, plan_standing, plan_unpost}
use Rattle.desk_model.specs.RegisterQuestions.{question_about, question_balance}
use Rattle.desk_model.specs.Limits.{limits_of}
use Rattle.desk_model.specs.Effects.{Effect}
use Rattle.desk_model.specs.State.{Desk}
use Rattle.desk_model.specs.Serial.{work_effect, plan_effect, change_effect, question_answer}
use Rattle.desk_model.specs.Serial.{question_effect, answer_to, effect_of}
use Rattle.desk_model.specs.Serial.{SerialFault, serial}
use Rattle.desk_model.specs.Desk.{step}
use Rattle.desk_model.proofs.RowBooks.{shop, empty, morning, tenth, eleventh, twelfth, side}
use Rattle.desk_model.proofs.RowBooks.{nails_under, post_at, post, unpost, filled, counted}
use Rattle.desk_model.proofs.RowBooks.{post_goods, post_stock, mark, close, sweep, balance_at}
use Rattle.desk_model.proofs.RowBooks.{goods_at, show, write_at, stands, bad_field, replies, after}

-- ---- what the rows ask, and what they are answered

-- one line of nails, with an amount and without one
abbrev nails_for : List ℕ → List ℕ → List (List FieldText)
nails_for quantity amount = filled amount (codes "nail") quantity ∷ []

abbrev nails : List ℕ → List (List FieldText)
nails quantity = counted (codes "nail") quantity ∷ []

abbrev rows : List (List Value × List ℕ) → Reply
rows shown = Done (BalanceAnswer
    (map (λ row. record { group = row.0; sums = map (λ n. pos n) row.1 }) shown) (3 ∷ 2 ∷ []))

-- the row of an item in goods
abbrev goods_row : List ℕ → ℕ → ℕ → List Value × List ℕ
goods_row item quantity amount = (Code item ∷ [], quantity ∷ amount ∷ [])

-- the sets of all documents
abbrev sets_of : Desk → List Sets
sets_of desk = map (λ d. d.sets) desk.serial.documents

-- sets of goods, sales, stock and entries
abbrev sets : List Rec → List Rec → List Rec → List Posting → Sets
sets goods sales stock entries =
    record { registers = goods ∷ sales ∷ stock ∷ []; ledgers = entries ∷ [] }

-- a record of a document's only line
abbrev first_record : ℕ → Mark → List Value → ℕ → ℕ → Rec
first_record date mark values quantity amount = record {
  line = 1;
  period = date;
  mark = mark;
  values = values;
  sums = pos quantity ∷ pos amount ∷ [];
}

abbrev of_nails : ℕ → Mark → ℕ → ℕ → Rec
of_nails date mark quantity amount =
    first_record date mark (Code (codes "nail") ∷ []) quantity amount

-- nails in the main warehouse, of the lot of a point
abbrev lot : ℕ → ℕ → List Value
lot date doc = Code (codes "main") ∷ Code (codes "nail")
    ∷ Lot (record { date = date; doc = doc }) ∷ []

-- ---- what is posted

-- a document is seen by no cut before its own point, and by the one through it
at_one_second : replies empty
    (post_goods 1 (codes "fill") tenth (nails_for (codes "1") (codes "1.00"))
    ∷ post_goods 2 (codes "fill") tenth (nails_for (codes "2") (codes "2.00"))
    ∷ goods_at (Some (BeforePoint (record { date = tenth; doc = 2 })))
    ∷ goods_at (Some (ThroughPoint (record { date = tenth; doc = 2 }))) ∷ [])
    ≡ stands true 1 Posted ∷ stands true 2 Posted
    ∷ rows (goods_row (codes "nail") 1_000 100 ∷ [])
    ∷ rows (goods_row (codes "nail") 3_000 300 ∷ []) ∷ []
unfolding step effect_of change_effect plan_effect work_effect limits_of right_word
    plan_post plan_content kind_of_request content_of cells_of is_code parse_num digits_from
    decimals_from last_digits_from units_of
    share total_at terms_value sum_value bound_value cond_holds when_holds read_item left_of
    all_in_stock taken write_off cost_of number_for numbers_for at_place record_made expenses_made
    checked entry_made entry_check account_at lot_places written_off act_on act_run statement_run
    round_run lines_run yield_of sum_rows
    question_effect question_answer answer_to question_balance question_about
at_one_second = refl

-- receipts of ten for 100.00 and of five for 75.00 on the next day, and a sale of twelve
two_receipts : List Request
two_receipts = post_stock 1 (codes "receipt") tenth (nails_for (codes "10") (codes "100.00"))
    ∷ post_stock 2 (codes "receipt") eleventh (nails_for (codes "5") (codes "75.00")) ∷ []

sale : Request
sale = post_stock 3 (codes "sale") twelfth (nails (codes "12"))

-- the first lot is gone, and three of the second are left
sold : replies (after empty two_receipts) (sale ∷ balance_at (codes "stock") None ∷ [])
    ≡ stands true 3 Posted ∷ rows ((lot eleventh 2, 3_000 ∷ 4_500 ∷ []) ∷ []) ∷ []
unfolding step effect_of change_effect plan_effect work_effect limits_of right_word
    plan_post plan_content kind_of_request content_of cells_of is_code parse_num digits_from
    decimals_from last_digits_from units_of
    share total_at terms_value sum_value bound_value cond_holds when_holds read_item left_of
    all_in_stock taken write_off cost_of number_for numbers_for at_place record_made expenses_made
    checked entry_made entry_check account_at lot_places written_off act_on act_run statement_run
    round_run lines_run yield_of sum_rows
    question_effect question_answer answer_to question_balance question_about
    two_receipts sale
sold = refl

-- each receipt has its lot and its entry; the sale has what it took, its turn and its entry
records_of_the_sale : sets_of (after (after empty two_receipts) (sale ∷ []))
    ≡ sets [] [] (first_record tenth Receipt (lot tenth 1) 10_000 10_000 ∷ [])
    (record {
      line = 1;
      period = tenth;
      debit = side (codes "10") (codes "nail" ∷ []);
      credit = side (codes "60") [];
      amount = pos 10_000;
    } ∷ [])
    ∷ sets [] [] (first_record eleventh Receipt (lot eleventh 2) 5_000 7_500 ∷ [])
    (record {
      line = 1;
      period = eleventh;
      debit = side (codes "10") (codes "nail" ∷ []);
      credit = side (codes "60") [];
      amount = pos 7_500;
    } ∷ [])
    ∷ sets [] (of_nails twelfth Turn 12_000 13_000 ∷ [])
    (first_record twelfth Expense (lot tenth 1) 10_000 10_000
    ∷ record (first_record twelfth Expense (lot eleventh 2) 2_000 3_000) { line = 2 } ∷ [])
    (record {
      line = 1;
      period = twelfth;
      debit = side (codes "90") [];
      credit = side (codes "10") (codes "nail" ∷ []);
      amount = pos 13_000;
    } ∷ []) ∷ []
unfolding step effect_of change_effect plan_effect work_effect limits_of right_word
    plan_post plan_content kind_of_request content_of cells_of is_code parse_num digits_from
    decimals_from last_digits_from units_of
    share total_at terms_value sum_value bound_value cond_holds when_holds read_item left_of
    all_in_stock taken write_off cost_of number_for numbers_for at_place record_made expenses_made
    checked entry_made entry_check account_at lot_places written_off act_on act_run statement_run
    round_run lines_run yield_of sum_rows
    two_receipts sale
records_of_the_sale = refl

-- the serial machine takes the sale under its number with the same effect
answer_and_documents : Result Effect SerialFault → Option (Answer × List Document)
answer_and_documents (Ok effect) = Some (effect.answer, effect.state.documents)
answer_and_documents (Err fault) = None

sale_replayed : answer_and_documents
    (serial shop (after empty two_receipts).serial (record { number = 3; request = sale }))
    ≡ Some (
      Acknowledged (DocumentStands true 3 Posted),
      (after (after empty two_receipts) (sale ∷ [])).serial.documents,
    )
unfolding step effect_of change_effect plan_effect work_effect limits_of right_word
    plan_post plan_content kind_of_request content_of cells_of is_code parse_num digits_from
    decimals_from last_digits_from units_of
    share total_at terms_value sum_value bound_value cond_holds when_holds read_item left_of
    all_in_stock taken write_off cost_of number_for numbers_for at_place record_made expenses_made
    checked entry_made entry_check account_at lot_places written_off act_on act_run statement_run
    round_run lines_run yield_of sum_rows
    two_receipts sale answer_and_documents serial
sale_replayed = refl

-- of seven nails for 100.00 three are issued, and then the four that are left
issues : List Request
issues = post_goods 1 (codes "fill") tenth (nails_for (codes "7") (codes "100.00"))
    ∷ post_goods 2 (codes "issue") eleventh (nails (codes "3"))
    ∷ post_goods 3 (codes "issue") twelfth (nails (codes "4")) ∷ []

-- the first issue costs its share, and the second what is left; no row is
issued : sets_of (after empty issues)
    ≡ sets (of_nails tenth Receipt 7_000 10_000 ∷ []) [] [] []
    ∷ sets (of_nails eleventh Expense 3_000 4_286 ∷ []) [] [] []
    ∷ sets (of_nails twelfth Expense 4_000 5_714 ∷ []) [] [] [] ∷ []
unfolding step effect_of change_effect plan_effect work_effect limits_of right_word
    plan_post plan_content kind_of_request content_of cells_of is_code parse_num digits_from
    decimals_from last_digits_from units_of
    share total_at terms_value sum_value bound_value cond_holds when_holds read_item left_of
    all_in_stock taken write_off cost_of number_for numbers_for at_place record_made expenses_made
    checked entry_made entry_check account_at lot_places written_off act_on act_run statement_run
    round_run lines_run yield_of sum_rows
    issues
issued = refl

nothing_left : replies (after empty issues) (goods_at None ∷ []) ≡ rows [] ∷ []
unfolding step effect_of change_effect plan_effect work_effect limits_of right_word
    plan_post plan_content kind_of_request content_of cells_of is_code parse_num digits_from
    decimals_from last_digits_from units_of
    share total_at terms_value sum_value bound_value cond_holds when_holds read_item left_of
    all_in_stock taken write_off cost_of number_for numbers_for at_place record_made expenses_made
    checked entry_made entry_check account_at lot_places written_off act_on act_run statement_run
    round_run lines_run yield_of sum_rows
    question_effect question_answer answer_to question_balance question_about
    issues
nothing_left = refl

-- ---- what is posted again

-- a fill of nails and bolts, and then of screws in its place
screws : List Request
screws = post_goods 1 (codes "fill") tenth
    (filled (codes "5.00") (codes "nail") (codes "5")
    ∷ filled (codes "2.00") (codes "bolt") (codes "2") ∷ [])
    ∷ post_at 2 (Some 1) (codes "fill") tenth []
    (filled (codes "3.00") (codes "screw") (codes "3") ∷ []) ∷ []

-- the new content takes the place of the one before, with its records
content_again : replies empty (screws ++ goods_at None ∷ [])
    ≡ stands true 1 Posted ∷ stands true 1 Posted
    ∷ rows (goods_row (codes "screw") 3_000 300 ∷ []) ∷ []
unfolding step effect_of change_effect plan_effect work_effect limits_of right_word
    plan_post plan_content kind_of_request content_of cells_of is_code parse_num digits_from
    decimals_from last_digits_from units_of
    share total_at terms_value sum_value bound_value cond_holds when_holds read_item left_of
    all_in_stock taken write_off cost_of number_for numbers_for at_place record_made expenses_made
    checked entry_made entry_check account_at lot_places written_off act_on act_run statement_run
    round_run lines_run yield_of sum_rows
    question_effect question_answer answer_to question_balance question_about
    screws
content_again = refl

-- marked it has no records; swept it is not there, and its number is not drawn again
posted_and_swept : replies (after empty screws)
    (mark 3 1 true ∷ goods_at None ∷ sweep 4 1 ∷ show 1
    ∷ post_goods 5 (codes "fill") tenth (nails_for (codes "1") (codes "1.00")) ∷ [])
    ≡ stands true 1 Marked ∷ rows [] ∷ Done (Acknowledged (Swept 1)) ∷ Refused UnknownDoc
    ∷ stands true 2 Posted ∷ []
unfolding step effect_of change_effect plan_effect work_effect limits_of right_word
    plan_post plan_content kind_of_request content_of cells_of is_code parse_num digits_from
    decimals_from last_digits_from units_of
    share total_at terms_value sum_value bound_value cond_holds when_holds read_item left_of
    all_in_stock taken write_off cost_of number_for numbers_for at_place record_made expenses_made
    checked entry_made entry_check account_at lot_places written_off act_on act_run statement_run
    round_run lines_run yield_of sum_rows
    question_effect question_answer answer_to question_balance question_about
    plan_mark plan_sweep
    screws
posted_and_swept = refl

-- a written document is posted as it stands; a posted one is not written, its type stays, and it is
-- written again once it is unposted
written_and_posted : replies empty
    (write_at 1 None None (codes "fill") tenth [] (nails_for (codes "5") (codes "5.00"))
    ∷ goods_at None ∷ post 2 1 ∷ goods_at None
    ∷ write_at 3 (Some 1) None (codes "fill") tenth [] []
    ∷ post_at 3 (Some 1) (codes "take") tenth [] [] ∷ post_at 3 (Some 2) (codes "fill") tenth [] []
    ∷ unpost 3 1 ∷ write_at 4 (Some 1) None (codes "fill") tenth [] [] ∷ [])
    ≡ stands true 1 Written ∷ rows [] ∷ stands true 1 Posted
    ∷ rows (goods_row (codes "nail") 5_000 500 ∷ []) ∷ Refused (WrongState Posted) ∷ bad_field Kind
    ∷ Refused UnknownDoc ∷ stands true 1 Written ∷ stands true 1 Written ∷ []
unfolding step effect_of change_effect plan_effect work_effect limits_of right_word
    plan_post plan_content kind_of_request content_of cells_of is_code parse_num digits_from
    decimals_from last_digits_from units_of
    share total_at terms_value sum_value bound_value cond_holds when_holds read_item left_of
    all_in_stock taken write_off cost_of number_for numbers_for at_place record_made expenses_made
    checked entry_made entry_check account_at lot_places written_off act_on act_run statement_run
    round_run lines_run yield_of sum_rows
    question_effect question_answer answer_to question_balance question_about
    plan_write plan_standing plan_unpost
written_and_posted = refl

-- ---- documents that lose their records again

-- a fill of five nails for 5.00, and a document given by hand
fill_and_manual : List Request
fill_and_manual = post_goods 1 (codes "fill") tenth (nails_for (codes "5") (codes "5.00"))
    ∷ nails_under 2 ∷ []

-- without its records a document is written; as it stands it is posted with the same ones again
unposted_and_posted : replies (after empty (post_goods 1 (codes "fill") tenth
    (nails_for (codes "5") (codes "5.00")) ∷ []))
    (unpost 2 1 ∷ goods_at None ∷ unpost 3 1 ∷ post 3 1 ∷ goods_at None ∷ post 4 1 ∷ goods_at None
    ∷ [])
    ≡ stands true 1 Written ∷ rows [] ∷ Refused (WrongState Written) ∷ stands true 1 Posted
    ∷ rows (goods_row (codes "nail") 5_000 500 ∷ []) ∷ stands true 1 Posted
    ∷ rows (goods_row (codes "nail") 5_000 500 ∷ []) ∷ []
unfolding step effect_of change_effect plan_effect work_effect limits_of right_word
    plan_post plan_content kind_of_request content_of cells_of is_code parse_num digits_from
    decimals_from last_digits_from units_of
    share total_at terms_value sum_value bound_value cond_holds when_holds read_item left_of
    all_in_stock taken write_off cost_of number_for numbers_for at_place record_made expenses_made
    checked entry_made entry_check account_at lot_places written_off act_on act_run statement_run
    round_run lines_run yield_of sum_rows
    question_effect question_answer answer_to question_balance question_about
    plan_standing plan_unpost
unposted_and_posted = refl

-- unposted, the document has no records, and posted again those that it had
same_records : sets_of (after empty (fill_and_manual ++ unpost 3 1 ∷ []))
    ∷ sets_of (after empty (fill_and_manual ++ unpost 3 1 ∷ post 4 1 ∷ [])) ∷ []
    ≡ (sets [] [] [] [] ∷ sets (of_nails morning Receipt 10_000 5_000 ∷ []) [] [] [] ∷ [])
    ∷ sets_of (after empty fill_and_manual) ∷ []
unfolding step effect_of change_effect plan_effect work_effect limits_of right_word
    plan_post plan_content kind_of_request content_of cells_of is_code parse_num digits_from
    decimals_from last_digits_from units_of
    share total_at terms_value sum_value bound_value cond_holds when_holds read_item left_of
    all_in_stock taken write_off cost_of number_for numbers_for at_place record_made expenses_made
    checked entry_made entry_check account_at lot_places written_off act_on act_run statement_run
    round_run lines_run yield_of sum_rows
    plan_manual given_sets given_set space_of given_record record_in_register record_set
    plan_standing plan_unpost
    fill_and_manual
same_records = refl

-- neither is done to a document given by hand, to a marked one, or to one that is not there
not_of_a_type : replies (after empty fill_and_manual)
    (unpost 3 2 ∷ post 3 2 ∷ unpost 3 3 ∷ post 3 3 ∷ mark 3 1 true ∷ unpost 4 1 ∷ post 4 1 ∷ [])
    ≡ Refused (WrongState Posted) ∷ Refused (WrongState Posted) ∷ Refused UnknownDoc
    ∷ Refused UnknownDoc ∷ stands true 1 Marked ∷ Refused (WrongState Marked)
    ∷ Refused (WrongState Marked) ∷ []
unfolding step effect_of change_effect plan_effect work_effect limits_of right_word
    plan_post plan_content kind_of_request content_of cells_of is_code parse_num digits_from
    decimals_from last_digits_from units_of
    share total_at terms_value sum_value bound_value cond_holds when_holds read_item left_of
    all_in_stock taken write_off cost_of number_for numbers_for at_place record_made expenses_made
    checked entry_made entry_check account_at lot_places written_off act_on act_run statement_run
    round_run lines_run yield_of sum_rows
    plan_manual given_sets given_set space_of given_record record_in_register record_set
    plan_standing plan_unpost
    plan_mark plan_sweep
    fill_and_manual
not_of_a_type = refl

-- nor to one that is dated before the closed date, whose place no other content takes
closed_books : replies (after empty fill_and_manual)
    (close 3 eleventh ∷ unpost 4 1 ∷ post 4 1
    ∷ post_at 4 (Some 1) (codes "fill") twelfth [] [] ∷ post_goods 4 (codes "fill") tenth []
    ∷ post_goods 4 (codes "fill") eleventh [] ∷ [])
    ≡ Done (Acknowledged (BooksClosed eleventh)) ∷ Refused (Closed eleventh)
    ∷ Refused (Closed eleventh) ∷ Refused (Closed eleventh) ∷ Refused (Closed eleventh)
    ∷ stands true 3 Posted ∷ []
unfolding step effect_of change_effect plan_effect work_effect limits_of right_word
    plan_post plan_content kind_of_request content_of cells_of is_code parse_num digits_from
    decimals_from last_digits_from units_of
    share total_at terms_value sum_value bound_value cond_holds when_holds read_item left_of
    all_in_stock taken write_off cost_of number_for numbers_for at_place record_made expenses_made
    checked entry_made entry_check account_at lot_places written_off act_on act_run statement_run
    round_run lines_run yield_of sum_rows
    plan_manual given_sets given_set space_of given_record record_in_register record_set
    plan_standing plan_unpost
    fill_and_manual
closed_books = refl
