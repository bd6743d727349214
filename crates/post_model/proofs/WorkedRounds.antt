-- Worked rows of rounds: conditions, costs, totals, what is read and controlled, in their order.
use Rattle.std.proofs.Common.{◌≡◌, ℕ, pos, true, false, Bool, List, [], ◌∷◌, map, codes, Some}
use Rattle.std.proofs.Common.{None, Result, Err, refl}
use Rattle.reg_base.specs.Records.{Booked}
use Rattle.reg_base.specs.declared.fault.PostFault.{PostFault}
use Rattle.reg_base.specs.declared.fault.PostFault.TheVariants.{Broken, Shortage}
use Rattle.reg_base.specs.declared.records.Mark.TheVariants.{Receipt, Expense, Turn}
use Rattle.reg_base.specs.declared.records.Mode.TheVariants.{Shared}
use Rattle.rule_text.specs.declared.plain.Test.{Test}
use Rattle.rule_text.specs.declared.plain.Test.TheVariants.{Less, AtMost, Equal, AtLeast, Greater}
use Rattle.rule_text.specs.declared.plain.Test.TheVariants.{Differs}
use Rattle.rule_text.specs.declared.plain.Verb.{Verb}
use Rattle.rule_text.specs.declared.plain.Verb.TheVariants.{Receipt as MakesReceipt}
use Rattle.rule_text.specs.declared.plain.Verb.TheVariants.{Expense as MakesExpense}
use Rattle.rule_text.specs.declared.plain.Verb.TheVariants.{Turn as MakesTurn}
use Rattle.rule_lang.specs.declared.statement.Act.{Act}
use Rattle.rule_lang.specs.declared.statement.Act.TheVariants.{Make, WriteOff, Require, Control}
use Rattle.rule_lang.specs.declared.statement.CodeTerm.TheVariants.{Text}
use Rattle.rule_lang.specs.declared.statement.CodeTerm.TheVariants.{Line as LineCode}
use Rattle.rule_lang.specs.declared.statement.Cond.TheVariants.{Codes}
use Rattle.rule_lang.specs.declared.statement.Part.TheVariants.{Number, Line, Total, Cost}
use Rattle.rule_lang.specs.declared.statement.Statement.{Statement}
use Rattle.rule_lang.specs.declared.statement.Sum.{Sum}
use Rattle.post_model.specs.declared.made.Yield.{Yield}
use Rattle.reg_base.specs.Shares.{share}
use Rattle.reg_base.specs.Balances.{sum_rows}
use Rattle.cfg_model.specs.Entries.{entry_check}
use Rattle.cfg_model.specs.Places.{account_at}
use Rattle.post_model.specs.Scenes.{total_at, terms_value, sum_value, bound_value, cond_holds}
use Rattle.post_model.specs.Scenes.{when_holds}
use Rattle.post_model.specs.Lefts.{read_item, left_of}
use Rattle.post_model.specs.WriteOffs.{all_in_stock, taken, write_off, cost_of}
use Rattle.post_model.specs.Makes.{number_for, numbers_for, at_place, record_made, expenses_made}
use Rattle.post_model.specs.Makes.{checked, entry_made}
use Rattle.post_model.specs.Yields.{lot_places, written_off, act_on, act_run, statement_run}
use Rattle.post_model.specs.Yields.{round_run, lines_run, yield_of}
use Rattle.post_model.proofs.RowShop.{sum_of, just, once, each_line, each_line_when, nail, tenth}
use Rattle.post_model.proofs.RowShop.{eleventh, doc_of, nails, of_nails, by, goods_read, makes}
use Rattle.post_model.proofs.RowShop.{gives}

-- 7 nails in goods, for 100.00
abbrev seven : List Booked
seven = by 1 (of_nails 1 tenth Receipt (pos 7_000) (pos 10_000)) ∷ []

-- what rules make of lines of 3 and 4 nails
abbrev of_seven : List Statement → Result Yield PostFault
of_seven statements =
    makes statements seven [] (doc_of 2 eleventh (nails (pos 3_000) ∷ nails (pos 4_000) ∷ []))

-- nails written off at the average
abbrev written_off_nails : Sum → Act
written_off_nails quantity = WriteOff false 0 nail 0 quantity 1

-- a turn of sales
abbrev turn : Sum → Sum → Act
turn quantity amount = Make MakesTurn 1 nail ((0, quantity) ∷ (1, amount) ∷ [])

-- one unit of goods, by a verb
abbrev unit : Verb → Act
unit verb = Make verb 0 nail ((0, just (Number (pos 1))) ∷ [])

-- the second line's write-off is passed over: it makes and reads nothing, and costs 0
passed_over : of_seven (each_line_when (just (Line 1)) Less (just (Number (pos 4_000)))
    (written_off_nails (just (Line 1)))
    ∷ each_line (turn (just (Line 1)) (just Cost)) ∷ [])
    ≡ gives (of_nails 1 eleventh Expense (pos 3_000) (pos 4_286) ∷ [])
    (of_nails 1 eleventh Turn (pos 3_000) (pos 4_286)
    ∷ of_nails 2 eleventh Turn (pos 4_000) (pos 0) ∷ []) [] [] (goods_read ∷ []) []
unfolding share total_at terms_value sum_value bound_value cond_holds when_holds read_item left_of
    all_in_stock taken write_off cost_of number_for numbers_for at_place record_made expenses_made
    checked entry_made lot_places written_off act_on act_run statement_run round_run lines_run
    yield_of sum_rows entry_check account_at
passed_over = refl

-- a unit is received for each line whose quantity passes a test against 4
abbrev tested : Test → List Statement
tested test =
    each_line_when (just (Line 1)) test (just (Number (pos 4_000))) (unit MakesReceipt) ∷ []

-- so many units were received
abbrev receipts : List ℕ → Result Yield PostFault
receipts lines =
    gives (map (λ line. of_nails line eleventh Receipt (pos 1) (pos 0)) lines) [] [] [] [] []

-- of 3 and 4, against 4
tests : (of_seven (tested Less) ∷ of_seven (tested AtMost) ∷ of_seven (tested Equal)
    ∷ of_seven (tested AtLeast) ∷ of_seven (tested Greater) ∷ of_seven (tested Differs) ∷ [])
    ≡ receipts (1 ∷ []) ∷ receipts (1 ∷ 2 ∷ []) ∷ receipts (1 ∷ []) ∷ receipts (1 ∷ [])
    ∷ receipts [] ∷ receipts (1 ∷ []) ∷ []
unfolding share total_at terms_value sum_value bound_value cond_holds when_holds read_item left_of
    all_in_stock taken write_off cost_of number_for numbers_for at_place record_made expenses_made
    checked entry_made lot_places written_off act_on act_run statement_run round_run lines_run
    yield_of sum_rows entry_check account_at
tests = refl

-- a unit is received for each line whose item is a code, or is not
abbrev named : Bool → List ℕ → List Statement
named equal code = record {
  each = true;
  act = unit MakesReceipt;
  when = Some (Codes (LineCode 0) equal (Text code));
} ∷ []

-- codes compared
compared_codes : (of_seven (named true (codes "nail")) ∷ of_seven (named false (codes "nail"))
    ∷ of_seven (named true (codes "bolt")) ∷ of_seven (named false (codes "bolt")) ∷ [])
    ≡ receipts (1 ∷ 2 ∷ []) ∷ receipts [] ∷ receipts [] ∷ receipts (1 ∷ 2 ∷ []) ∷ []
unfolding share total_at terms_value sum_value bound_value cond_holds when_holds read_item left_of
    all_in_stock taken write_off cost_of number_for numbers_for at_place record_made expenses_made
    checked entry_made lot_places written_off act_on act_run statement_run round_run lines_run
    yield_of sum_rows entry_check account_at
compared_codes = refl

-- what is done once comes first, whatever the order of the text, and each round has its own cost
costs_of_rounds : of_seven (each_line (written_off_nails (just (Number (pos 1_000))))
    ∷ once (written_off_nails (just (Number (pos 3_000))))
    ∷ each_line (turn (just (Line 1)) (just Cost)) ∷ once (turn (just (Total 1)) (just Cost)) ∷ [])
    ≡ gives (of_nails 1 eleventh Expense (pos 3_000) (pos 4_286)
    ∷ of_nails 2 eleventh Expense (pos 1_000) (pos 1_429)
    ∷ of_nails 3 eleventh Expense (pos 1_000) (pos 1_428) ∷ [])
    (of_nails 1 eleventh Turn (pos 7_000) (pos 4_286)
    ∷ of_nails 2 eleventh Turn (pos 3_000) (pos 1_429)
    ∷ of_nails 3 eleventh Turn (pos 4_000) (pos 1_428) ∷ [])
    [] [] (goods_read ∷ goods_read ∷ goods_read ∷ []) []
unfolding share total_at terms_value sum_value bound_value cond_holds when_holds read_item left_of
    all_in_stock taken write_off cost_of number_for numbers_for at_place record_made expenses_made
    checked entry_made lot_places written_off act_on act_run statement_run round_run lines_run
    yield_of sum_rows entry_check account_at
costs_of_rounds = refl

-- a line without a write-off before it has no cost, though the line before had one
cost_of_another_round : of_seven (each_line (turn (just (Number (pos 1))) (just Cost))
    ∷ each_line (written_off_nails (just (Line 1))) ∷ [])
    ≡ gives (of_nails 1 eleventh Expense (pos 3_000) (pos 4_286)
    ∷ of_nails 2 eleventh Expense (pos 4_000) (pos 5_714) ∷ [])
    (of_nails 1 eleventh Turn (pos 1) (pos 0) ∷ of_nails 2 eleventh Turn (pos 1) (pos 0) ∷ [])
    [] [] (goods_read ∷ goods_read ∷ []) []
unfolding share total_at terms_value sum_value bound_value cond_holds when_holds read_item left_of
    all_in_stock taken write_off cost_of number_for numbers_for at_place record_made expenses_made
    checked entry_made lot_places written_off act_on act_run statement_run round_run lines_run
    yield_of sum_rows entry_check account_at
cost_of_another_round = refl

-- a record of zeros is not made, and takes no line number from the one behind it
zero_record :
    of_seven (once (turn (just (Number (pos 0))) (sum_of []))
    ∷ once (turn (just (Total 1)) (sum_of [])) ∷ [])
    ≡ gives [] (of_nails 1 eleventh Turn (pos 7_000) (pos 0) ∷ []) [] [] [] []
unfolding share total_at terms_value sum_value bound_value cond_holds when_holds read_item left_of
    all_in_stock taken write_off cost_of number_for numbers_for at_place record_made expenses_made
    checked entry_made lot_places written_off act_on act_run statement_run round_run lines_run
    yield_of sum_rows entry_check account_at
zero_record = refl

-- an expense that was made is gone from what is left
expense_counts :
    of_seven (once (unit MakesExpense)
    ∷ once (Require 0 nail 0 (just (Total 1)) (codes "few")) ∷ [])
    ≡ Err (Broken 2 0 (codes "few"))
unfolding share total_at terms_value sum_value bound_value cond_holds when_holds read_item left_of
    all_in_stock taken write_off cost_of number_for numbers_for at_place record_made expenses_made
    checked entry_made lot_places written_off act_on act_run statement_run round_run lines_run
    yield_of sum_rows entry_check account_at
expense_counts = refl

-- and a receipt that was made does not add to it
receipt_does_not_count :
    makes (once (unit MakesReceipt) ∷ once (written_off_nails (just (Number (pos 1)))) ∷ []) [] []
    (doc_of 2 eleventh [])
    ≡ Err (Shortage 2 0 (pos 1))
unfolding share total_at terms_value sum_value bound_value cond_holds when_holds read_item left_of
    all_in_stock taken write_off cost_of number_for numbers_for at_place record_made expenses_made
    checked entry_made lot_places written_off act_on act_run statement_run round_run lines_run
    yield_of sum_rows entry_check account_at
receipt_does_not_count = refl

-- reads in their order, of a write-off of nothing too, and controls in theirs
reads_and_controls :
    of_seven (once (Control 2 1) ∷ each_line (written_off_nails (just (Number (pos 0))))
    ∷ once (Require 0 [] 0 (just (Number (pos 1))) (codes "few")) ∷ once (Control 0 1) ∷ [])
    ≡ gives [] [] [] [] (record { space = 0; fields = None ∷ []; mode = Shared }
    ∷ goods_read ∷ goods_read ∷ []) ((2, 1) ∷ (0, 1) ∷ [])
unfolding share total_at terms_value sum_value bound_value cond_holds when_holds read_item left_of
    all_in_stock taken write_off cost_of number_for numbers_for at_place record_made expenses_made
    checked entry_made lot_places written_off act_on act_run statement_run round_run lines_run
    yield_of sum_rows entry_check account_at
reads_and_controls = refl

-- a document without a type has no rules
no_type : makes (once (Control 0 1) ∷ []) [] [] (record (doc_of 2 eleventh []) { kind = None })
    ≡ gives [] [] [] [] [] []
unfolding share total_at terms_value sum_value bound_value cond_holds when_holds read_item left_of
    all_in_stock taken write_off cost_of number_for numbers_for at_place record_made expenses_made
    checked entry_made lot_places written_off act_on act_run statement_run round_run lines_run
    yield_of sum_rows entry_check account_at
no_type = refl
