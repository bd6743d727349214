-- Worked rows of write-offs, computed from the definitions: lots, averages, and what is not seen.
use Rattle.std.proofs.Common.{◌≡◌, pos, negsuc, List, [], ◌∷◌, codes, Err, refl}
use Rattle.reg_base.specs.Records.{Booked}
use Rattle.reg_base.specs.declared.fault.PostFault.TheVariants.{Shortage}
use Rattle.reg_base.specs.declared.records.Mark.TheVariants.{Receipt, Expense, Turn}
use Rattle.reg_base.specs.Shares.{share}
use Rattle.reg_base.specs.Balances.{sum_rows}
use Rattle.cfg_model.specs.Entries.{entry_check}
use Rattle.cfg_model.specs.Places.{account_at}
use Rattle.post_model.specs.Scenes.{total_at, terms_value, sum_value, bound_value, cond_holds}
use Rattle.post_model.specs.Scenes.{when_holds}
use Rattle.post_model.specs.Lefts.{read_item, left_of}
use Rattle.post_model.specs.WriteOffs.{all_in_stock, taken, write_off, cost_of}
use Rattle.post_model.specs.Makes.{number_for, numbers_for, at_place, record_made, expenses_made}
use Rattle.post_model.specs.Makes.{checked, entry_made}
use Rattle.post_model.specs.Yields.{lot_places, written_off, act_on, act_run, statement_run}
use Rattle.post_model.specs.Yields.{round_run, lines_run, yield_of}
use Rattle.post_model.proofs.RowShop.{sale_rules, issue_rules, receipt_rules, tenth, eleventh}
use Rattle.post_model.proofs.RowShop.{twelfth, thirteenth, doc_of, nails, nails_for, stocked}
use Rattle.post_model.proofs.RowShop.{of_nails, by, lot_of, side_of, entry_of, cost_entry}
use Rattle.post_model.proofs.RowShop.{stock_read, goods_read, makes, gives}

-- two receipts: 10 for 100.00, and on the next day 5 for 75.00
abbrev two_lots : List Booked
two_lots =
    lot_of 1 tenth (pos 10_000) (pos 10_000) ∷ lot_of 2 eleventh (pos 5_000) (pos 7_500) ∷ []

-- a sale of 12 takes the first lot whole and 2 of the second; its turn and its entry have the cost
two_lots_sold : makes sale_rules [] two_lots (doc_of 3 twelfth (nails (pos 12_000) ∷ []))
    ≡ gives [] (of_nails 1 twelfth Turn (pos 12_000) (pos 13_000) ∷ [])
    (stocked 1 twelfth Expense tenth 1 (pos 10_000) (pos 10_000)
    ∷ stocked 2 twelfth Expense eleventh 2 (pos 2_000) (pos 3_000) ∷ [])
    (cost_entry 1 twelfth (pos 13_000) ∷ []) (stock_read ∷ []) []
unfolding share total_at terms_value sum_value bound_value cond_holds when_holds read_item left_of
    all_in_stock taken write_off cost_of number_for numbers_for at_place record_made expenses_made
    checked entry_made lot_places written_off act_on act_run statement_run round_run lines_run
    yield_of sum_rows entry_check account_at
two_lots_sold = refl

-- a line of quantity 0 reads and makes nothing, and takes no line number from those behind it
line_of_zero : makes sale_rules [] two_lots
    (doc_of 3 twelfth (nails (pos 12_000) ∷ nails (pos 0) ∷ nails (pos 1_000) ∷ []))
    ≡ gives []
    (of_nails 1 twelfth Turn (pos 12_000) (pos 13_000)
    ∷ of_nails 2 twelfth Turn (pos 1_000) (pos 1_500) ∷ [])
    (stocked 1 twelfth Expense tenth 1 (pos 10_000) (pos 10_000)
    ∷ stocked 2 twelfth Expense eleventh 2 (pos 2_000) (pos 3_000)
    ∷ stocked 3 twelfth Expense eleventh 2 (pos 1_000) (pos 1_500) ∷ [])
    (cost_entry 1 twelfth (pos 13_000) ∷ cost_entry 2 twelfth (pos 1_500) ∷ [])
    (stock_read ∷ stock_read ∷ stock_read ∷ []) []
unfolding share total_at terms_value sum_value bound_value cond_holds when_holds read_item left_of
    all_in_stock taken write_off cost_of number_for numbers_for at_place record_made expenses_made
    checked entry_made lot_places written_off act_on act_run statement_run round_run lines_run
    yield_of sum_rows entry_check account_at
line_of_zero = refl

-- lots of the same second are in order of number, whatever the order of the books
lots_of_one_second : makes sale_rules []
    (lot_of 10 tenth (pos 5_000) (pos 5_000) ∷ lot_of 9 tenth (pos 5_000) (pos 10_000) ∷ [])
    (doc_of 11 eleventh (nails (pos 6_000) ∷ []))
    ≡ gives [] (of_nails 1 eleventh Turn (pos 6_000) (pos 11_000) ∷ [])
    (stocked 1 eleventh Expense tenth 9 (pos 5_000) (pos 10_000)
    ∷ stocked 2 eleventh Expense tenth 10 (pos 1_000) (pos 1_000) ∷ [])
    (cost_entry 1 eleventh (pos 11_000) ∷ []) (stock_read ∷ []) []
unfolding share total_at terms_value sum_value bound_value cond_holds when_holds read_item left_of
    all_in_stock taken write_off cost_of number_for numbers_for at_place record_made expenses_made
    checked entry_made lot_places written_off act_on act_run statement_run round_run lines_run
    yield_of sum_rows entry_check account_at
lots_of_one_second = refl

-- of a lot that is below zero nothing is taken, and it takes nothing from the others
lot_below_zero : makes sale_rules []
    (lot_of 1 tenth (negsuc 2_999) (pos 10_000) ∷ lot_of 2 eleventh (pos 5_000) (pos 7_500) ∷ [])
    (doc_of 3 twelfth (nails (pos 5_000) ∷ []))
    ≡ gives [] (of_nails 1 twelfth Turn (pos 5_000) (pos 7_500) ∷ [])
    (stocked 1 twelfth Expense eleventh 2 (pos 5_000) (pos 7_500) ∷ [])
    (cost_entry 1 twelfth (pos 7_500) ∷ []) (stock_read ∷ []) []
unfolding share total_at terms_value sum_value bound_value cond_holds when_holds read_item left_of
    all_in_stock taken write_off cost_of number_for numbers_for at_place record_made expenses_made
    checked entry_made lot_places written_off act_on act_run statement_run round_run lines_run
    yield_of sum_rows entry_check account_at
lot_below_zero = refl

-- 7 in goods, for 100.00
abbrev seven : Booked
seven = by 1 (of_nails 1 tenth Receipt (pos 7_000) (pos 10_000))

-- an issue of 3 of them costs their share
first_issue : makes issue_rules (seven ∷ []) [] (doc_of 2 eleventh (nails (pos 3_000) ∷ []))
    ≡ gives (of_nails 1 eleventh Expense (pos 3_000) (pos 4_286) ∷ []) [] [] [] (goods_read ∷ []) []
unfolding share total_at terms_value sum_value bound_value cond_holds when_holds read_item left_of
    all_in_stock taken write_off cost_of number_for numbers_for at_place record_made expenses_made
    checked entry_made lot_places written_off act_on act_run statement_run round_run lines_run
    yield_of sum_rows entry_check account_at
first_issue = refl

-- and an issue of the 4 that are left the whole of what is left
second_issue :
    makes issue_rules (seven ∷ by 2 (of_nails 1 eleventh Expense (pos 3_000) (pos 4_286)) ∷ []) []
    (doc_of 3 twelfth (nails (pos 4_000) ∷ []))
    ≡ gives (of_nails 1 twelfth Expense (pos 4_000) (pos 5_714) ∷ []) [] [] [] (goods_read ∷ []) []
unfolding share total_at terms_value sum_value bound_value cond_holds when_holds read_item left_of
    all_in_stock taken write_off cost_of number_for numbers_for at_place record_made expenses_made
    checked entry_made lot_places written_off act_on act_run statement_run round_run lines_run
    yield_of sum_rows entry_check account_at
second_issue = refl

-- both in one document: the second line sees the first one's expense
both_issues : makes issue_rules (seven ∷ []) []
    (doc_of 2 eleventh (nails (pos 3_000) ∷ nails (pos 4_000) ∷ []))
    ≡ gives (of_nails 1 eleventh Expense (pos 3_000) (pos 4_286)
    ∷ of_nails 2 eleventh Expense (pos 4_000) (pos 5_714) ∷ []) [] [] []
    (goods_read ∷ goods_read ∷ []) []
unfolding share total_at terms_value sum_value bound_value cond_holds when_holds read_item left_of
    all_in_stock taken write_off cost_of number_for numbers_for at_place record_made expenses_made
    checked entry_made lot_places written_off act_on act_run statement_run round_run lines_run
    yield_of sum_rows entry_check account_at
both_issues = refl

-- more than there is at the average
average_shortage : makes issue_rules (seven ∷ []) [] (doc_of 2 eleventh (nails (pos 7_001) ∷ []))
    ≡ Err (Shortage 1 1 (pos 1))
unfolding share total_at terms_value sum_value bound_value cond_holds when_holds read_item left_of
    all_in_stock taken write_off cost_of number_for numbers_for at_place record_made expenses_made
    checked entry_made lot_places written_off act_on act_run statement_run round_run lines_run
    yield_of sum_rows entry_check account_at
average_shortage = refl

-- of goods that are below zero the whole is missing
missing_below_zero : makes issue_rules (by 1 (of_nails 1 tenth Expense (pos 2_000) (pos 1)) ∷ []) []
    (doc_of 2 eleventh (nails (pos 3_000) ∷ []))
    ≡ Err (Shortage 1 1 (pos 3_000))
unfolding share total_at terms_value sum_value bound_value cond_holds when_holds read_item left_of
    all_in_stock taken write_off cost_of number_for numbers_for at_place record_made expenses_made
    checked entry_made lot_places written_off act_on act_run statement_run round_run lines_run
    yield_of sum_rows entry_check account_at
missing_below_zero = refl

-- 10 in stock, for 100.00
abbrev ten : List Booked
ten = lot_of 1 tenth (pos 10_000) (pos 10_000) ∷ []

-- 4 and then 6.001 of them: the second line misses 0.001
second_line_misses :
    makes sale_rules [] ten (doc_of 2 twelfth (nails (pos 4_000) ∷ nails (pos 6_001) ∷ []))
    ≡ Err (Shortage 1 2 (pos 1))
unfolding share total_at terms_value sum_value bound_value cond_holds when_holds read_item left_of
    all_in_stock taken write_off cost_of number_for numbers_for at_place record_made expenses_made
    checked entry_made lot_places written_off act_on act_run statement_run round_run lines_run
    yield_of sum_rows entry_check account_at
second_line_misses = refl

-- 4 and then 6: the lot is touched twice, and the second time it is taken whole
lot_touched_twice :
    makes sale_rules [] ten (doc_of 2 twelfth (nails (pos 4_000) ∷ nails (pos 6_000) ∷ []))
    ≡ gives []
    (of_nails 1 twelfth Turn (pos 4_000) (pos 4_000)
    ∷ of_nails 2 twelfth Turn (pos 6_000) (pos 6_000) ∷ [])
    (stocked 1 twelfth Expense tenth 1 (pos 4_000) (pos 4_000)
    ∷ stocked 2 twelfth Expense tenth 1 (pos 6_000) (pos 6_000) ∷ [])
    (cost_entry 1 twelfth (pos 4_000) ∷ cost_entry 2 twelfth (pos 6_000) ∷ [])
    (stock_read ∷ stock_read ∷ []) []
unfolding share total_at terms_value sum_value bound_value cond_holds when_holds read_item left_of
    all_in_stock taken write_off cost_of number_for numbers_for at_place record_made expenses_made
    checked entry_made lot_places written_off act_on act_run statement_run round_run lines_run
    yield_of sum_rows entry_check account_at
lot_touched_twice = refl

-- a receipt makes a lot and an entry, and reads nothing
receipt : makes receipt_rules [] [] (doc_of 1 tenth (nails_for (pos 10_000) (pos 10_000) ∷ []))
    ≡ gives [] [] (stocked 1 tenth Receipt tenth 1 (pos 10_000) (pos 10_000) ∷ [])
    (entry_of 1 tenth (side_of (codes "10") (codes "nail" ∷ [])) (side_of (codes "60") [])
    (pos 10_000) ∷ []) [] []
unfolding share total_at terms_value sum_value bound_value cond_holds when_holds read_item left_of
    all_in_stock taken write_off cost_of number_for numbers_for at_place record_made expenses_made
    checked entry_made lot_places written_off act_on act_run statement_run round_run lines_run
    yield_of sum_rows entry_check account_at
receipt = refl

-- posted again, a document does not see what it made before, nor what stands behind its point
posted_again : makes sale_rules []
    (lot_of 1 tenth (pos 10_000) (pos 10_000)
    ∷ by 2 (stocked 1 eleventh Expense tenth 1 (pos 10_000) (pos 10_000))
    ∷ by 3 (stocked 1 twelfth Expense tenth 1 (pos 10_000) (pos 10_000))
    ∷ by 1 (stocked 2 thirteenth Expense tenth 1 (pos 10_000) (pos 10_000)) ∷ [])
    (doc_of 2 twelfth (nails (pos 10_000) ∷ []))
    ≡ gives [] (of_nails 1 twelfth Turn (pos 10_000) (pos 10_000) ∷ [])
    (stocked 1 twelfth Expense tenth 1 (pos 10_000) (pos 10_000) ∷ [])
    (cost_entry 1 twelfth (pos 10_000) ∷ []) (stock_read ∷ []) []
unfolding share total_at terms_value sum_value bound_value cond_holds when_holds read_item left_of
    all_in_stock taken write_off cost_of number_for numbers_for at_place record_made expenses_made
    checked entry_made lot_places written_off act_on act_run statement_run round_run lines_run
    yield_of sum_rows entry_check account_at
posted_again = refl

-- of its own second it sees the documents of lesser numbers
lesser_number_seen : makes sale_rules [] (lot_of 2 twelfth (pos 1_000) (pos 1_000) ∷ [])
    (doc_of 3 twelfth (nails (pos 1_000) ∷ []))
    ≡ gives [] (of_nails 1 twelfth Turn (pos 1_000) (pos 1_000) ∷ [])
    (stocked 1 twelfth Expense twelfth 2 (pos 1_000) (pos 1_000) ∷ [])
    (cost_entry 1 twelfth (pos 1_000) ∷ []) (stock_read ∷ []) []
unfolding share total_at terms_value sum_value bound_value cond_holds when_holds read_item left_of
    all_in_stock taken write_off cost_of number_for numbers_for at_place record_made expenses_made
    checked entry_made lot_places written_off act_on act_run statement_run round_run lines_run
    yield_of sum_rows entry_check account_at
lesser_number_seen = refl

greater_number_unseen : makes sale_rules [] (lot_of 4 twelfth (pos 1_000) (pos 1_000) ∷ [])
    (doc_of 3 twelfth (nails (pos 1_000) ∷ []))
    ≡ Err (Shortage 1 1 (pos 1_000))
unfolding share total_at terms_value sum_value bound_value cond_holds when_holds read_item left_of
    all_in_stock taken write_off cost_of number_for numbers_for at_place record_made expenses_made
    checked entry_made lot_places written_off act_on act_run statement_run round_run lines_run
    yield_of sum_rows entry_check account_at
greater_number_unseen = refl
