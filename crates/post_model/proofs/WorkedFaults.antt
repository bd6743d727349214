-- Worked rows of faults: what is required, numbers that pass the largest, entries, full sets.
use Rattle.std.proofs.Common.{◌≡◌, ℕ, ℤ, pos, negsuc, true, false, List, [], ◌∷◌, codes, Some}
use Rattle.std.proofs.Common.{None, Result, Ok, Err, map, length, replicate, refl}
use Rattle.reg_base.specs.Records.{Booked}
use Rattle.reg_base.specs.declared.fault.EntryFault.TheVariants.{ExtraCount, UnknownAccount}
use Rattle.reg_base.specs.declared.fault.PostFault.{PostFault}
use Rattle.reg_base.specs.declared.fault.PostFault.TheVariants.{Broken, Shortage, Overflow}
use Rattle.reg_base.specs.declared.fault.PostFault.TheVariants.{Entry as EntryRefused}
use Rattle.reg_base.specs.declared.fault.PostFault.TheVariants.{TooManyRecords, Negative}
use Rattle.reg_base.specs.declared.records.Mark.TheVariants.{Receipt}
use Rattle.reg_base.specs.declared.records.Mode.TheVariants.{Shared}
use Rattle.reg_base.specs.declared.value.Value.TheVariants.{Code as CodeValue}
use Rattle.rule_text.specs.declared.plain.Test.TheVariants.{Less}
use Rattle.rule_text.specs.declared.plain.Verb.TheVariants.{Receipt as MakesReceipt}
use Rattle.rule_lang.specs.declared.statement.Act.TheVariants.{Make, WriteOff, Require, Control}
use Rattle.rule_lang.specs.declared.statement.Act.TheVariants.{Entry}
use Rattle.rule_lang.specs.declared.statement.Bind.{Bind}
use Rattle.rule_lang.specs.declared.statement.Part.{Part}
use Rattle.rule_lang.specs.declared.statement.Part.TheVariants.{Number, Line, Total}
use Rattle.rule_lang.specs.declared.statement.Statement.{Statement}
use Rattle.rule_lang.specs.declared.statement.Sum.{Sum}
use Rattle.post_model.specs.declared.made.Made.{Made}
use Rattle.post_model.specs.declared.made.Yield.{Yield}
use Rattle.post_model.specs.Scenes.{Scene}
use Rattle.reg_base.specs.Shares.{share}
use Rattle.reg_base.specs.Balances.{sum_rows}
use Rattle.cfg_model.specs.Entries.{entry_check}
use Rattle.cfg_model.specs.Places.{account_at}
use Rattle.post_model.specs.Scenes.{total_at, terms_value, sum_value, bound_value, cond_holds}
use Rattle.post_model.specs.Scenes.{when_holds}
use Rattle.post_model.specs.Lefts.{read_item, left_of}
use Rattle.post_model.specs.WriteOffs.{all_in_stock, taken, write_off, cost_of}
use Rattle.post_model.specs.Makes.{number_for, numbers_for, at_place, record_made, expenses_made}
use Rattle.post_model.specs.Makes.{checked, entry_made}
use Rattle.post_model.specs.Yields.{lot_places, written_off, act_on, act_run, statement_run}
use Rattle.post_model.specs.Yields.{round_run, lines_run, yield_of}
use Rattle.post_model.proofs.RowShop.{main, sum_of, just, once, each_line, each_line_when, nail}
use Rattle.post_model.proofs.RowShop.{account, sale_rules, tenth, eleventh, twelfth, doc_of, nails}
use Rattle.post_model.proofs.RowShop.{stocked, of_nails, by, lot_of, side_of, cost_entry}
use Rattle.post_model.proofs.RowShop.{goods_read, makes, gives}

-- 7 nails and 2 bolts in goods
abbrev goods_left : List Booked
goods_left =
    by 1 (of_nails 1 tenth Receipt (pos 7_000) (pos 10_000))
    ∷ by 1 (record {
      line = 2;
      period = tenth;
      mark = Receipt;
      values = CodeValue (codes "bolt") ∷ [];
      sums = pos 2_000 ∷ pos 300 ∷ [];
    }) ∷ []

-- what rules make of lines of 3 and 4 nails
abbrev of_seven : List Statement → Result Yield PostFault
of_seven statements =
    makes statements goods_left []
    (doc_of 2 eleventh (nails (pos 3_000) ∷ nails (pos 4_000) ∷ []))

-- a requirement of goods that runs once
abbrev required : List Bind → Sum → List Statement
required binds least = once (Require 0 binds 0 least (codes "few")) ∷ []

-- the largest number with something more
abbrev largest_and : List Part → Sum
largest_and parts = sum_of (Number (pos 999_999_999_999_999) ∷ parts)

-- a receipt of so many nails that runs once
abbrev received : Sum → Statement
received quantity = once (Make MakesReceipt 0 nail ((0, quantity) ∷ []))

-- as much as is required is left, and 0.001 less than that
required_is_left : of_seven (required nail (just (Total 1)))
    ≡ gives [] [] [] [] (goods_read ∷ []) []
unfolding share total_at terms_value sum_value bound_value cond_holds when_holds read_item left_of
    all_in_stock taken write_off cost_of number_for numbers_for at_place record_made expenses_made
    checked entry_made lot_places written_off act_on act_run statement_run round_run lines_run
    yield_of sum_rows entry_check account_at
required_is_left = refl

one_thousandth_more : of_seven (required nail (sum_of (Total 1 ∷ Number (pos 1) ∷ [])))
    ≡ Err (Broken 1 0 (codes "few"))
unfolding share total_at terms_value sum_value bound_value cond_holds when_holds read_item left_of
    all_in_stock taken write_off cost_of number_for numbers_for at_place record_made expenses_made
    checked entry_made lot_places written_off act_on act_run statement_run round_run lines_run
    yield_of sum_rows entry_check account_at
one_thousandth_more = refl

-- a dimension that is not bound stands for all its values
required_of_all : of_seven (required [] (just (Number (pos 9_000))))
    ≡ gives [] [] [] [] (record { space = 0; fields = None ∷ []; mode = Shared } ∷ []) []
unfolding share total_at terms_value sum_value bound_value cond_holds when_holds read_item left_of
    all_in_stock taken write_off cost_of number_for numbers_for at_place record_made expenses_made
    checked entry_made lot_places written_off act_on act_run statement_run round_run lines_run
    yield_of sum_rows entry_check account_at
required_of_all = refl

more_than_all : of_seven (required [] (just (Number (pos 9_001))))
    ≡ Err (Broken 1 0 (codes "few"))
unfolding share total_at terms_value sum_value bound_value cond_holds when_holds read_item left_of
    all_in_stock taken write_off cost_of number_for numbers_for at_place record_made expenses_made
    checked entry_made lot_places written_off act_on act_run statement_run round_run lines_run
    yield_of sum_rows entry_check account_at
more_than_all = refl

-- a quantity below zero, in the second statement for the first line
negative : of_seven (each_line (Make MakesReceipt 0 nail [])
    ∷ each_line (WriteOff false 0 nail 0
    (record { terms = record { minus = false; negative = true; part = Line 1 } ∷ [] }) 1)
    ∷ [])
    ≡ Err (Negative 2 1)
unfolding share total_at terms_value sum_value bound_value cond_holds when_holds read_item left_of
    all_in_stock taken write_off cost_of number_for numbers_for at_place record_made expenses_made
    checked entry_made lot_places written_off act_on act_run statement_run round_run lines_run
    yield_of sum_rows entry_check account_at
negative = refl

-- an expression is computed exactly: only its result may not pass the largest number
exact_sum : of_seven (received (largest_and (Number (pos 1) ∷ Number (negsuc 0) ∷ [])) ∷ [])
    ≡ gives (of_nails 1 eleventh Receipt (pos 999_999_999_999_999) (pos 0) ∷ []) [] [] [] [] []
unfolding share total_at terms_value sum_value bound_value cond_holds when_holds read_item left_of
    all_in_stock taken write_off cost_of number_for numbers_for at_place record_made expenses_made
    checked entry_made lot_places written_off act_on act_run statement_run round_run lines_run
    yield_of sum_rows entry_check account_at
exact_sum = refl

past_the_largest : of_seven (received (largest_and (Number (pos 1) ∷ [])) ∷ [])
    ≡ Err (Overflow 1 0)
unfolding share total_at terms_value sum_value bound_value cond_holds when_holds read_item left_of
    all_in_stock taken write_off cost_of number_for numbers_for at_place record_made expenses_made
    checked entry_made lot_places written_off act_on act_run statement_run round_run lines_run
    yield_of sum_rows entry_check account_at
past_the_largest = refl

-- and neither may it be below the opposite number
past_the_least :
    of_seven (received (sum_of (Number (negsuc 999_999_999_999_998) ∷ Number (negsuc 0) ∷ [])) ∷ [])
    ≡ Err (Overflow 1 0)
unfolding share total_at terms_value sum_value bound_value cond_holds when_holds read_item left_of
    all_in_stock taken write_off cost_of number_for numbers_for at_place record_made expenses_made
    checked entry_made lot_places written_off act_on act_run statement_run round_run lines_run
    yield_of sum_rows entry_check account_at
past_the_least = refl

-- both sides of a condition are computed, for each line
right_side_overflows :
    of_seven (each_line_when (just (Line 1)) Less (largest_and (Number (pos 1) ∷ []))
    (Control 0 0) ∷ [])
    ≡ Err (Overflow 1 1)
unfolding share total_at terms_value sum_value bound_value cond_holds when_holds read_item left_of
    all_in_stock taken write_off cost_of number_for numbers_for at_place record_made expenses_made
    checked entry_made lot_places written_off act_on act_run statement_run round_run lines_run
    yield_of sum_rows entry_check account_at
right_side_overflows = refl

-- a lot of 2 whose amount passes the largest number: it was received twice
abbrev large_lot : List Booked
large_lot =
    lot_of 1 tenth (pos 1_000) (pos 999_999_999_999_999)
    ∷ by 2 (stocked 1 tenth Receipt tenth 1 (pos 1_000) (pos 999_999_999_999_999)) ∷ []

-- a record with a number past the largest
record_overflows : makes sale_rules [] large_lot (doc_of 3 twelfth (nails (pos 2_000) ∷ []))
    ≡ Err (Overflow 1 1)
unfolding share total_at terms_value sum_value bound_value cond_holds when_holds read_item left_of
    all_in_stock taken write_off cost_of number_for numbers_for at_place record_made expenses_made
    checked entry_made lot_places written_off act_on act_run statement_run round_run lines_run
    yield_of sum_rows entry_check account_at
record_overflows = refl

-- a shortage is told before it
shortage_first : makes sale_rules [] large_lot (doc_of 3 twelfth (nails (pos 2_001) ∷ []))
    ≡ Err (Shortage 1 1 (pos 1))
unfolding share total_at terms_value sum_value bound_value cond_holds when_holds read_item left_of
    all_in_stock taken write_off cost_of number_for numbers_for at_place record_made expenses_made
    checked entry_made lot_places written_off act_on act_run statement_run round_run lines_run
    yield_of sum_rows entry_check account_at
shortage_first = refl

-- an entry with an account on its debit side alone, that runs once
abbrev debited : List ℕ → Sum → List Statement
debited code amount = once (Entry 0 (account code []) None amount) ∷ []

-- account 10 asks for an item, and 77 is not in the chart
extra_missing : of_seven (debited (codes "10") (just (Number (pos 1))))
    ≡ Err (EntryRefused 1 0 ExtraCount)
unfolding share total_at terms_value sum_value bound_value cond_holds when_holds read_item left_of
    all_in_stock taken write_off cost_of number_for numbers_for at_place record_made expenses_made
    checked entry_made lot_places written_off act_on act_run statement_run round_run lines_run
    yield_of sum_rows entry_check account_at
extra_missing = refl

unknown_account : of_seven (debited (codes "77") (just (Number (pos 1))))
    ≡ Err (EntryRefused 1 0 UnknownAccount)
unfolding share total_at terms_value sum_value bound_value cond_holds when_holds read_item left_of
    all_in_stock taken write_off cost_of number_for numbers_for at_place record_made expenses_made
    checked entry_made lot_places written_off act_on act_run statement_run round_run lines_run
    yield_of sum_rows entry_check account_at
unknown_account = refl

-- an entry of amount zero is not made, and its account is not asked for
zero_entry : of_seven (debited (codes "77") (just (Number (pos 0))))
    ≡ gives [] [] [] [] [] []
unfolding share total_at terms_value sum_value bound_value cond_holds when_holds read_item left_of
    all_in_stock taken write_off cost_of number_for numbers_for at_place record_made expenses_made
    checked entry_made lot_places written_off act_on act_run statement_run round_run lines_run
    yield_of sum_rows entry_check account_at
zero_entry = refl

-- an amount past the largest number is told before the account
overflow_before_account : of_seven (debited (codes "77") (largest_and (Number (pos 1) ∷ [])))
    ≡ Err (Overflow 1 0)
unfolding share total_at terms_value sum_value bound_value cond_holds when_holds read_item left_of
    all_in_stock taken write_off cost_of number_for numbers_for at_place record_made expenses_made
    checked entry_made lot_places written_off act_on act_run statement_run round_run lines_run
    yield_of sum_rows entry_check account_at
overflow_before_account = refl

-- ---- full sets

abbrev first_line : Scene
first_line =
    record { doc = doc_of 2 eleventh []; rule = 1; line = 1; cells = []; cost = pos 0 }

-- so many records of goods and entries have been made
abbrev made_before : ℕ → Made
made_before count = record {
  sets = record {
    registers = replicate count (of_nails 1 eleventh Receipt (pos 1) (pos 1)) ∷ [];
    ledgers = replicate count (cost_entry 1 eleventh (pos 1)) ∷ [];
  };
  reads = [];
  controls = [];
  cost = pos 0;
}

-- how many records and entries there are then
abbrev counts_in : Result Made PostFault → Result (List ℕ × List ℕ) PostFault
counts_in (Ok made) = Ok (map length made.sets.registers, map length made.sets.ledgers)
counts_in (Err fault) = Err fault

-- one record more, with this quantity
abbrev record_more : ℕ → ℤ → Result Made PostFault
record_more count quantity =
    record_made first_line 0 Receipt (CodeValue (codes "nail") ∷ []) (quantity ∷ pos 0 ∷ [])
    (made_before count)

-- one entry more, on an account of the chart or not
abbrev entry_more : ℕ → List ℕ → Result Made PostFault
entry_more count code =
    entry_made first_line (Some main) 0 (side_of (codes "90") []) (side_of code []) (pos 1)
    (made_before count)

-- a set has 5,000 records at the most, of which one of zeros is none
last_record : counts_in (record_more 4_999 (pos 1))
    ≡ Ok (5_000 ∷ [], 4_999 ∷ [])
unfolding share total_at terms_value sum_value bound_value cond_holds when_holds read_item left_of
    all_in_stock taken write_off cost_of number_for numbers_for at_place record_made expenses_made
    checked entry_made lot_places written_off act_on act_run statement_run round_run lines_run
    yield_of sum_rows entry_check account_at
last_record = refl

record_too_many : counts_in (record_more 5_000 (pos 1))
    ≡ Err TooManyRecords
unfolding share total_at terms_value sum_value bound_value cond_holds when_holds read_item left_of
    all_in_stock taken write_off cost_of number_for numbers_for at_place record_made expenses_made
    checked entry_made lot_places written_off act_on act_run statement_run round_run lines_run
    yield_of sum_rows entry_check account_at
record_too_many = refl

zeros_behind_the_last : counts_in (record_more 5_000 (pos 0))
    ≡ Ok (5_000 ∷ [], 5_000 ∷ [])
unfolding share total_at terms_value sum_value bound_value cond_holds when_holds read_item left_of
    all_in_stock taken write_off cost_of number_for numbers_for at_place record_made expenses_made
    checked entry_made lot_places written_off act_on act_run statement_run round_run lines_run
    yield_of sum_rows entry_check account_at
zeros_behind_the_last = refl

-- a number past the largest is told before it
overflow_before_full : counts_in (record_more 5_000 (pos 1_000_000_000_000_000))
    ≡ Err (Overflow 1 1)
unfolding share total_at terms_value sum_value bound_value cond_holds when_holds read_item left_of
    all_in_stock taken write_off cost_of number_for numbers_for at_place record_made expenses_made
    checked entry_made lot_places written_off act_on act_run statement_run round_run lines_run
    yield_of sum_rows entry_check account_at
overflow_before_full = refl

-- and so of entries, where the chart is asked first
last_entry : counts_in (entry_more 4_999 (codes "60"))
    ≡ Ok (4_999 ∷ [], 5_000 ∷ [])
unfolding share total_at terms_value sum_value bound_value cond_holds when_holds read_item left_of
    all_in_stock taken write_off cost_of number_for numbers_for at_place record_made expenses_made
    checked entry_made lot_places written_off act_on act_run statement_run round_run lines_run
    yield_of sum_rows entry_check account_at
last_entry = refl

entry_too_many : counts_in (entry_more 5_000 (codes "60"))
    ≡ Err TooManyRecords
unfolding share total_at terms_value sum_value bound_value cond_holds when_holds read_item left_of
    all_in_stock taken write_off cost_of number_for numbers_for at_place record_made expenses_made
    checked entry_made lot_places written_off act_on act_run statement_run round_run lines_run
    yield_of sum_rows entry_check account_at
entry_too_many = refl

account_before_full : counts_in (entry_more 5_000 (codes "77"))
    ≡ Err (EntryRefused 1 1 UnknownAccount)
unfolding share total_at terms_value sum_value bound_value cond_holds when_holds read_item left_of
    all_in_stock taken write_off cost_of number_for numbers_for at_place record_made expenses_made
    checked entry_made lot_places written_off act_on act_run statement_run round_run lines_run
    yield_of sum_rows entry_check account_at
account_before_full = refl
