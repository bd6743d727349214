-- Worked rows of what refuses a post by rules: its limits, its rules, and then its controls.
use Rattle.std.proofs.Common.{◌≡◌, ℕ, pos, negsuc, true, false, Some, List, [], ◌∷◌, refl}
use Rattle.std.proofs.Common.{codes, map, ℤ, None, ◌++◌}
use Rattle.std.specs.List.{range_with_len}
use Rattle.reg_base.specs.declared.fault.PostFault.TheVariants.{Shortage, Negative}
use Rattle.reg_base.specs.declared.records.DocState.TheVariants.{Written, Posted}
use Rattle.reg_base.specs.declared.right.Right.TheVariants.{Write as WriteRight, Post as PostRight}
use Rattle.reg_base.specs.declared.right.Right.TheVariants.{Read}
use Rattle.reg_base.specs.declared.value.Value.TheVariants.{Code}
use Rattle.reg_base.specs.Balances.{sum_rows}
use Rattle.reg_base.specs.Codes.{is_code}
use Rattle.reg_base.specs.Numbers.{parse_num, digits_from, decimals_from, last_digits_from}
use Rattle.reg_base.specs.Numbers.{units_of}
use Rattle.reg_base.specs.Rights.{right_word}
use Rattle.reg_base.specs.Shares.{share}
use Rattle.cfg_model.specs.Entries.{entry_check}
use Rattle.cfg_model.specs.Places.{account_at}
use Rattle.post_model.specs.Scenes.{total_at, terms_value, sum_value, bound_value, cond_holds}
use Rattle.post_model.specs.Scenes.{when_holds}
use Rattle.post_model.specs.Lefts.{read_item, left_of}
use Rattle.post_model.specs.WriteOffs.{all_in_stock, taken, write_off, cost_of}
use Rattle.post_model.specs.Makes.{number_for, numbers_for, at_place, record_made, expenses_made}
use Rattle.post_model.specs.Makes.{checked, entry_made}
use Rattle.post_model.specs.Yields.{lot_places, written_off, act_on, act_run, statement_run}
use Rattle.post_model.specs.Yields.{round_run, lines_run, yield_of}
use Rattle.rule_text.specs.declared.plain.Verb.TheVariants.{Expense as MakesExpense}
use Rattle.rule_lang.specs.declared.statement.Act.TheVariants.{Make, WriteOff, Control as Controls}
use Rattle.rule_lang.specs.declared.statement.Bind.{Bind}
use Rattle.rule_lang.specs.declared.statement.CodeTerm.TheVariants.{Text}
use Rattle.rule_lang.specs.declared.statement.Part.TheVariants.{Number}
use Rattle.desk_words.specs.declared.request.FieldText.{FieldText}
use Rattle.desk_words.specs.declared.request.Request.{Request}
use Rattle.desk_words.specs.declared.reply.Limit.TheVariants.{Lines, Numbers}
use Rattle.desk_words.specs.declared.reply.Answer.TheVariants.{Balance as BalanceAnswer}
use Rattle.desk_words.specs.declared.reply.Field.TheVariants.{Named}
use Rattle.desk_words.specs.declared.reply.Reply.{Reply}
use Rattle.desk_words.specs.declared.reply.Reply.TheVariants.{Done, Refused}
use Rattle.desk_words.specs.declared.reply.Refusal.TheVariants.{Limit, Rule, Control, NotAllowed}
use Rattle.desk_model.specs.Fields.{cells_of}
use Rattle.desk_model.specs.Writes.{kind_of_request, content_of, plan_content}
use Rattle.desk_model.specs.Posts.{plan_post, plan_standing, plan_unpost}
use Rattle.desk_model.specs.RegisterQuestions.{question_about, question_balance}
use Rattle.desk_model.specs.Limits.{limits_of}
use Rattle.desk_model.specs.State.{Desk}
use Rattle.desk_model.specs.Serial.{work_effect, plan_effect, change_effect, question_answer}
use Rattle.desk_model.specs.Serial.{question_effect, answer_to, effect_of}
use Rattle.desk_model.specs.Desk.{step}
use Rattle.desk_model.proofs.RowBooks.{shop, empty, tenth, eleventh, just, bound, each_line, once}
use Rattle.desk_model.proofs.RowBooks.{filled, counted, post_goods, post_stock, stands, replies}
use Rattle.desk_model.proofs.RowBooks.{after, twelfth, post_at, post, unpost, goods_at, fill_rules}
use Rattle.desk_model.proofs.RowBooks.{issue_rules, in_main, bad_field, row_step}

-- ---- shortages

-- a desk with ten nails in stock, for 100.00
ten_in_stock : Desk
ten_in_stock = after empty (post_stock 1 (codes "receipt") tenth
    (filled (codes "100.00") (codes "nail") (codes "10") ∷ []) ∷ [])

-- a sale of four, and then of so many
sale_of_four : List ℕ → Request
sale_of_four more = post_stock 2 (codes "sale") eleventh
    (counted (codes "nail") (codes "4.000") ∷ counted (codes "nail") more ∷ [])

-- the second line misses 0.001; what it does not miss is posted under the same numbers
second_line_misses : replies ten_in_stock
    (sale_of_four (codes "6.001") ∷ sale_of_four (codes "6.000") ∷ [])
    ≡ Refused (Rule (Shortage 1 2 (pos 1)) (Some 3)) ∷ stands true 2 Posted ∷ []
unfolding step effect_of change_effect plan_effect work_effect limits_of right_word
    plan_post plan_content kind_of_request content_of cells_of is_code parse_num digits_from
    decimals_from last_digits_from units_of
    share total_at terms_value sum_value bound_value cond_holds when_holds read_item left_of
    all_in_stock taken write_off cost_of number_for numbers_for at_place record_made expenses_made
    checked entry_made entry_check account_at lot_places written_off act_on act_run statement_run
    round_run lines_run yield_of sum_rows
    ten_in_stock sale_of_four
second_line_misses = refl

-- the desk is as it was
nothing_changed : (row_step ten_in_stock (sale_of_four (codes "6.001"))).desk ≡ ten_in_stock
unfolding step effect_of change_effect plan_effect work_effect limits_of right_word
    plan_post plan_content kind_of_request content_of cells_of is_code parse_num digits_from
    decimals_from last_digits_from units_of
    share total_at terms_value sum_value bound_value cond_holds when_holds read_item left_of
    all_in_stock taken write_off cost_of number_for numbers_for at_place record_made expenses_made
    checked entry_made entry_check account_at lot_places written_off act_on act_run statement_run
    round_run lines_run yield_of sum_rows
    ten_in_stock sale_of_four
nothing_changed = refl

-- less than nothing is not sold
less_than_nothing : replies ten_in_stock (sale_of_four (codes "-0.001") ∷ [])
    ≡ Refused (Rule (Negative 1 2) None) ∷ []
unfolding step effect_of change_effect plan_effect work_effect limits_of right_word
    plan_post plan_content kind_of_request content_of cells_of is_code parse_num digits_from
    decimals_from last_digits_from units_of
    share total_at terms_value sum_value bound_value cond_holds when_holds read_item left_of
    all_in_stock taken write_off cost_of number_for numbers_for at_place record_made expenses_made
    checked entry_made entry_check account_at lot_places written_off act_on act_run statement_run
    round_run lines_run yield_of sum_rows
    ten_in_stock sale_of_four
less_than_nothing = refl

-- ---- controls

-- a desk with five nails in goods, for 5.00
five_in_goods : Desk
five_in_goods = after empty (post_goods 1 (codes "fill") tenth
    (filled (codes "5.00") (codes "nail") (codes "5") ∷ []) ∷ [])

-- so many are taken
take : List ℕ → Request
take quantity = post_goods 2 (codes "take") eleventh (counted (codes "nail") quantity ∷ [])

-- of five nails six are not taken, and five are
one_below : replies five_in_goods (take (codes "6") ∷ take (codes "5") ∷ [])
    ≡ Refused (Control (codes "goods") (Code (codes "nail") ∷ []) (negsuc 999) 3)
    ∷ stands true 2 Posted ∷ []
unfolding step effect_of change_effect plan_effect work_effect limits_of right_word
    plan_post plan_content kind_of_request content_of cells_of is_code parse_num digits_from
    decimals_from last_digits_from units_of
    share total_at terms_value sum_value bound_value cond_holds when_holds read_item left_of
    all_in_stock taken write_off cost_of number_for numbers_for at_place record_made expenses_made
    checked entry_made entry_check account_at lot_places written_off act_on act_run statement_run
    round_run lines_run yield_of sum_rows
    five_in_goods take
one_below = refl

-- a refusal of a control on goods
abbrev below : List ℕ → ℤ → Reply
below item balance = Refused (Control (codes "goods") (Code item ∷ []) balance 3)

-- a document's place taken by a take of so many nails
taken_again : ℕ → List ℕ → Request
taken_again nr quantity =
    post_at nr (Some 2) (codes "take") eleventh [] (counted (codes "nail") quantity ∷ [])

-- unposting is not controlled; below zero a post is refused only where it lowers the balance
below_before : replies five_in_goods
    (take (codes "5") ∷ unpost 3 1 ∷ goods_at None ∷ post 4 2 ∷ taken_again 5 (codes "5.001")
    ∷ taken_again 5 (codes "4") ∷ taken_again 6 (codes "4.001") ∷ taken_again 6 (codes "0") ∷ [])
    ≡ stands true 2 Posted ∷ stands true 1 Written
    ∷ Done (BalanceAnswer (record {
      group = Code (codes "nail") ∷ [];
      sums = negsuc 4_999 ∷ pos 0 ∷ [];
    } ∷ []) (3 ∷ 2 ∷ []))
    ∷ stands true 2 Posted ∷ below (codes "nail") (negsuc 5_000) ∷ stands true 2 Posted
    ∷ below (codes "nail") (negsuc 4_000) ∷ stands true 2 Posted ∷ []
unfolding step effect_of change_effect plan_effect work_effect limits_of right_word
    plan_post plan_content kind_of_request content_of cells_of is_code parse_num digits_from
    decimals_from last_digits_from units_of
    share total_at terms_value sum_value bound_value cond_holds when_holds read_item left_of
    all_in_stock taken write_off cost_of number_for numbers_for at_place record_made expenses_made
    checked entry_made entry_check account_at lot_places written_off act_on act_run statement_run
    round_run lines_run yield_of sum_rows
    question_effect question_answer answer_to question_balance question_about
    plan_standing plan_unpost
    five_in_goods take taken_again
below_before = refl

-- of two that are below zero the first in order of their values is told, and records of later
-- dates count
first_below_zero : replies five_in_goods
    (post_goods 2 (codes "take") eleventh
    (counted (codes "nail") (codes "6") ∷ counted (codes "bolt") (codes "2") ∷ [])
    ∷ post_goods 2 (codes "fill") twelfth (filled (codes "2.00") (codes "bolt") (codes "2") ∷ [])
    ∷ post_goods 3 (codes "take") eleventh
    (counted (codes "nail") (codes "6") ∷ counted (codes "bolt") (codes "2") ∷ [])
    ∷ post_goods 3 (codes "take") eleventh
    (counted (codes "nail") (codes "5") ∷ counted (codes "bolt") (codes "2") ∷ []) ∷ [])
    ≡ below (codes "bolt") (negsuc 1_999) ∷ stands true 2 Posted
    ∷ below (codes "nail") (negsuc 999) ∷ stands true 3 Posted ∷ []
unfolding step effect_of change_effect plan_effect work_effect limits_of right_word
    plan_post plan_content kind_of_request content_of cells_of is_code parse_num digits_from
    decimals_from last_digits_from units_of
    share total_at terms_value sum_value bound_value cond_holds when_holds read_item left_of
    all_in_stock taken write_off cost_of number_for numbers_for at_place record_made expenses_made
    checked entry_made entry_check account_at lot_places written_off act_on act_run statement_run
    round_run lines_run yield_of sum_rows
    five_in_goods
first_below_zero = refl

-- a shop whose fills are controlled too
controlled_fills : Desk
controlled_fills = record empty {
  setting = record shop {
    rules = record { kinds = (fill_rules ++ once (Controls 0 0) ∷ []) ∷ issue_rules ∷ [] };
  };
}

-- what a document no longer has is controlled
no_longer_there : replies controlled_fills
    (post_goods 1 (codes "fill") tenth (filled (codes "5.00") (codes "nail") (codes "5") ∷ [])
    ∷ post_goods 2 (codes "issue") eleventh (counted (codes "nail") (codes "3") ∷ [])
    ∷ post_at 3 (Some 1) (codes "fill") tenth []
    (filled (codes "5.00") (codes "bolt") (codes "5") ∷ [])
    ∷ post_at 3 (Some 1) (codes "fill") tenth []
    (filled (codes "5.00") (codes "nail") (codes "3") ∷ []) ∷ [])
    ≡ stands true 1 Posted ∷ stands true 2 Posted ∷ below (codes "nail") (negsuc 2_999)
    ∷ stands true 1 Posted ∷ []
unfolding step effect_of change_effect plan_effect work_effect limits_of right_word
    plan_post plan_content kind_of_request content_of cells_of is_code parse_num digits_from
    decimals_from last_digits_from units_of
    share total_at terms_value sum_value bound_value cond_holds when_holds read_item left_of
    all_in_stock taken write_off cost_of number_for numbers_for at_place record_made expenses_made
    checked entry_made entry_check account_at lot_places written_off act_on act_run statement_run
    round_run lines_run yield_of sum_rows
    controlled_fills
no_longer_there = refl

-- ---- which refusal is told

-- nails
abbrev bound_nail : List Bind
bound_nail = bound 0 (Text (codes "nail")) ∷ []

-- a type whose lines have no fields: one nail is taken once, which is controlled, and one more is
-- written off for each line
controlled_notes : Desk
controlled_notes = record empty {
  setting = record shop {
    config = record shop.config {
      kinds = record { name = codes "note"; head = []; lines = []; rules = [] } ∷ [];
    };
    rules = record {
      kinds = (once (Make MakesExpense 0 bound_nail ((0, just (Number (pos 1_000))) ∷ []))
          ∷ each_line (WriteOff false 0 bound_nail 0 (just (Number (pos 1_000))) 1)
          ∷ once (Controls 0 0) ∷ []) ∷ [];
    };
  };
}

-- a note of these fields and so many lines
note : List FieldText → ℕ → Request
note head lines =
    post_at 1 None (codes "note") tenth head (map (λ _. []) (range_with_len 0 lines))

-- a field that is not the type's is told before too many lines, those before what they miss, what
-- they miss before what is controlled; and of no line what is controlled
which_is_told : replies controlled_notes
    (note in_main 1_001 ∷ note [] 1_001 ∷ note [] 1_000 ∷ note [] 1 ∷ note [] 0 ∷ [])
    ≡ bad_field (Named (codes "warehouse")) ∷ Refused (Limit Lines 1_000)
    ∷ Refused (Rule (Shortage 2 1 (pos 1_000)) (Some 3))
    ∷ Refused (Rule (Shortage 2 1 (pos 1_000)) (Some 3))
    ∷ Refused (Control (codes "goods") (Code (codes "nail") ∷ []) (negsuc 999) 3) ∷ []
unfolding step effect_of change_effect plan_effect work_effect limits_of right_word
    plan_post plan_content kind_of_request content_of cells_of is_code parse_num digits_from
    decimals_from last_digits_from units_of
    share total_at terms_value sum_value bound_value cond_holds when_holds read_item left_of
    all_in_stock taken write_off cost_of number_for numbers_for at_place record_made expenses_made
    checked entry_made entry_check account_at lot_places written_off act_on act_run statement_run
    round_run lines_run yield_of sum_rows
    controlled_notes note
which_is_told = refl

-- a desk with ten nails in stock, where the greatest number was drawn
all_drawn : Desk
all_drawn = record ten_in_stock {
  serial = record ten_in_stock.serial { top = 4_294_967_295 };
}

-- that no number is left is told before what a sale misses
numbers_before_rules : replies all_drawn (sale_of_four (codes "6.001") ∷ [])
    ≡ Refused (Limit Numbers 4_294_967_295) ∷ []
unfolding step effect_of change_effect plan_effect work_effect limits_of right_word
    plan_post plan_content kind_of_request content_of cells_of is_code parse_num digits_from
    decimals_from last_digits_from units_of
    share total_at terms_value sum_value bound_value cond_holds when_holds read_item left_of
    all_in_stock taken write_off cost_of number_for numbers_for at_place record_made expenses_made
    checked entry_made entry_check account_at lot_places written_off act_on act_run statement_run
    round_run lines_run yield_of sum_rows
    all_drawn ten_in_stock sale_of_four
numbers_before_rules = refl

-- a desk on which nobody may post
nobody_posts : Desk
nobody_posts = record empty {
  setting = record shop {
    config = record shop.config {
      clerks = record { name = codes "anna"; rights = WriteRight ∷ Read ∷ [] } ∷ [];
    };
  };
}

-- to post and to unpost asks for the right to post
right_to_post : replies nobody_posts
    (post_goods 1 (codes "fill") tenth [] ∷ post 1 1 ∷ unpost 1 1 ∷ [])
    ≡ Refused (NotAllowed PostRight) ∷ Refused (NotAllowed PostRight)
    ∷ Refused (NotAllowed PostRight) ∷ []
unfolding step effect_of right_word nobody_posts
right_to_post = refl
