-- The definitions computed on a small configuration: a statement of each verb, read and printed.
use Rattle.std.proofs.Common.{◌≡◌, ◌++◌, List, [], ◌∷◌, codes, true, false, Some, None, Ok, pos}
use Rattle.std.proofs.Common.{refl}
use Rattle.reg_base.specs.Codes.{is_name, is_code}
use Rattle.reg_base.specs.Numbers.{number_text, sum_text, units_text}
use Rattle.rule_text.specs.Marks.{mark_text, single_mark, double_mark}
use Rattle.rule_text.specs.Tokens.{word_lexeme, decimal_count, number_lexeme, closed_code}
use Rattle.rule_text.specs.Tokens.{quoted_lexeme, mark_lexeme, lexeme_of, pieces_from, tokens_of}
use Rattle.rule_text.specs.Readers.{mark, word, name, code_if, quoted, many, list_on, list_reader}
use Rattle.rule_text.specs.Plain.{lone_field, equality_of}
use Rattle.rule_text.specs.Sums.{field, owner, field_code, code, field_part, part, term, joint}
use Rattle.rule_text.specs.Sums.{next_term, sum}
use Rattle.rule_text.specs.Binds.{bind_to, bind, next_bind, binds, target, amount, next_amount}
use Rattle.rule_text.specs.Binds.{amounts}
use Rattle.rule_text.specs.Acts.{make, write_off, require, control, next_code, extra_codes}
use Rattle.rule_text.specs.Acts.{account_side, side, sides, entry, opening_of, act_of, verb, act}
use Rattle.rule_text.specs.Conditions.{test_of, comparison, equality, text_cond, sums_cond}
use Rattle.rule_text.specs.Conditions.{field_cond, sum_cond, cond, when}
use Rattle.rule_text.specs.Sentences.{scope, statement, next_statement, statements, statements_of}
use Rattle.rule_lang.specs.Least.{why_number, both, beside, each_or_least}
use Rattle.rule_lang.specs.Fields.{place_of, resolved_field, resolved_number_field}
use Rattle.rule_lang.specs.Fields.{resolved_code_field, units_at}
use Rattle.rule_lang.specs.Terms.{literal_at, line_part, cost_part, resolved_part, resolved_term}
use Rattle.rule_lang.specs.Terms.{resolved_sum, line_code, resolved_code}
use Rattle.rule_lang.specs.Conditions.{scale_of_field, scale_of_part, first_scale, asked_scale}
use Rattle.rule_lang.specs.Conditions.{resolved_sums, resolved_codes, lone_code, resolved_cond}
use Rattle.rule_lang.specs.Binds.{resolved_bind_to, resolved_bind, resolved_amount, none_twice}
use Rattle.rule_lang.specs.Makes.{make_fits, make_act, resolved_record, resolved_make}
use Rattle.rule_lang.specs.WriteOffs.{write_off_fits, write_off_act, resolved_write_off_from}
use Rattle.rule_lang.specs.WriteOffs.{resolved_write_off}
use Rattle.rule_lang.specs.Requirements.{require_fits, require_act, resolved_requirement}
use Rattle.rule_lang.specs.Requirements.{resolved_require, resolved_control}
use Rattle.rule_lang.specs.Entries.{resolved_account, resolved_side, entry_act, resolved_entry}
use Rattle.rule_lang.specs.Acts.{resolved_act}
use Rattle.rule_lang.specs.Sequences.{sequence_fits, sequences_fit, keeps_sequences}
use Rattle.rule_lang.specs.Costs.{round_of, scale_at, costs_after}
use Rattle.rule_lang.specs.Rules.{scope_fits, resolved_when, last_fits, statement_if_fit}
use Rattle.rule_lang.specs.Rules.{resolved_statement_in, resolved_statement, statements_from}
use Rattle.rule_lang.specs.Rules.{kind_rules, each_kind, rules_of}
use Rattle.rule_lang.specs.TermTexts.{code_text, part_text, term_text, terms_text, test_text}
use Rattle.rule_lang.specs.TermTexts.{part_scale, terms_scale, cond_text, when_text}
use Rattle.rule_lang.specs.RuleTexts.{to_text, bind_text, binds_text, amount_text, amounts_text}
use Rattle.rule_lang.specs.RuleTexts.{make_text, write_off_text, require_text, control_text}
use Rattle.rule_lang.specs.RuleTexts.{side_text, entry_text, act_text, scope_text, statement_text}
use Rattle.rule_lang.specs.RuleTexts.{statements_text, rules_text}
use Rattle.rule_lang.specs.Printed.{with_canonical_texts}
use Rattle.rule_text.specs.declared.plain.Verb.TheVariants.{Receipt, Expense, Turn}
use Rattle.rule_lang.specs.declared.statement.Act.{Act}
use Rattle.rule_lang.specs.declared.statement.Act.TheVariants.{Make, WriteOff, Require, Control}
use Rattle.rule_lang.specs.declared.statement.Act.TheVariants.{Entry}
use Rattle.rule_lang.specs.declared.statement.Bind.{Bind}
use Rattle.rule_lang.specs.declared.statement.BindTo.TheVariants.{Code, Point}
use Rattle.rule_lang.specs.declared.statement.CodeTerm.TheVariants.{Text, Head}
use Rattle.rule_lang.specs.declared.statement.Part.{Part}
use Rattle.rule_lang.specs.declared.statement.Part.TheVariants.{Number, Line as LinePart, Cost}
use Rattle.rule_lang.specs.declared.statement.Statement.{Statement}
use Rattle.rule_lang.specs.declared.statement.Sum.{Sum}
use Rattle.rule_lang.proofs.WorkedRows.{sale, shop}

-- a sum of one part
abbrev lone : Part → Sum
lone part = record { terms = record { minus = false; negative = false; part = part } ∷ [] }

-- nails
abbrev nails : Bind
nails = record { dimension = 0; to = Code (Text (codes "nail")) }

-- the batch of the document
abbrev own : Bind
own = record { dimension = 1; to = Point }

-- a statement that runs once
abbrev once : Act → Statement
once act = record { each = false; act = act; when = None }

-- one unit is a thousand of the smallest
abbrev receipt : List Statement
receipt = once (Make Receipt 0 (nails ∷ own ∷ []) ((0, lone (Number (pos 1000))) ∷ [])) ∷ []

receipt_read : rules_of (shop [] (codes "receipt goods(item=\"nail\",batch=point;quantity=1);"))
    ≡ Ok (receipt ∷ [])
unfolding mark_text single_mark double_mark word_lexeme decimal_count number_lexeme closed_code
    quoted_lexeme mark_lexeme lexeme_of pieces_from tokens_of mark word name code_if quoted
    many list_on list_reader lone_field equality_of field owner field_code code field_part
    part term joint next_term sum bind_to bind next_bind binds target amount next_amount
    amounts make write_off require control next_code extra_codes account_side side sides entry
    opening_of act_of verb act test_of comparison equality text_cond sums_cond field_cond sum_cond
    cond when scope statement next_statement statements statements_of why_number both beside
    each_or_least place_of resolved_field resolved_number_field resolved_code_field units_at
    literal_at line_part cost_part resolved_part resolved_term resolved_sum line_code
    resolved_code scale_of_field scale_of_part first_scale asked_scale resolved_sums
    resolved_codes lone_code resolved_cond resolved_bind_to resolved_bind resolved_amount
    none_twice make_fits make_act resolved_record resolved_make write_off_fits write_off_act
    resolved_write_off_from resolved_write_off require_fits require_act resolved_requirement
    resolved_require resolved_control resolved_account resolved_side entry_act resolved_entry
    resolved_act sequence_fits sequences_fit keeps_sequences round_of scope_fits resolved_when
    last_fits statement_if_fit resolved_statement_in resolved_statement scale_at costs_after
    statements_from kind_rules each_kind rules_of is_name is_code
receipt_read = refl

receipt_text : rules_text (shop [] []) (sale []) receipt
    ≡ codes "once receipt goods(item = \"nail\", batch = point; quantity = 1.000);\n"
unfolding code_text part_text term_text terms_text test_text part_scale terms_scale cond_text
    when_text to_text bind_text binds_text amount_text amounts_text make_text write_off_text
    require_text control_text side_text entry_text act_text scope_text statement_text
    statements_text rules_text scale_at costs_after number_text sum_text units_text
receipt_text = refl

-- an expense of what the line has
abbrev expense : List Statement
expense = record {
  each = true;
  act = Make Expense 0 (own ∷ nails ∷ []) ((0, lone (LinePart 1)) ∷ []);
  when = None;
} ∷ []

expense_read : rules_of
    (shop [] (codes "each line expense goods(batch=point,item=\"nail\";quantity=line.quantity);"))
    ≡ Ok (expense ∷ [])
unfolding mark_text single_mark double_mark word_lexeme decimal_count number_lexeme closed_code
    quoted_lexeme mark_lexeme lexeme_of pieces_from tokens_of mark word name code_if quoted
    many list_on list_reader lone_field equality_of field owner field_code code field_part
    part term joint next_term sum bind_to bind next_bind binds target amount next_amount
    amounts make write_off require control next_code extra_codes account_side side sides entry
    opening_of act_of verb act test_of comparison equality text_cond sums_cond field_cond sum_cond
    cond when scope statement next_statement statements statements_of why_number both beside
    each_or_least place_of resolved_field resolved_number_field resolved_code_field units_at
    literal_at line_part cost_part resolved_part resolved_term resolved_sum line_code
    resolved_code scale_of_field scale_of_part first_scale asked_scale resolved_sums
    resolved_codes lone_code resolved_cond resolved_bind_to resolved_bind resolved_amount
    none_twice make_fits make_act resolved_record resolved_make write_off_fits write_off_act
    resolved_write_off_from resolved_write_off require_fits require_act resolved_requirement
    resolved_require resolved_control resolved_account resolved_side entry_act resolved_entry
    resolved_act sequence_fits sequences_fit keeps_sequences round_of scope_fits resolved_when
    last_fits statement_if_fit resolved_statement_in resolved_statement scale_at costs_after
    statements_from kind_rules each_kind rules_of is_name is_code
expense_read = refl

expense_text : rules_text (shop [] []) (sale []) expense
    ≡ codes "each line expense goods(batch = point, item = \"nail\"; quantity = line.quantity);\n"
unfolding code_text part_text term_text terms_text test_text part_scale terms_scale cond_text
    when_text to_text bind_text binds_text amount_text amounts_text make_text write_off_text
    require_text control_text side_text entry_text act_text scope_text statement_text
    statements_text rules_text scale_at costs_after number_text sum_text units_text
expense_text = refl

-- a turn of one and a half
abbrev turn : List Statement
turn = once (Make Turn 1 (nails ∷ []) ((0, lone (Number (pos 150))) ∷ [])) ∷ []

turn_read : rules_of (shop [] (codes "turn sales(item=\"nail\";amount=1.5);"))
    ≡ Ok (turn ∷ [])
unfolding mark_text single_mark double_mark word_lexeme decimal_count number_lexeme closed_code
    quoted_lexeme mark_lexeme lexeme_of pieces_from tokens_of mark word name code_if quoted
    many list_on list_reader lone_field equality_of field owner field_code code field_part
    part term joint next_term sum bind_to bind next_bind binds target amount next_amount
    amounts make write_off require control next_code extra_codes account_side side sides entry
    opening_of act_of verb act test_of comparison equality text_cond sums_cond field_cond sum_cond
    cond when scope statement next_statement statements statements_of why_number both beside
    each_or_least place_of resolved_field resolved_number_field resolved_code_field units_at
    literal_at line_part cost_part resolved_part resolved_term resolved_sum line_code
    resolved_code scale_of_field scale_of_part first_scale asked_scale resolved_sums
    resolved_codes lone_code resolved_cond resolved_bind_to resolved_bind resolved_amount
    none_twice make_fits make_act resolved_record resolved_make write_off_fits write_off_act
    resolved_write_off_from resolved_write_off require_fits require_act resolved_requirement
    resolved_require resolved_control resolved_account resolved_side entry_act resolved_entry
    resolved_act sequence_fits sequences_fit keeps_sequences round_of scope_fits resolved_when
    last_fits statement_if_fit resolved_statement_in resolved_statement scale_at costs_after
    statements_from kind_rules each_kind rules_of is_name is_code
turn_read = refl

turn_text : rules_text (shop [] []) (sale []) turn
    ≡ codes "once turn sales(item = \"nail\"; amount = 1.50);\n"
unfolding code_text part_text term_text terms_text test_text part_scale terms_scale cond_text
    when_text to_text bind_text binds_text amount_text amounts_text make_text write_off_text
    require_text control_text side_text entry_text act_text scope_text statement_text
    statements_text rules_text scale_at costs_after number_text sum_text units_text
turn_text = refl

-- a write-off by the order of lots, and what it costs
abbrev fifo : List Statement
fifo = once (WriteOff true 0 (nails ∷ []) 0 (lone (Number (pos 2000))) 1)
    ∷ once (Make Turn 1 (nails ∷ []) ((0, lone Cost) ∷ [])) ∷ []

fifo_read : rules_of
    (shop [] (codes
    "fifo goods(item=\"nail\";quantity=2,amount); turn sales(item=\"nail\";amount=cost);"))
    ≡ Ok (fifo ∷ [])
unfolding mark_text single_mark double_mark word_lexeme decimal_count number_lexeme closed_code
    quoted_lexeme mark_lexeme lexeme_of pieces_from tokens_of mark word name code_if quoted
    many list_on list_reader lone_field equality_of field owner field_code code field_part
    part term joint next_term sum bind_to bind next_bind binds target amount next_amount
    amounts make write_off require control next_code extra_codes account_side side sides entry
    opening_of act_of verb act test_of comparison equality text_cond sums_cond field_cond sum_cond
    cond when scope statement next_statement statements statements_of why_number both beside
    each_or_least place_of resolved_field resolved_number_field resolved_code_field units_at
    literal_at line_part cost_part resolved_part resolved_term resolved_sum line_code
    resolved_code scale_of_field scale_of_part first_scale asked_scale resolved_sums
    resolved_codes lone_code resolved_cond resolved_bind_to resolved_bind resolved_amount
    none_twice make_fits make_act resolved_record resolved_make write_off_fits write_off_act
    resolved_write_off_from resolved_write_off require_fits require_act resolved_requirement
    resolved_require resolved_control resolved_account resolved_side entry_act resolved_entry
    resolved_act sequence_fits sequences_fit keeps_sequences round_of scope_fits resolved_when
    last_fits statement_if_fit resolved_statement_in resolved_statement scale_at costs_after
    statements_from kind_rules each_kind rules_of is_name is_code
fifo_read = refl

fifo_text : rules_text (shop [] []) (sale []) fifo
    ≡ codes "once fifo goods(item = \"nail\"; quantity = 2.000, amount);\n"
    ++ codes "once turn sales(item = \"nail\"; amount = cost);\n"
unfolding code_text part_text term_text terms_text test_text part_scale terms_scale cond_text
    when_text to_text bind_text binds_text amount_text amounts_text make_text write_off_text
    require_text control_text side_text entry_text act_text scope_text statement_text
    statements_text rules_text scale_at costs_after number_text sum_text units_text
fifo_text = refl

-- a write-off by the average
abbrev average : List Statement
average = once (WriteOff false 0 (nails ∷ own ∷ []) 0 (lone (Number (pos 2000))) 1) ∷ []

average_read : rules_of
    (shop [] (codes "average goods(item=\"nail\",batch=point;quantity=2,amount);"))
    ≡ Ok (average ∷ [])
unfolding mark_text single_mark double_mark word_lexeme decimal_count number_lexeme closed_code
    quoted_lexeme mark_lexeme lexeme_of pieces_from tokens_of mark word name code_if quoted
    many list_on list_reader lone_field equality_of field owner field_code code field_part
    part term joint next_term sum bind_to bind next_bind binds target amount next_amount
    amounts make write_off require control next_code extra_codes account_side side sides entry
    opening_of act_of verb act test_of comparison equality text_cond sums_cond field_cond sum_cond
    cond when scope statement next_statement statements statements_of why_number both beside
    each_or_least place_of resolved_field resolved_number_field resolved_code_field units_at
    literal_at line_part cost_part resolved_part resolved_term resolved_sum line_code
    resolved_code scale_of_field scale_of_part first_scale asked_scale resolved_sums
    resolved_codes lone_code resolved_cond resolved_bind_to resolved_bind resolved_amount
    none_twice make_fits make_act resolved_record resolved_make write_off_fits write_off_act
    resolved_write_off_from resolved_write_off require_fits require_act resolved_requirement
    resolved_require resolved_control resolved_account resolved_side entry_act resolved_entry
    resolved_act sequence_fits sequences_fit keeps_sequences round_of scope_fits resolved_when
    last_fits statement_if_fit resolved_statement_in resolved_statement scale_at costs_after
    statements_from kind_rules each_kind rules_of is_name is_code
average_read = refl

average_text : rules_text (shop [] []) (sale []) average
    ≡ codes "once average goods(item = \"nail\", batch = point; quantity = 2.000, amount);\n"
unfolding code_text part_text term_text terms_text test_text part_scale terms_scale cond_text
    when_text to_text bind_text binds_text amount_text amounts_text make_text write_off_text
    require_text control_text side_text entry_text act_text scope_text statement_text
    statements_text rules_text scale_at costs_after number_text sum_text units_text
average_text = refl

-- a requirement
abbrev requirement : List Statement
requirement = once (Require 0 (nails ∷ []) 0 (lone (Number (pos 0))) (codes "low")) ∷ []

requirement_read : rules_of
    (shop [] (codes "require goods(item=\"nail\";quantity) >= 0 code \"low\";"))
    ≡ Ok (requirement ∷ [])
unfolding mark_text single_mark double_mark word_lexeme decimal_count number_lexeme closed_code
    quoted_lexeme mark_lexeme lexeme_of pieces_from tokens_of mark word name code_if quoted
    many list_on list_reader lone_field equality_of field owner field_code code field_part
    part term joint next_term sum bind_to bind next_bind binds target amount next_amount
    amounts make write_off require control next_code extra_codes account_side side sides entry
    opening_of act_of verb act test_of comparison equality text_cond sums_cond field_cond sum_cond
    cond when scope statement next_statement statements statements_of why_number both beside
    each_or_least place_of resolved_field resolved_number_field resolved_code_field units_at
    literal_at line_part cost_part resolved_part resolved_term resolved_sum line_code
    resolved_code scale_of_field scale_of_part first_scale asked_scale resolved_sums
    resolved_codes lone_code resolved_cond resolved_bind_to resolved_bind resolved_amount
    none_twice make_fits make_act resolved_record resolved_make write_off_fits write_off_act
    resolved_write_off_from resolved_write_off require_fits require_act resolved_requirement
    resolved_require resolved_control resolved_account resolved_side entry_act resolved_entry
    resolved_act sequence_fits sequences_fit keeps_sequences round_of scope_fits resolved_when
    last_fits statement_if_fit resolved_statement_in resolved_statement scale_at costs_after
    statements_from kind_rules each_kind rules_of is_name is_code
requirement_read = refl

requirement_text : rules_text (shop [] []) (sale []) requirement
    ≡ codes "once require goods(item = \"nail\"; quantity) >= 0.000 code \"low\";\n"
unfolding code_text part_text term_text terms_text test_text part_scale terms_scale cond_text
    when_text to_text bind_text binds_text amount_text amounts_text make_text write_off_text
    require_text control_text side_text entry_text act_text scope_text statement_text
    statements_text rules_text scale_at costs_after number_text sum_text units_text
requirement_text = refl

-- a control
abbrev control_of_goods : List Statement
control_of_goods = once (Control 0 0) ∷ []

control_of_goods_read : rules_of (shop [] (codes "control goods quantity;"))
    ≡ Ok (control_of_goods ∷ [])
unfolding mark_text single_mark double_mark word_lexeme decimal_count number_lexeme closed_code
    quoted_lexeme mark_lexeme lexeme_of pieces_from tokens_of mark word name code_if quoted
    many list_on list_reader lone_field equality_of field owner field_code code field_part
    part term joint next_term sum bind_to bind next_bind binds target amount next_amount
    amounts make write_off require control next_code extra_codes account_side side sides entry
    opening_of act_of verb act test_of comparison equality text_cond sums_cond field_cond sum_cond
    cond when scope statement next_statement statements statements_of why_number both beside
    each_or_least place_of resolved_field resolved_number_field resolved_code_field units_at
    literal_at line_part cost_part resolved_part resolved_term resolved_sum line_code
    resolved_code scale_of_field scale_of_part first_scale asked_scale resolved_sums
    resolved_codes lone_code resolved_cond resolved_bind_to resolved_bind resolved_amount
    none_twice make_fits make_act resolved_record resolved_make write_off_fits write_off_act
    resolved_write_off_from resolved_write_off require_fits require_act resolved_requirement
    resolved_require resolved_control resolved_account resolved_side entry_act resolved_entry
    resolved_act sequence_fits sequences_fit keeps_sequences round_of scope_fits resolved_when
    last_fits statement_if_fit resolved_statement_in resolved_statement scale_at costs_after
    statements_from kind_rules each_kind rules_of is_name is_code
control_of_goods_read = refl

control_of_goods_text : rules_text (shop [] []) (sale []) control_of_goods
    ≡ codes "control goods quantity;\n"
unfolding code_text part_text term_text terms_text test_text part_scale terms_scale cond_text
    when_text to_text bind_text binds_text amount_text amounts_text make_text write_off_text
    require_text control_text side_text entry_text act_text scope_text statement_text
    statements_text rules_text scale_at costs_after number_text sum_text units_text
control_of_goods_text = refl

-- an entry with one side
abbrev entry_of_main : List Statement
entry_of_main = once (Entry 0 (Some (record { account = Head 0; extras = Text (codes "a") ∷ [] }))
    None
    (lone (Number (pos 1000)))) ∷ []

entry_of_main_read : rules_of
    (shop [] (codes "entry main(debit head.store(\"a\"), credit none; 10);"))
    ≡ Ok (entry_of_main ∷ [])
unfolding mark_text single_mark double_mark word_lexeme decimal_count number_lexeme closed_code
    quoted_lexeme mark_lexeme lexeme_of pieces_from tokens_of mark word name code_if quoted
    many list_on list_reader lone_field equality_of field owner field_code code field_part
    part term joint next_term sum bind_to bind next_bind binds target amount next_amount
    amounts make write_off require control next_code extra_codes account_side side sides entry
    opening_of act_of verb act test_of comparison equality text_cond sums_cond field_cond sum_cond
    cond when scope statement next_statement statements statements_of why_number both beside
    each_or_least place_of resolved_field resolved_number_field resolved_code_field units_at
    literal_at line_part cost_part resolved_part resolved_term resolved_sum line_code
    resolved_code scale_of_field scale_of_part first_scale asked_scale resolved_sums
    resolved_codes lone_code resolved_cond resolved_bind_to resolved_bind resolved_amount
    none_twice make_fits make_act resolved_record resolved_make write_off_fits write_off_act
    resolved_write_off_from resolved_write_off require_fits require_act resolved_requirement
    resolved_require resolved_control resolved_account resolved_side entry_act resolved_entry
    resolved_act sequence_fits sequences_fit keeps_sequences round_of scope_fits resolved_when
    last_fits statement_if_fit resolved_statement_in resolved_statement scale_at costs_after
    statements_from kind_rules each_kind rules_of is_name is_code
entry_of_main_read = refl

entry_of_main_text : rules_text (shop [] []) (sale []) entry_of_main
    ≡ codes "once entry main(debit head.store(\"a\"), credit none; 10.00);\n"
unfolding code_text part_text term_text terms_text test_text part_scale terms_scale cond_text
    when_text to_text bind_text binds_text amount_text amounts_text make_text write_off_text
    require_text control_text side_text entry_text act_text scope_text statement_text
    statements_text rules_text scale_at costs_after number_text sum_text units_text
entry_of_main_text = refl

-- the configuration with the canonical text in the place of its own
whole : with_canonical_texts (shop [] (codes "control goods quantity ;")) (control_of_goods ∷ [])
    ≡ shop [] (codes "control goods quantity;\n")
unfolding code_text part_text term_text terms_text test_text part_scale terms_scale cond_text
    when_text to_text bind_text binds_text amount_text amounts_text make_text write_off_text
    require_text control_text side_text entry_text act_text scope_text statement_text
    statements_text rules_text scale_at costs_after number_text sum_text units_text
whole = refl
