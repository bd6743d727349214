-- The definitions computed on a small configuration: each reason against a statement.
use Rattle.std.proofs.Common.{◌≡◌, ℕ, List, [], ◌∷◌, ◌++◌, codes, true, false, Some, None, Err}
use Rattle.std.proofs.Common.{refl}
use Rattle.reg_base.specs.Codes.{is_name, is_code}
use Rattle.reg_base.specs.Numbers.{number_text}
use Rattle.cfg_model.specs.declared.config.Config.{Config}
use Rattle.cfg_model.specs.declared.kind.Kind.{Kind}
use Rattle.cfg_model.specs.declared.register.Register.{Register}
use Rattle.cfg_model.specs.declared.sequence.Sequence.{Sequence}
use Rattle.rule_text.specs.Marks.{mark_text, single_mark, double_mark}
use Rattle.rule_text.specs.Tokens.{word_lexeme, decimal_count, number_lexeme, closed_code}
use Rattle.rule_text.specs.Tokens.{quoted_lexeme, mark_lexeme, lexeme_of, pieces_from, tokens_of}
use Rattle.rule_text.specs.Readers.{mark, word, name, code_if, quoted, many, list_on, list_reader}
use Rattle.rule_text.specs.Plain.{lone_field, equality_of}
use Rattle.rule_text.specs.Sums.{field, owner, field_code, code, field_part, part, term, joint}
use Rattle.rule_text.specs.Sums.{next_term, sum}
use Rattle.rule_text.specs.Binds.{bind_to, bind, next_bind, binds, target, amount, next_amount}
use Rattle.rule_text.specs.Binds.{amounts}
use Rattle.rule_text.specs.Acts.{make, write_off, require, control, next_code, extra_codes}
use Rattle.rule_text.specs.Acts.{account_side, side, sides, entry, opening_of, act_of, verb, act}
use Rattle.rule_text.specs.Conditions.{test_of, comparison, equality, text_cond, sums_cond}
use Rattle.rule_text.specs.Conditions.{field_cond, sum_cond, cond, when}
use Rattle.rule_text.specs.Sentences.{scope, statement, next_statement, statements, statements_of}
use Rattle.rule_lang.specs.Least.{why_number, both, beside, each_or_least}
use Rattle.rule_lang.specs.Fields.{place_of, resolved_field, resolved_number_field}
use Rattle.rule_lang.specs.Fields.{resolved_code_field, units_at}
use Rattle.rule_lang.specs.Terms.{literal_at, line_part, cost_part, resolved_part, resolved_term}
use Rattle.rule_lang.specs.Terms.{resolved_sum, line_code, resolved_code}
use Rattle.rule_lang.specs.Conditions.{scale_of_field, scale_of_part, first_scale, asked_scale}
use Rattle.rule_lang.specs.Conditions.{resolved_sums, resolved_codes, lone_code, resolved_cond}
use Rattle.rule_lang.specs.Binds.{resolved_bind_to, resolved_bind, resolved_amount, none_twice}
use Rattle.rule_lang.specs.Makes.{make_fits, make_act, resolved_record, resolved_make}
use Rattle.rule_lang.specs.WriteOffs.{write_off_fits, write_off_act, resolved_write_off_from}
use Rattle.rule_lang.specs.WriteOffs.{resolved_write_off}
use Rattle.rule_lang.specs.Requirements.{require_fits, require_act, resolved_requirement}
use Rattle.rule_lang.specs.Requirements.{resolved_require, resolved_control}
use Rattle.rule_lang.specs.Entries.{resolved_account, resolved_side, entry_act, resolved_entry}
use Rattle.rule_lang.specs.Acts.{resolved_act}
use Rattle.rule_lang.specs.Sequences.{sequence_fits, sequences_fit, keeps_sequences}
use Rattle.rule_lang.specs.Costs.{round_of, scale_at, costs_after}
use Rattle.rule_lang.specs.Rules.{scope_fits, resolved_when, last_fits, statement_if_fit}
use Rattle.rule_lang.specs.Rules.{resolved_statement_in, resolved_statement, statements_from}
use Rattle.rule_lang.specs.Rules.{kind_rules, each_kind, rules_of}
use Rattle.rule_lang.specs.FaultTexts.{rule_fault_text}
use Rattle.rule_text.specs.declared.plain.PlainAct.TheVariants.{Control as PlainControl}
use Rattle.rule_text.specs.declared.token.Spelling.TheVariants.{Named}
use Rattle.rule_lang.specs.declared.fault.RuleFault.TheVariants.{Wrong, Memory}
use Rattle.rule_lang.specs.declared.fault.RuleWhy.TheVariants.{Syntax, UnknownName, Unbound}
use Rattle.rule_lang.specs.declared.fault.RuleWhy.TheVariants.{TwiceBound, WrongType, WrongScope}
use Rattle.rule_lang.specs.declared.fault.RuleWhy.TheVariants.{WrongRegister, TooMany}
use Rattle.rule_lang.specs.declared.fault.RuleWhy.TheVariants.{SequenceUnbound}

-- goods by item and batch, with a quantity of three decimals and an amount of two
abbrev pub goods : Register
goods = record {
  name = codes "goods";
  balance = true;
  dimensions = record { name = codes "item"; lot = false } ∷ record {
    name = codes "batch";
    lot =
        true;
  } ∷ [];
  resources = record { name = codes "quantity"; scale = 3 } ∷ record
      { name = codes "amount"; scale = 2 } ∷ [];
  split = false;
}

-- sales by item, of which no balance is kept
abbrev pub sales : Register
sales = record {
  name = codes "sales";
  balance = false;
  dimensions = record { name = codes "item"; lot = false } ∷ [];
  resources = record { name = codes "amount"; scale = 2 } ∷ [];
  split = false;
}

-- a type whose head has a store, and its lines an item and a quantity
abbrev pub sale : List ℕ → Kind
sale rules = record {
  name = codes "sale";
  head = record { name = codes "store"; scale = None } ∷ [];
  lines =
      record { name = codes "item"; scale = None }
      ∷ record { name = codes "quantity"; scale = Some 3 } ∷ [];
  rules = rules;
}

-- a configuration of these with a ledger of two decimals, and with these sequences
abbrev pub shop : List Sequence → List ℕ → Config
shop sequences rules = record {
  registers = goods ∷ sales ∷ [];
  ledgers = record { name = codes "main"; scale = 2; split = false; accounts = [] } ∷ [];
  kinds = sale rules ∷ [];
  sequences = sequences;
  clerks = [];
}

-- a number where a code or a semicolon has to stand
number_for_code : rules_of (shop [] (codes "each line receipt goods(quantity = 1);"))
    ≡ Err (Wrong (codes "sale") 35 Syntax)
unfolding mark_text single_mark double_mark word_lexeme decimal_count number_lexeme closed_code
    quoted_lexeme mark_lexeme lexeme_of pieces_from tokens_of mark word name code_if quoted
    many list_on list_reader lone_field equality_of field owner field_code code field_part
    part term joint next_term sum bind_to bind next_bind binds target amount next_amount
    amounts make write_off require control next_code extra_codes account_side side sides entry
    opening_of act_of verb act test_of comparison equality text_cond sums_cond field_cond sum_cond
    cond when scope statement next_statement statements statements_of why_number both beside
    each_or_least place_of resolved_field resolved_number_field resolved_code_field units_at
    literal_at line_part cost_part resolved_part resolved_term resolved_sum line_code
    resolved_code scale_of_field scale_of_part first_scale asked_scale resolved_sums
    resolved_codes lone_code resolved_cond resolved_bind_to resolved_bind resolved_amount
    none_twice make_fits make_act resolved_record resolved_make write_off_fits write_off_act
    resolved_write_off_from resolved_write_off require_fits require_act resolved_requirement
    resolved_require resolved_control resolved_account resolved_side entry_act resolved_entry
    resolved_act sequence_fits sequences_fit keeps_sequences round_of scope_fits resolved_when
    last_fits statement_if_fit resolved_statement_in resolved_statement scale_at costs_after
    statements_from kind_rules each_kind rules_of is_name is_code
number_for_code = refl

-- a register that is not there
no_register : rules_of (shop [] (codes "receipt stock(item = \"nail\"; quantity = 1);"))
    ≡ Err (Wrong (codes "sale") 0 UnknownName)
unfolding mark_text single_mark double_mark word_lexeme decimal_count number_lexeme closed_code
    quoted_lexeme mark_lexeme lexeme_of pieces_from tokens_of mark word name code_if quoted
    many list_on list_reader lone_field equality_of field owner field_code code field_part
    part term joint next_term sum bind_to bind next_bind binds target amount next_amount
    amounts make write_off require control next_code extra_codes account_side side sides entry
    opening_of act_of verb act test_of comparison equality text_cond sums_cond field_cond sum_cond
    cond when scope statement next_statement statements statements_of why_number both beside
    each_or_least place_of resolved_field resolved_number_field resolved_code_field units_at
    literal_at line_part cost_part resolved_part resolved_term resolved_sum line_code
    resolved_code scale_of_field scale_of_part first_scale asked_scale resolved_sums
    resolved_codes lone_code resolved_cond resolved_bind_to resolved_bind resolved_amount
    none_twice make_fits make_act resolved_record resolved_make write_off_fits write_off_act
    resolved_write_off_from resolved_write_off require_fits require_act resolved_requirement
    resolved_require resolved_control resolved_account resolved_side entry_act resolved_entry
    resolved_act sequence_fits sequences_fit keeps_sequences round_of scope_fits resolved_when
    last_fits statement_if_fit resolved_statement_in resolved_statement scale_at costs_after
    statements_from kind_rules each_kind rules_of is_name is_code
no_register = refl

-- a dimension without a value
no_batch : rules_of (shop [] (codes "receipt goods(item = \"nail\"; quantity = 1);"))
    ≡ Err (Wrong (codes "sale") 0 Unbound)
unfolding mark_text single_mark double_mark word_lexeme decimal_count number_lexeme closed_code
    quoted_lexeme mark_lexeme lexeme_of pieces_from tokens_of mark word name code_if quoted
    many list_on list_reader lone_field equality_of field owner field_code code field_part
    part term joint next_term sum bind_to bind next_bind binds target amount next_amount
    amounts make write_off require control next_code extra_codes account_side side sides entry
    opening_of act_of verb act test_of comparison equality text_cond sums_cond field_cond sum_cond
    cond when scope statement next_statement statements statements_of why_number both beside
    each_or_least place_of resolved_field resolved_number_field resolved_code_field units_at
    literal_at line_part cost_part resolved_part resolved_term resolved_sum line_code
    resolved_code scale_of_field scale_of_part first_scale asked_scale resolved_sums
    resolved_codes lone_code resolved_cond resolved_bind_to resolved_bind resolved_amount
    none_twice make_fits make_act resolved_record resolved_make write_off_fits write_off_act
    resolved_write_off_from resolved_write_off require_fits require_act resolved_requirement
    resolved_require resolved_control resolved_account resolved_side entry_act resolved_entry
    resolved_act sequence_fits sequences_fit keeps_sequences round_of scope_fits resolved_when
    last_fits statement_if_fit resolved_statement_in resolved_statement scale_at costs_after
    statements_from kind_rules each_kind rules_of is_name is_code
no_batch = refl

-- a dimension with two values
two_items : rules_of (shop [] (codes "turn sales(item = \"a\", item = \"b\"; amount = 1);"))
    ≡ Err (Wrong (codes "sale") 0 TwiceBound)
unfolding mark_text single_mark double_mark word_lexeme decimal_count number_lexeme closed_code
    quoted_lexeme mark_lexeme lexeme_of pieces_from tokens_of mark word name code_if quoted
    many list_on list_reader lone_field equality_of field owner field_code code field_part
    part term joint next_term sum bind_to bind next_bind binds target amount next_amount
    amounts make write_off require control next_code extra_codes account_side side sides entry
    opening_of act_of verb act test_of comparison equality text_cond sums_cond field_cond sum_cond
    cond when scope statement next_statement statements statements_of why_number both beside
    each_or_least place_of resolved_field resolved_number_field resolved_code_field units_at
    literal_at line_part cost_part resolved_part resolved_term resolved_sum line_code
    resolved_code scale_of_field scale_of_part first_scale asked_scale resolved_sums
    resolved_codes lone_code resolved_cond resolved_bind_to resolved_bind resolved_amount
    none_twice make_fits make_act resolved_record resolved_make write_off_fits write_off_act
    resolved_write_off_from resolved_write_off require_fits require_act resolved_requirement
    resolved_require resolved_control resolved_account resolved_side entry_act resolved_entry
    resolved_act sequence_fits sequences_fit keeps_sequences round_of scope_fits resolved_when
    last_fits statement_if_fit resolved_statement_in resolved_statement scale_at costs_after
    statements_from kind_rules each_kind rules_of is_name is_code
two_items = refl

-- more decimals than the resource has
four_decimals : rules_of
    (shop [] (codes "receipt goods(item = \"a\", batch = point; quantity = 1.2345);"))
    ≡ Err (Wrong (codes "sale") 0 WrongType)
unfolding mark_text single_mark double_mark word_lexeme decimal_count number_lexeme closed_code
    quoted_lexeme mark_lexeme lexeme_of pieces_from tokens_of mark word name code_if quoted
    many list_on list_reader lone_field equality_of field owner field_code code field_part
    part term joint next_term sum bind_to bind next_bind binds target amount next_amount
    amounts make write_off require control next_code extra_codes account_side side sides entry
    opening_of act_of verb act test_of comparison equality text_cond sums_cond field_cond sum_cond
    cond when scope statement next_statement statements statements_of why_number both beside
    each_or_least place_of resolved_field resolved_number_field resolved_code_field units_at
    literal_at line_part cost_part resolved_part resolved_term resolved_sum line_code
    resolved_code scale_of_field scale_of_part first_scale asked_scale resolved_sums
    resolved_codes lone_code resolved_cond resolved_bind_to resolved_bind resolved_amount
    none_twice make_fits make_act resolved_record resolved_make write_off_fits write_off_act
    resolved_write_off_from resolved_write_off require_fits require_act resolved_requirement
    resolved_require resolved_control resolved_account resolved_side entry_act resolved_entry
    resolved_act sequence_fits sequences_fit keeps_sequences round_of scope_fits resolved_when
    last_fits statement_if_fit resolved_statement_in resolved_statement scale_at costs_after
    statements_from kind_rules each_kind rules_of is_name is_code
four_decimals = refl

-- a field of a line in a statement that runs once
line_once : rules_of (shop [] (codes "turn sales(item = line.item; amount = 1);"))
    ≡ Err (Wrong (codes "sale") 0 WrongScope)
unfolding mark_text single_mark double_mark word_lexeme decimal_count number_lexeme closed_code
    quoted_lexeme mark_lexeme lexeme_of pieces_from tokens_of mark word name code_if quoted
    many list_on list_reader lone_field equality_of field owner field_code code field_part
    part term joint next_term sum bind_to bind next_bind binds target amount next_amount
    amounts make write_off require control next_code extra_codes account_side side sides entry
    opening_of act_of verb act test_of comparison equality text_cond sums_cond field_cond sum_cond
    cond when scope statement next_statement statements statements_of why_number both beside
    each_or_least place_of resolved_field resolved_number_field resolved_code_field units_at
    literal_at line_part cost_part resolved_part resolved_term resolved_sum line_code
    resolved_code scale_of_field scale_of_part first_scale asked_scale resolved_sums
    resolved_codes lone_code resolved_cond resolved_bind_to resolved_bind resolved_amount
    none_twice make_fits make_act resolved_record resolved_make write_off_fits write_off_act
    resolved_write_off_from resolved_write_off require_fits require_act resolved_requirement
    resolved_require resolved_control resolved_account resolved_side entry_act resolved_entry
    resolved_act sequence_fits sequences_fit keeps_sequences round_of scope_fits resolved_when
    last_fits statement_if_fit resolved_statement_in resolved_statement scale_at costs_after
    statements_from kind_rules each_kind rules_of is_name is_code
line_once = refl

-- `cost` of each line behind a write-off that runs once
no_write_off : rules_of
    (shop [] (codes "average goods(item=\"a\",batch=point;quantity=1,amount);"
    ++ codes "each line turn sales(item=\"a\";amount=cost);"))
    ≡ Err (Wrong (codes "sale") 54 WrongScope)
unfolding mark_text single_mark double_mark word_lexeme decimal_count number_lexeme closed_code
    quoted_lexeme mark_lexeme lexeme_of pieces_from tokens_of mark word name code_if quoted
    many list_on list_reader lone_field equality_of field owner field_code code field_part
    part term joint next_term sum bind_to bind next_bind binds target amount next_amount
    amounts make write_off require control next_code extra_codes account_side side sides entry
    opening_of act_of verb act test_of comparison equality text_cond sums_cond field_cond sum_cond
    cond when scope statement next_statement statements statements_of why_number both beside
    each_or_least place_of resolved_field resolved_number_field resolved_code_field units_at
    literal_at line_part cost_part resolved_part resolved_term resolved_sum line_code
    resolved_code scale_of_field scale_of_part first_scale asked_scale resolved_sums
    resolved_codes lone_code resolved_cond resolved_bind_to resolved_bind resolved_amount
    none_twice make_fits make_act resolved_record resolved_make write_off_fits write_off_act
    resolved_write_off_from resolved_write_off require_fits require_act resolved_requirement
    resolved_require resolved_control resolved_account resolved_side entry_act resolved_entry
    resolved_act sequence_fits sequences_fit keeps_sequences round_of scope_fits resolved_when
    last_fits statement_if_fit resolved_statement_in resolved_statement scale_at costs_after
    statements_from kind_rules each_kind rules_of is_name is_code
no_write_off = refl

-- a turn of a register that keeps balances
turn_of_goods : rules_of (shop [] (codes "turn goods(item = \"a\", batch = point; quantity = 1);"))
    ≡ Err (Wrong (codes "sale") 0 WrongRegister)
unfolding mark_text single_mark double_mark word_lexeme decimal_count number_lexeme closed_code
    quoted_lexeme mark_lexeme lexeme_of pieces_from tokens_of mark word name code_if quoted
    many list_on list_reader lone_field equality_of field owner field_code code field_part
    part term joint next_term sum bind_to bind next_bind binds target amount next_amount
    amounts make write_off require control next_code extra_codes account_side side sides entry
    opening_of act_of verb act test_of comparison equality text_cond sums_cond field_cond sum_cond
    cond when scope statement next_statement statements statements_of why_number both beside
    each_or_least place_of resolved_field resolved_number_field resolved_code_field units_at
    literal_at line_part cost_part resolved_part resolved_term resolved_sum line_code
    resolved_code scale_of_field scale_of_part first_scale asked_scale resolved_sums
    resolved_codes lone_code resolved_cond resolved_bind_to resolved_bind resolved_amount
    none_twice make_fits make_act resolved_record resolved_make write_off_fits write_off_act
    resolved_write_off_from resolved_write_off require_fits require_act resolved_requirement
    resolved_require resolved_control resolved_account resolved_side entry_act resolved_entry
    resolved_act sequence_fits sequences_fit keeps_sequences round_of scope_fits resolved_when
    last_fits statement_if_fit resolved_statement_in resolved_statement scale_at costs_after
    statements_from kind_rules each_kind rules_of is_name is_code
turn_of_goods = refl

-- by the order of lots the lot has no value
bound_lot : rules_of
    (shop [] (codes "fifo goods(item = \"a\", batch = point; quantity = 1, amount);"))
    ≡ Err (Wrong (codes "sale") 0 WrongRegister)
unfolding mark_text single_mark double_mark word_lexeme decimal_count number_lexeme closed_code
    quoted_lexeme mark_lexeme lexeme_of pieces_from tokens_of mark word name code_if quoted
    many list_on list_reader lone_field equality_of field owner field_code code field_part
    part term joint next_term sum bind_to bind next_bind binds target amount next_amount
    amounts make write_off require control next_code extra_codes account_side side sides entry
    opening_of act_of verb act test_of comparison equality text_cond sums_cond field_cond sum_cond
    cond when scope statement next_statement statements statements_of why_number both beside
    each_or_least place_of resolved_field resolved_number_field resolved_code_field units_at
    literal_at line_part cost_part resolved_part resolved_term resolved_sum line_code
    resolved_code scale_of_field scale_of_part first_scale asked_scale resolved_sums
    resolved_codes lone_code resolved_cond resolved_bind_to resolved_bind resolved_amount
    none_twice make_fits make_act resolved_record resolved_make write_off_fits write_off_act
    resolved_write_off_from resolved_write_off require_fits require_act resolved_requirement
    resolved_require resolved_control resolved_account resolved_side entry_act resolved_entry
    resolved_act sequence_fits sequences_fit keeps_sequences round_of scope_fits resolved_when
    last_fits statement_if_fit resolved_statement_in resolved_statement scale_at costs_after
    statements_from kind_rules each_kind rules_of is_name is_code
bound_lot = refl

-- a control behind sixty-four statements
sixty_fifth : resolved_statement (shop [] []) (sale []) (record { once = None; each = None }) 64
    (record {
      place = 0;
      scope = None;
      act = PlainControl (Named (codes "goods")) (Named (codes "quantity"));
      when = None;
    })
    ≡ Err TooMany
unfolding mark_text single_mark double_mark word_lexeme decimal_count number_lexeme closed_code
    quoted_lexeme mark_lexeme lexeme_of pieces_from tokens_of mark word name code_if quoted
    many list_on list_reader lone_field equality_of field owner field_code code field_part
    part term joint next_term sum bind_to bind next_bind binds target amount next_amount
    amounts make write_off require control next_code extra_codes account_side side sides entry
    opening_of act_of verb act test_of comparison equality text_cond sums_cond field_cond sum_cond
    cond when scope statement next_statement statements statements_of why_number both beside
    each_or_least place_of resolved_field resolved_number_field resolved_code_field units_at
    literal_at line_part cost_part resolved_part resolved_term resolved_sum line_code
    resolved_code scale_of_field scale_of_part first_scale asked_scale resolved_sums
    resolved_codes lone_code resolved_cond resolved_bind_to resolved_bind resolved_amount
    none_twice make_fits make_act resolved_record resolved_make write_off_fits write_off_act
    resolved_write_off_from resolved_write_off require_fits require_act resolved_requirement
    resolved_require resolved_control resolved_account resolved_side entry_act resolved_entry
    resolved_act sequence_fits sequences_fit keeps_sequences round_of scope_fits resolved_when
    last_fits statement_if_fit resolved_statement_in resolved_statement scale_at costs_after
    statements_from kind_rules each_kind rules_of is_name is_code
sixty_fifth = refl

-- the order of batches goes over goods by item
abbrev batches : List ℕ → List (List ℕ) → List Sequence
batches register dimensions = record {
  name = codes "batches";
  kinds = codes "sale" ∷ [];
  registers = register ∷ [];
  dimensions = dimensions;
} ∷ []

-- a type of a sequence reads a register that does not affect it
reads_elsewhere : rules_of (shop (batches (codes "stock") [])
    (codes "require goods(; quantity) >= 1 code \"low\";"))
    ≡ Err (Wrong (codes "sale") 0 SequenceUnbound)
unfolding mark_text single_mark double_mark word_lexeme decimal_count number_lexeme closed_code
    quoted_lexeme mark_lexeme lexeme_of pieces_from tokens_of mark word name code_if quoted
    many list_on list_reader lone_field equality_of field owner field_code code field_part
    part term joint next_term sum bind_to bind next_bind binds target amount next_amount
    amounts make write_off require control next_code extra_codes account_side side sides entry
    opening_of act_of verb act test_of comparison equality text_cond sums_cond field_cond sum_cond
    cond when scope statement next_statement statements statements_of why_number both beside
    each_or_least place_of resolved_field resolved_number_field resolved_code_field units_at
    literal_at line_part cost_part resolved_part resolved_term resolved_sum line_code
    resolved_code scale_of_field scale_of_part first_scale asked_scale resolved_sums
    resolved_codes lone_code resolved_cond resolved_bind_to resolved_bind resolved_amount
    none_twice make_fits make_act resolved_record resolved_make write_off_fits write_off_act
    resolved_write_off_from resolved_write_off require_fits require_act resolved_requirement
    resolved_require resolved_control resolved_account resolved_side entry_act resolved_entry
    resolved_act sequence_fits sequences_fit keeps_sequences round_of scope_fits resolved_when
    last_fits statement_if_fit resolved_statement_in resolved_statement scale_at costs_after
    statements_from kind_rules each_kind rules_of is_name is_code
reads_elsewhere = refl

-- a dimension of a sequence is not bound to the head
item_of_text : rules_of (shop (batches (codes "goods") (codes "item" ∷ []))
    (codes "receipt goods(item = \"a\", batch = point; quantity = 1);"))
    ≡ Err (Wrong (codes "sale") 0 SequenceUnbound)
unfolding mark_text single_mark double_mark word_lexeme decimal_count number_lexeme closed_code
    quoted_lexeme mark_lexeme lexeme_of pieces_from tokens_of mark word name code_if quoted
    many list_on list_reader lone_field equality_of field owner field_code code field_part
    part term joint next_term sum bind_to bind next_bind binds target amount next_amount
    amounts make write_off require control next_code extra_codes account_side side sides entry
    opening_of act_of verb act test_of comparison equality text_cond sums_cond field_cond sum_cond
    cond when scope statement next_statement statements statements_of why_number both beside
    each_or_least place_of resolved_field resolved_number_field resolved_code_field units_at
    literal_at line_part cost_part resolved_part resolved_term resolved_sum line_code
    resolved_code scale_of_field scale_of_part first_scale asked_scale resolved_sums
    resolved_codes lone_code resolved_cond resolved_bind_to resolved_bind resolved_amount
    none_twice make_fits make_act resolved_record resolved_make write_off_fits write_off_act
    resolved_write_off_from resolved_write_off require_fits require_act resolved_requirement
    resolved_require resolved_control resolved_account resolved_side entry_act resolved_entry
    resolved_act sequence_fits sequences_fit keeps_sequences round_of scope_fits resolved_when
    last_fits statement_if_fit resolved_statement_in resolved_statement scale_at costs_after
    statements_from kind_rules each_kind rules_of is_name is_code
item_of_text = refl

-- a fault is the type, the place and the number of the reason
syntax_text : rule_fault_text (Wrong (codes "fill") 35 Syntax) ≡ codes "fill 35 1"
unfolding rule_fault_text why_number number_text
syntax_text = refl

unbound_text : rule_fault_text (Wrong (codes "sale") 0 SequenceUnbound) ≡ codes "sale 0 9"
unfolding rule_fault_text why_number number_text
unbound_text = refl

long_text : rule_fault_text (Wrong (codes "sale") 1_048_575 TooMany) ≡ codes "sale 1048575 8"
unfolding rule_fault_text why_number number_text
long_text = refl

memory_text : rule_fault_text Memory ≡ codes "memory"
unfolding rule_fault_text
memory_text = refl
