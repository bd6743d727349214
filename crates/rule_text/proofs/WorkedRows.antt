-- The definitions computed on short texts.
use Rattle.std.proofs.Common.{◌≡◌, [], ◌∷◌, codes, None, Ok, Err, refl}
use Rattle.reg_base.specs.Codes.{is_name, is_code}
use Rattle.rule_text.specs.Marks.{mark_text, single_mark, double_mark}
use Rattle.rule_text.specs.Tokens.{word_lexeme, decimal_count, number_lexeme, closed_code}
use Rattle.rule_text.specs.Tokens.{quoted_lexeme, mark_lexeme, lexeme_of, pieces_from, tokens_of}
use Rattle.rule_text.specs.Readers.{mark, word, name, code_if, quoted, many, list_on, list_reader}
use Rattle.rule_text.specs.Plain.{lone_field, equality_of}
use Rattle.rule_text.specs.Sums.{field, owner, field_code, code, field_part, part, term, joint}
use Rattle.rule_text.specs.Sums.{next_term, sum}
use Rattle.rule_text.specs.Binds.{bind_to, bind, next_bind, binds, target, amount, next_amount}
use Rattle.rule_text.specs.Binds.{amounts}
use Rattle.rule_text.specs.Acts.{make, write_off, require, control, next_code, extra_codes}
use Rattle.rule_text.specs.Acts.{account_side, side, sides, entry, opening_of, act_of, verb, act}
use Rattle.rule_text.specs.Conditions.{test_of, comparison, equality, text_cond, sums_cond}
use Rattle.rule_text.specs.Conditions.{field_cond, sum_cond, cond, when}
use Rattle.rule_text.specs.Sentences.{scope, statement, next_statement, statements, statements_of}
use Rattle.rule_text.specs.declared.fault.TextFault.TheVariants.{Syntax}
use Rattle.rule_text.specs.declared.token.Spelling.TheVariants.{Named}
use Rattle.rule_text.specs.declared.plain.PlainAct.TheVariants.{Control}

-- nothing is said
nothing : statements_of (codes "") ≡ Ok []
unfolding mark_text single_mark double_mark word_lexeme decimal_count number_lexeme closed_code
    quoted_lexeme mark_lexeme lexeme_of pieces_from tokens_of mark word name code_if quoted
    many list_on list_reader lone_field equality_of field owner field_code code field_part
    part term joint next_term sum bind_to bind next_bind binds target amount next_amount
    amounts make write_off require control next_code extra_codes account_side side sides entry
    opening_of act_of verb act test_of comparison equality text_cond sums_cond field_cond sum_cond
    cond when scope statement next_statement statements statements_of is_name is_code
nothing = refl

-- a statement without a scope
control_said : statements_of (codes " control goods quantity;") ≡ Ok (record {
  place = 1;
  scope = None;
  act = Control (Named (codes "goods")) (Named (codes "quantity"));
  when = None;
} ∷ [])
unfolding mark_text single_mark double_mark word_lexeme decimal_count number_lexeme closed_code
    quoted_lexeme mark_lexeme lexeme_of pieces_from tokens_of mark word name code_if quoted
    many list_on list_reader lone_field equality_of field owner field_code code field_part
    part term joint next_term sum bind_to bind next_bind binds target amount next_amount
    amounts make write_off require control next_code extra_codes account_side side sides entry
    opening_of act_of verb act test_of comparison equality text_cond sums_cond field_cond sum_cond
    cond when scope statement next_statement statements statements_of is_name is_code
control_said = refl

-- a number stands where a semicolon or a code has to
number_for_code : statements_of (codes "each line receipt goods(quantity = 1);") ≡ Err (Syntax 35)
unfolding mark_text single_mark double_mark word_lexeme decimal_count number_lexeme closed_code
    quoted_lexeme mark_lexeme lexeme_of pieces_from tokens_of mark word name code_if quoted
    many list_on list_reader lone_field equality_of field owner field_code code field_part
    part term joint next_term sum bind_to bind next_bind binds target amount next_amount
    amounts make write_off require control next_code extra_codes account_side side sides entry
    opening_of act_of verb act test_of comparison equality text_cond sums_cond field_cond sum_cond
    cond when scope statement next_statement statements statements_of is_name is_code
number_for_code = refl

-- the text ends where a semicolon has to stand
ends_early : statements_of (codes "control goods quantity") ≡ Err (Syntax 22)
unfolding mark_text single_mark double_mark word_lexeme decimal_count number_lexeme closed_code
    quoted_lexeme mark_lexeme lexeme_of pieces_from tokens_of mark word name code_if quoted
    many list_on list_reader lone_field equality_of field owner field_code code field_part
    part term joint next_term sum bind_to bind next_bind binds target amount next_amount
    amounts make write_off require control next_code extra_codes account_side side sides entry
    opening_of act_of verb act test_of comparison equality text_cond sums_cond field_cond sum_cond
    cond when scope statement next_statement statements statements_of is_name is_code
ends_early = refl

-- a code breaks off at its blank, and a quote where no code can follow at itself
broken_code : statements_of (codes "receipt r(a = \"x y\";") ≡ Err (Syntax 16)
unfolding mark_text single_mark double_mark word_lexeme decimal_count number_lexeme closed_code
    quoted_lexeme mark_lexeme lexeme_of pieces_from tokens_of mark word name code_if quoted
    many list_on list_reader lone_field equality_of field owner field_code code field_part
    part term joint next_term sum bind_to bind next_bind binds target amount next_amount
    amounts make write_off require control next_code extra_codes account_side side sides entry
    opening_of act_of verb act test_of comparison equality text_cond sums_cond field_cond sum_cond
    cond when scope statement next_statement statements statements_of is_name is_code
broken_code = refl

broken_name : statements_of (codes "receipt \"x y\"(") ≡ Err (Syntax 8)
unfolding mark_text single_mark double_mark word_lexeme decimal_count number_lexeme closed_code
    quoted_lexeme mark_lexeme lexeme_of pieces_from tokens_of mark word name code_if quoted
    many list_on list_reader lone_field equality_of field owner field_code code field_part
    part term joint next_term sum bind_to bind next_bind binds target amount next_amount
    amounts make write_off require control next_code extra_codes account_side side sides entry
    opening_of act_of verb act test_of comparison equality text_cond sums_cond field_cond sum_cond
    cond when scope statement next_statement statements statements_of is_name is_code
broken_name = refl
