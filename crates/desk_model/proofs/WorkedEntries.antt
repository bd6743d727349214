-- Worked rows of records and entries that are given by hand, and of documents that are shown.
use Rattle.std.proofs.Common.{◌≡◌, ℕ, true, Some, None, List, [], ◌∷◌, refl, codes, map}
use Rattle.std.proofs.Common.{length, unwrap_or, slice_get}
use Rattle.reg_base.specs.declared.fault.EntryFault.TheVariants.{UnknownAccount, ExtraCount, Sides}
use Rattle.reg_base.specs.declared.fault.PostFault.TheVariants.{Entry}
use Rattle.reg_base.specs.declared.records.DocState.TheVariants.{Posted, Written}
use Rattle.reg_base.specs.declared.records.Mark.TheVariants.{Receipt, Expense, Turn}
use Rattle.reg_base.specs.Codes.{is_code}
use Rattle.reg_base.specs.Numbers.{parse_num, digits_from, decimals_from, last_digits_from}
use Rattle.reg_base.specs.Numbers.{units_of, sum_text, units_text, number_text}
use Rattle.reg_base.specs.Rights.{right_word}
use Rattle.cfg_model.specs.Entries.{entry_check}
use Rattle.cfg_model.specs.Places.{account_at}
use Rattle.desk_words.specs.declared.request.RecordText.{RecordText}
use Rattle.desk_words.specs.declared.request.Request.{Request}
use Rattle.desk_words.specs.declared.reply.Reply.TheVariants.{Done, Refused}
use Rattle.desk_words.specs.declared.reply.Answer.TheVariants.{Shown}
use Rattle.desk_words.specs.declared.reply.Field.TheVariants.{Space, Values, Sums, Kind, Amount}
use Rattle.desk_words.specs.declared.reply.Refusal.TheVariants.{UnknownDoc, Rule}
use Rattle.desk_model.specs.State.{Desk}
use Rattle.desk_model.specs.Manuals.{space_of, given_set, given_sets, plan_manual}
use Rattle.desk_model.specs.GivenRecords.{record_in_register, given_record, entry_in_ledger}
use Rattle.desk_model.specs.GivenRecords.{given_entry}
use Rattle.desk_model.specs.RecordSets.{record_set}
use Rattle.desk_model.specs.Entries.{entry_at}
use Rattle.desk_model.specs.Fields.{cells_of}
use Rattle.desk_model.specs.Writes.{kind_of_request, content_of, plan_content, plan_write}
use Rattle.desk_model.specs.Limits.{limits_of}
use Rattle.desk_model.specs.Serial.{work_effect, plan_effect, change_effect}
use Rattle.desk_model.specs.Serial.{question_effect, question_answer, answer_to}
use Rattle.desk_model.specs.Serial.{effect_of}
use Rattle.desk_model.specs.Desk.{step}
use Rattle.desk_model.proofs.RowBooks.{empty, morning, tenth, of_register, of_ledger, side, set_of}
use Rattle.desk_model.proofs.RowBooks.{manual_at, manual, received, write_at, text_of, filled, show}
use Rattle.desk_model.proofs.RowBooks.{stands, bad_field, replies, after}

-- a document of one set of goods, of sales, of stock, or of the ledger
into : List ℕ → List RecordText → Request
into space records = manual 1 (set_of space records ∷ [])

-- the lines of the records in the first register, by document
map_lines : Desk → List (List ℕ)
map_lines desk = map (λ d. map (λ r. r.line) (unwrap_or (slice_get d.sets.registers 0) []))
    desk.serial.documents

-- the lines of the entries in the ledger, by document
entry_lines : Desk → List (List ℕ)
entry_lines desk = map (λ d. map (λ p. p.line) (unwrap_or (slice_get d.sets.ledgers 0) []))
    desk.serial.documents

-- ---- records of registers

-- a space that is not there is told before a record that is wrong, and one that stands twice after
spaces : replies empty
    (manual 1 (set_of (codes "goods") (of_register Turn [] [] ∷ [])
    ∷ set_of (codes "shelf") [] ∷ [])
    ∷ manual 1 (set_of (codes "goods") [] ∷ set_of (codes "main") [] ∷ set_of (codes "goods")
    (of_register Turn [] [] ∷ []) ∷ [])
    ∷ manual 1 (set_of (codes "main") [] ∷ set_of (codes "goods") [] ∷ set_of (codes "main") []
    ∷ [])
    ∷ manual 1 (set_of (codes "goods") [] ∷ set_of (codes "main") [] ∷ []) ∷ [])
    ≡ bad_field Space ∷ bad_field Values ∷ bad_field Space ∷ stands true 1 Posted ∷ []
unfolding step effect_of change_effect plan_effect work_effect limits_of right_word
    plan_manual given_sets given_set space_of given_record record_in_register record_set is_code
    parse_num digits_from decimals_from last_digits_from units_of
    given_entry entry_in_ledger entry_at entry_check account_at
spaces = refl

-- of a record its values are told first, then its sums, then its mark
wrong_records : replies empty
    (into (codes "goods") (of_register Turn (codes "a b" ∷ []) (codes "x" ∷ []) ∷ [])
    ∷ into (codes "goods") (of_register Turn (codes "nail" ∷ [])
    (codes "1.0001" ∷ codes "0" ∷ []) ∷ [])
    ∷ into (codes "goods") (of_register Turn (codes "nail" ∷ []) (codes "1" ∷ codes "0" ∷ []) ∷ [])
    ∷ into (codes "sales") (of_register Receipt (codes "nail" ∷ [])
    (codes "1" ∷ codes "0" ∷ []) ∷ [])
    ∷ into (codes "goods") (of_ledger None None (codes "1") ∷ [])
    ∷ into (codes "sales") (of_register Turn (codes "nail" ∷ [])
    (codes "1" ∷ codes "0" ∷ []) ∷ []) ∷ [])
    ≡ bad_field Values ∷ bad_field Sums ∷ bad_field Kind ∷ bad_field Kind ∷ bad_field Values
    ∷ stands true 1 Posted ∷ []
unfolding step effect_of change_effect plan_effect work_effect limits_of right_word into
    plan_manual given_sets given_set space_of given_record record_in_register record_set is_code
    parse_num digits_from decimals_from last_digits_from units_of
wrong_records = refl

-- a record of zeros is not made, and takes no line
zeros_are_not_made : map_lines (after empty (into (codes "goods")
    (of_register Receipt (codes "nail" ∷ []) (codes "0" ∷ codes "0.00" ∷ [])
    ∷ of_register Expense (codes "bolt" ∷ []) (codes "-1" ∷ codes "0" ∷ []) ∷ []) ∷ []))
    ≡ (1 ∷ []) ∷ []
unfolding step effect_of change_effect plan_effect work_effect limits_of right_word into map_lines
    plan_manual given_sets given_set space_of given_record record_in_register record_set is_code
    parse_num digits_from decimals_from last_digits_from units_of
zeros_are_not_made = refl

-- a document has a list for each register and each ledger
lists_are_there : map (λ d. length d.sets.registers ∷ length d.sets.ledgers ∷ [])
    (after empty (manual 1 [] ∷ [])).serial.documents ≡ (3 ∷ 1 ∷ []) ∷ []
unfolding step effect_of change_effect plan_effect work_effect limits_of right_word
    plan_manual given_sets given_set space_of given_record record_in_register record_set is_code
    parse_num digits_from decimals_from last_digits_from units_of
lists_are_there = refl

-- ---- entries of ledgers

-- an entry of 100.00, and one without an amount on an account that is not there
bought : RecordText
bought = of_ledger (side (codes "10") (codes "nail" ∷ [])) (side (codes "60") []) (codes "100.00")

nothing : RecordText
nothing = of_ledger (side (codes "77") []) None (codes "0.00")

-- an entry is in the form of its ledger, with an amount at its scale
wrong_forms : replies empty
    (into (codes "main") (of_register Receipt (codes "nail" ∷ []) (codes "1" ∷ codes "1" ∷ []) ∷ [])
    ∷ into (codes "main") (of_ledger None None (codes "1.005") ∷ []) ∷ [])
    ≡ bad_field Values ∷ bad_field Amount ∷ []
unfolding step effect_of change_effect plan_effect work_effect limits_of right_word into
    plan_manual given_sets given_set space_of given_record record_in_register record_set is_code
    parse_num digits_from decimals_from last_digits_from units_of
    given_entry entry_in_ledger entry_at entry_check account_at
wrong_forms = refl

-- what the chart refuses is told with the line that the entry would get; an entry without an amount
-- is not made, is asked of no chart and takes no line
refused_entries : replies empty
    (into (codes "main") (bought ∷ of_ledger (side (codes "10") []) (side (codes "60") [])
    (codes "1") ∷ [])
    ∷ into (codes "main") (nothing ∷ of_ledger (side (codes "77") []) (side (codes "60") [])
    (codes "1") ∷ [])
    ∷ into (codes "main") (of_ledger (side (codes "90") []) None (codes "1") ∷ [])
    ∷ into (codes "main") (nothing ∷ bought ∷ nothing ∷ bought ∷ []) ∷ [])
    ≡ Refused (Rule (Entry 0 2 ExtraCount) None) ∷ Refused (Rule (Entry 0 1 UnknownAccount) None)
    ∷ Refused (Rule (Entry 0 1 Sides) None) ∷ stands true 1 Posted ∷ []
unfolding step effect_of change_effect plan_effect work_effect limits_of right_word into bought
    nothing
    plan_manual given_sets given_set space_of given_record record_in_register record_set is_code
    parse_num digits_from decimals_from last_digits_from units_of
    given_entry entry_in_ledger entry_at entry_check account_at
refused_entries = refl

entries_have_lines : entry_lines (after empty
    (into (codes "main") (nothing ∷ bought ∷ nothing ∷ bought ∷ []) ∷ [])) ≡ (1 ∷ 2 ∷ []) ∷ []
unfolding step effect_of change_effect plan_effect work_effect limits_of right_word into bought
    nothing
    entry_lines
    plan_manual given_sets given_set space_of given_record record_in_register record_set is_code
    parse_num digits_from decimals_from last_digits_from units_of
    given_entry entry_in_ledger entry_at entry_check account_at
entries_have_lines = refl

-- ---- documents that are shown

-- a document given by hand with records of goods and of the ledger, in whatever order they were
-- given
shown_by_hand : replies (after empty
    (manual_at 1 None (Some (codes "k")) morning
    (set_of (codes "main") (bought ∷ [])
    ∷ set_of (codes "sales") []
    ∷ received (codes "nail") (codes "10") (codes "-0.5") ∷ []) ∷ []))
    (show 1 ∷ show 2 ∷ [])
    ≡ Done (Shown (record {
      active = true;
      comment = [];
      date = morning;
      doc = 1;
      head = [];
      key = Some (codes "k");
      kind = None;
      lines = [];
      sets = received (codes "nail") (codes "10.000") (codes "-0.50")
          ∷ set_of (codes "main") (bought ∷ []) ∷ [];
      state = Posted;
    })) ∷ Refused UnknownDoc ∷ []
unfolding step effect_of change_effect plan_effect work_effect limits_of right_word bought
    plan_manual given_sets given_set space_of given_record record_in_register record_set is_code
    parse_num digits_from decimals_from last_digits_from units_of
    given_entry entry_in_ledger entry_at entry_check account_at
    sum_text units_text number_text question_effect question_answer answer_to
shown_by_hand = refl

-- a document of a type has its fields by name, with all decimals, and a written one no records
shown_of_type : replies (after empty
    (write_at 1 None None (codes "receipt") tenth (text_of (codes "warehouse") (codes "main") ∷ [])
    (filled (codes "2.5") (codes "nail") (codes "1") ∷ []) ∷ []))
    (show 1 ∷ [])
    ≡ Done (Shown (record {
      active = true;
      comment = [];
      date = tenth;
      doc = 1;
      head = text_of (codes "warehouse") (codes "main") ∷ [];
      key = None;
      kind = Some (codes "receipt");
      lines = (text_of (codes "item") (codes "nail") ∷ text_of (codes "quantity") (codes "1.000")
          ∷ text_of (codes "amount") (codes "2.50") ∷ []) ∷ [];
      sets = [];
      state = Written;
    })) ∷ []
unfolding step effect_of change_effect plan_effect work_effect limits_of right_word
    plan_write plan_content kind_of_request content_of cells_of is_code parse_num digits_from
    decimals_from last_digits_from units_of sum_text units_text number_text question_effect
    question_answer answer_to
shown_of_type = refl
