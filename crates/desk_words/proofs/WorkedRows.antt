-- Worked rows of requests and replies, computed from the value that a line is read as.
use Rattle.std.proofs.Common.{◌≡◌, ℕ, List, [], ◌∷◌, None, Some, Ok, Err, pos, true, refl, codes}
use Rattle.std.proofs.Common.{lit<}
use Rattle.serde_json.specs.Data.{Data, null, boolean, string, number, unsigned, array, object}
use Rattle.serde_json.specs.Data.{item, no_items, member, no_members}
use Rattle.json.specs.Print.{escape_byte}
use Rattle.reg_base.specs.Codes.{is_name}
use Rattle.reg_base.specs.Cuts.{parse_cut, cut_by_word, cut_through, cut_before}
use Rattle.reg_base.specs.Dates.{parse_date, date_text, day_text, second_text, day_of}
use Rattle.reg_base.specs.Dates.{day_from_year, day_from_month}
use Rattle.reg_base.specs.Numbers.{sum_text, units_text, number_text}
use Rattle.reg_base.specs.declared.cut.Cut.TheVariants.{ThroughDate}
use Rattle.reg_base.specs.declared.records.Mark.TheVariants.{Receipt}
use Rattle.reg_base.specs.declared.records.DocState.TheVariants.{Posted}
use Rattle.reg_base.specs.declared.value.Value.TheVariants.{Code}
use Rattle.reg_base.proofs.ForAbove.{parse_date-text}
use Rattle.desk_words.specs.declared.fault.Member.TheVariants.{Op, Clerk, Sets, Cut as Cut_word}
use Rattle.desk_words.specs.declared.fault.WordFault.TheVariants.{UnknownOp, Missing, UnknownMember}
use Rattle.desk_words.specs.declared.fault.WordFault.TheVariants.{BadMember}
use Rattle.desk_words.specs.declared.request.Request.TheVariants.{Manual, Balance}
use Rattle.desk_words.specs.declared.request.RecordText.TheVariants.{Register, Ledger}
use Rattle.desk_words.specs.declared.reply.Reply.TheVariants.{Done}
use Rattle.desk_words.specs.declared.reply.Answer.TheVariants.{Acknowledged, Balance as Rows}
use Rattle.desk_words.specs.declared.reply.Acknowledgement.TheVariants.{Document}
use Rattle.desk_words.specs.declared.reply.Refusal.TheVariants.{BadLine, Limit as LimitPassed, Rule}
use Rattle.desk_words.specs.declared.reply.Limit.TheVariants.{Numbers}
use Rattle.reg_base.specs.declared.fault.PostFault.TheVariants.{Broken, Shortage, Overflow, Entry}
use Rattle.reg_base.specs.declared.fault.PostFault.TheVariants.{TooManyRecords, Negative}
use Rattle.reg_base.specs.declared.fault.EntryFault.TheVariants.{ExtraCount}
use Rattle.desk_words.specs.Shapes.{value_at, json_object, json_items, json_text, json_name}
use Rattle.desk_words.specs.Shapes.{json_date, json_cut, json_number, json_texts}
use Rattle.desk_words.specs.Sets.{json_mark, register_record, json_record, json_records, json_set}
use Rattle.desk_words.specs.Sets.{json_sets}
use Rattle.desk_words.specs.ReadRequests.{heading_of}
use Rattle.desk_words.specs.ReadRequests.{key_beside, manual_request}
use Rattle.desk_words.specs.ReadTables.{asked_register, balance_request}
use Rattle.desk_words.specs.Reading.{operation_of, check_present, check_known, members_of}
use Rattle.desk_words.specs.Reading.{request_in}
use Rattle.desk_words.specs.RequestTexts.{register_data, ledger_data, set_data, sets_data}
use Rattle.desk_words.specs.RequestTexts.{manual_frame, manual_members, request_data, request_text}
use Rattle.desk_words.specs.TableTexts.{put_register, balance_members}
use Rattle.desk_words.specs.JsonValues.{texts_data}
use Rattle.desk_words.specs.RowTexts.{row_data}
use Rattle.desk_words.specs.ReplyTexts.{document_data, answer_data}
use Rattle.desk_words.specs.ReplyTexts.{reply_data, reply_text}
use Rattle.desk_words.specs.RefusalTexts.{word_fault_members, post_fault_members, refusal_detail}
use Rattle.desk_words.specs.RefusalTexts.{refusal_data}

abbrev receipt_of_nails : Data
receipt_of_nails =
    object (member (codes "kind") (string (codes "receipt"))
    (member (codes "sums") (array
    (item (string (codes "10.000")) (item (string (codes "50.00")) no_items)))
    (member (codes "values") (array (item (string (codes "nail")) no_items)) no_members)))

abbrev sets_of_nails : Data
sets_of_nails =
    array (item (object (member (codes "records") (array (item receipt_of_nails no_items))
    (member (codes "space") (string (codes "goods")) no_members))) no_items)

-- the date of both rows
abbrev pub morning : List ℕ
morning = codes "2024-01-10T09:00:00"

pub morning_text : date_text 758_192_400 ≡ morning
unfolding date_text day_text second_text day_of day_from_year day_from_month
morning_text = refl

pub morning_date : parse_date morning ≡ Ok 758_192_400
morning_date = rw morning_text at (parse_date-text 758_192_400 (lit< tt))

a_manual_document :
    request_in (member (codes "clerk") (string (codes "anna"))
    (member (codes "date") (string morning)
    (member (codes "no") (number (unsigned 1))
    (member (codes "op") (string (codes "manual"))
    (member (codes "sets") sets_of_nails no_members)))))
    ≡ Ok (Manual (record {
      clerk = codes "anna";
      no = 1;
      doc = None;
      key = None;
      date = 758_192_400;
      sets = (record {
        space = codes "goods";
        records = Register (record {
          mark = Receipt;
          sums = codes "10.000" ∷ codes "50.00" ∷ [];
          values = codes "nail" ∷ [];
        }) ∷ [];
      }) ∷ [];
      comment = None;
      tx = None;
    }))
unfolding request_in operation_of check_present check_known members_of manual_request heading_of
    key_beside value_at json_object json_items json_text json_name json_date json_number json_texts
    json_mark register_record json_record json_records json_set json_sets is_name
a_manual_document = rw morning_date

a_balance :
    request_in (member (codes "clerk") (string (codes "anna"))
    (member (codes "cut") (string (codes "through 2024-01-10T09:00:00"))
    (member (codes "op") (string (codes "balance"))
    (member (codes "register") (string (codes "goods")) no_members))))
    ≡ Ok (Balance (record {
      clerk = codes "anna";
      register = record { name = codes "goods"; filter = None; group = None };
      cut = Some (ThroughDate 758_192_400);
      tx = None;
    }))
unfolding request_in operation_of check_present check_known members_of balance_request
    asked_register value_at json_text json_name json_cut is_name parse_cut cut_by_word cut_through
    cut_before
a_balance = rw morning_date

no_operation : request_in (member (codes "clerk") (string (codes "anna")) no_members)
    ≡ Err (Missing Op)
unfolding request_in operation_of
no_operation = refl

a_number_for_an_operation : request_in (member (codes "op") (number (unsigned 7)) no_members)
    ≡ Err UnknownOp
unfolding request_in operation_of
a_number_for_an_operation = refl

no_sets :
    request_in (member (codes "clerk") (number (unsigned 7))
    (member (codes "date") null
    (member (codes "no") null
    (member (codes "op") (string (codes "manual"))
    (member (codes "tx") null no_members)))))
    ≡ Err (Missing Sets)
unfolding request_in operation_of check_present
no_sets = refl

two_unknown_members :
    request_in (member (codes "a") null
    (member (codes "b") null
    (member (codes "clerk") null
    (member (codes "op") (string (codes "balance"))
    (member (codes "register") null no_members)))))
    ≡ Err (UnknownMember (codes "a"))
unfolding request_in operation_of check_present check_known
two_unknown_members = refl

two_wrong_members :
    request_in (member (codes "clerk") (string (codes "Anna"))
    (member (codes "cut") null
    (member (codes "op") (string (codes "balance"))
    (member (codes "register") (string (codes "goods")) no_members))))
    ≡ Err (BadMember Clerk)
unfolding request_in operation_of check_present check_known members_of balance_request value_at
    asked_register json_text json_name is_name
two_wrong_members = refl

null_for_a_cut :
    request_in (member (codes "clerk") (string (codes "anna"))
    (member (codes "cut") null
    (member (codes "op") (string (codes "balance"))
    (member (codes "register") (string (codes "goods")) no_members))))
    ≡ Err (BadMember Cut_word)
unfolding request_in operation_of check_present check_known members_of balance_request
    asked_register value_at json_text json_name json_cut is_name
null_for_a_cut = refl

rows_of_nails :
    reply_text
    (Done (Rows ((record { group = Code (codes "nail") ∷ []; sums = pos 10000 ∷ pos 5000 ∷ [] })
    ∷ []) (3 ∷ 2 ∷ [])))
    ≡ codes "{\"ok\":{\"rows\":[{\"group\":[\"nail\"],\"sums\":[\"10.000\",\"50.00\"]}]}}"
unfolding reply_text reply_data answer_data row_data texts_data sum_text units_text number_text
    escape_byte
rows_of_nails = refl

a_posted_document :
    reply_data (Done (Acknowledged (Document true 1 Posted)))
    ≡ object (member (codes "ok") (object (member (codes "active") (boolean true)
    (member (codes "doc") (number (unsigned 1))
    (member (codes "state") (string (codes "posted")) no_members)))) no_members)
unfolding reply_data answer_data document_data
a_posted_document = refl

a_missing_member :
    refusal_data (BadLine (Missing Op))
    ≡ object (member (codes "code") (number (unsigned 1))
    (member (codes "kind") (number (unsigned 5))
    (member (codes "member") (string (codes "op"))
    (member (codes "name") (string (codes "BadLine")) no_members))))
unfolding refusal_data refusal_detail word_fault_members
a_missing_member = refl

numbers_used_up :
    refusal_data (LimitPassed Numbers 4294967295)
    ≡ object (member (codes "code") (number (unsigned 14))
    (member (codes "name") (string (codes "Limit"))
    (member (codes "number") (number (unsigned 4294967295))
    (member (codes "which") (string (codes "numbers")) no_members))))
unfolding refusal_data refusal_detail
numbers_used_up = refl

-- a document that posting refuses, by each of its faults
a_broken_rule :
    refusal_data (Rule (Broken 2 0 (codes "nail")) None)
    ≡ object (member (codes "code") (number (unsigned 15))
    (member (codes "fault") (number (unsigned 1))
    (member (codes "line") (number (unsigned 0))
    (member (codes "name") (string (codes "Rule"))
    (member (codes "rule") (number (unsigned 2))
    (member (codes "text") (string (codes "nail")) no_members))))))
unfolding refusal_data refusal_detail post_fault_members
a_broken_rule = refl

a_shortage :
    refusal_data (Rule (Shortage 1 2 (pos 1)) (Some 3))
    ≡ object (member (codes "code") (number (unsigned 15))
    (member (codes "fault") (number (unsigned 2))
    (member (codes "line") (number (unsigned 2))
    (member (codes "missing") (string (codes "0.001"))
    (member (codes "name") (string (codes "Rule"))
    (member (codes "rule") (number (unsigned 1)) no_members))))))
unfolding refusal_data refusal_detail post_fault_members sum_text units_text number_text
a_shortage = refl

an_overflow :
    refusal_data (Rule (Overflow 3 1) None)
    ≡ object (member (codes "code") (number (unsigned 15))
    (member (codes "fault") (number (unsigned 3))
    (member (codes "line") (number (unsigned 1))
    (member (codes "name") (string (codes "Rule"))
    (member (codes "rule") (number (unsigned 3)) no_members)))))
unfolding refusal_data refusal_detail post_fault_members
an_overflow = refl

a_wrong_entry :
    refusal_data (Rule (Entry 4 1 ExtraCount) None)
    ≡ object (member (codes "code") (number (unsigned 15))
    (member (codes "entry") (number (unsigned 3))
    (member (codes "fault") (number (unsigned 4))
    (member (codes "line") (number (unsigned 1))
    (member (codes "name") (string (codes "Rule"))
    (member (codes "rule") (number (unsigned 4)) no_members))))))
unfolding refusal_data refusal_detail post_fault_members
a_wrong_entry = refl

too_many_records :
    refusal_data (Rule TooManyRecords None)
    ≡ object (member (codes "code") (number (unsigned 15))
    (member (codes "fault") (number (unsigned 5))
    (member (codes "name") (string (codes "Rule")) no_members)))
unfolding refusal_data refusal_detail post_fault_members
too_many_records = refl

a_negative_quantity :
    refusal_data (Rule (Negative 1 1) None)
    ≡ object (member (codes "code") (number (unsigned 15))
    (member (codes "fault") (number (unsigned 6))
    (member (codes "line") (number (unsigned 1))
    (member (codes "name") (string (codes "Rule"))
    (member (codes "rule") (number (unsigned 1)) no_members)))))
unfolding refusal_data refusal_detail post_fault_members
a_negative_quantity = refl

-- the canonical text of the manual document above is its line
a_manual_text :
    request_data (Manual (record {
      clerk = codes "anna";
      no = 1;
      doc = None;
      key = None;
      date = 758_192_400;
      sets = (record {
        space = codes "goods";
        records = Register (record {
          mark = Receipt;
          sums = codes "10.000" ∷ codes "50.00" ∷ [];
          values = codes "nail" ∷ [];
        }) ∷ [];
      }) ∷ [];
      comment = None;
      tx = None;
    }))
    ≡ object (member (codes "clerk") (string (codes "anna"))
    (member (codes "date") (string morning)
    (member (codes "no") (number (unsigned 1))
    (member (codes "op") (string (codes "manual"))
    (member (codes "sets") sets_of_nails no_members)))))
unfolding request_data manual_members manual_frame sets_data set_data register_data texts_data
    date_text day_text second_text day_of day_from_year day_from_month
a_manual_text = refl

-- members that may be absent stand in byte order among the others
a_repost_text :
    request_data (Manual (record {
      clerk = codes "anna";
      no = 1;
      doc = Some 7;
      key = None;
      date =
          0;
      sets = [];
      comment = None;
      tx = Some 2;
    }))
    ≡ object (member (codes "clerk") (string (codes "anna"))
    (member (codes "date") (string (date_text 0))
    (member (codes "doc") (number (unsigned 7))
    (member (codes "no") (number (unsigned 1))
    (member (codes "op") (string (codes "manual"))
    (member (codes "sets") (array no_items)
    (member (codes "tx") (number (unsigned 2)) no_members)))))))
unfolding request_data manual_members manual_frame sets_data
a_repost_text = refl

a_balance_text :
    request_text (Balance (record {
      clerk = codes "anna";
      register = record { name = codes "goods"; filter = None; group = None };
      cut = None;
      tx = None;
    }))
    ≡ codes "{\"clerk\":\"anna\",\"op\":\"balance\",\"register\":\"goods\"}"
unfolding request_text request_data balance_members put_register escape_byte
a_balance_text = refl

a_posting_text :
    request_data (Manual (record {
      clerk = codes "anna";
      no = 1;
      doc = None;
      key = None;
      date =
          0;
      sets = (record {
        space = codes "main";
        records =
            Ledger (record {
              amount = codes "5";
              debit = None;
              credit =
                  Some (record { account = codes "60"; extras = codes "x" ∷ [] });
            }) ∷ [];
      }) ∷ [];
      comment =
          None;
      tx = None;
    }))
    ≡ object (member (codes "clerk") (string (codes "anna"))
    (member (codes "date") (string (date_text 0))
    (member (codes "no") (number (unsigned 1))
    (member (codes "op") (string (codes "manual"))
    (member (codes "sets") (array
    (item (object (member (codes "records")
    (array (item (object (member (codes "amount") (string (codes "5"))
    (member (codes "credit") (array
    (item (string (codes "60")) (item (string (codes "x")) no_items)))
    (member (codes "debit") null no_members)))) no_items))
    (member (codes "space") (string (codes "main")) no_members))) no_items)) no_members)))))
unfolding request_data manual_members manual_frame sets_data set_data ledger_data texts_data
a_posting_text = refl
