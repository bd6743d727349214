-- Worked rows of acknowledgements, of documents that are shown, and of refusals.
use Rattle.std.proofs.Common.{◌≡◌, [], ◌∷◌, ◌++◌, None, Some, false, true, refl, codes}
use Rattle.serde_json.specs.Data.{null, boolean, string, number, unsigned, array, object}
use Rattle.serde_json.specs.Data.{item, no_items, member, no_members}
use Rattle.serde_json.specs.Written.{compact_text}
use Rattle.json.specs.Print.{escape_byte}
use Rattle.reg_base.specs.Dates.{date_text, day_text, second_text, day_of, day_from_year}
use Rattle.reg_base.specs.Dates.{day_from_month}
use Rattle.reg_base.specs.declared.records.Mark.TheVariants.{Receipt}
use Rattle.reg_base.specs.declared.records.DocState.TheVariants.{Posted, Marked}
use Rattle.desk_words.specs.declared.request.RecordText.TheVariants.{Register, Ledger}
use Rattle.desk_words.specs.declared.reply.Reply.TheVariants.{Done}
use Rattle.desk_words.specs.declared.reply.Answer.TheVariants.{Acknowledged, Shown}
use Rattle.desk_words.specs.declared.reply.Acknowledgement.TheVariants.{Swept}
use Rattle.desk_words.specs.declared.reply.Acknowledgement.TheVariants.{Closed as ClosedBooks}
use Rattle.desk_words.specs.declared.reply.Refusal.TheVariants.{UnknownDoc, WrongState, BadField}
use Rattle.desk_words.specs.declared.reply.Refusal.TheVariants.{KeyTaken, Closed}
use Rattle.desk_words.specs.declared.reply.Refusal.TheVariants.{Limit as LimitPassed}
use Rattle.desk_words.specs.declared.reply.Field.TheVariants.{Named}
use Rattle.desk_words.specs.declared.reply.Limit.TheVariants.{Records}
use Rattle.desk_words.specs.JsonValues.{texts_data}
use Rattle.desk_words.specs.FieldTexts.{lines_data}
use Rattle.desk_words.specs.RequestTexts.{register_data, ledger_data, set_data, sets_data}
use Rattle.desk_words.specs.RefusalTexts.{refusal_detail, refusal_data}
use Rattle.desk_words.specs.ReplyTexts.{shown_data, answer_data, reply_data, reply_text}

-- the books are closed
books_are_closed :
    reply_text (Done (Acknowledged (ClosedBooks 758_192_400)))
    ≡ codes "{\"ok\":{\"closed\":\"2024-01-10T09:00:00\"}}"
unfolding reply_text reply_data answer_data date_text day_text second_text day_of day_from_year
    day_from_month escape_byte
books_are_closed = refl

-- a document was removed
a_swept_document :
    reply_data (Done (Acknowledged (Swept 3)))
    ≡ object (member (codes "ok")
    (object (member (codes "doc") (number (unsigned 3)) no_members)) no_members)
unfolding reply_data answer_data
a_swept_document = refl

-- a manual document without records
an_empty_document :
    reply_data (Done (Shown (record {
      active = true;
      comment = [];
      date = 0;
      doc = 7;
      head = [];
      key = None;
      kind = None;
      lines = [];
      sets = [];
      state = Posted;
    })))
    ≡ object (member (codes "ok")
    (object (member (codes "active") (boolean true)
    (member (codes "comment") (string [])
    (member (codes "date") (string (codes "2000-01-01T00:00:00"))
    (member (codes "doc") (number (unsigned 7))
    (member (codes "head") (object no_members)
    (member (codes "key") null
    (member (codes "kind") (string (codes "manual"))
    (member (codes "lines") (array no_items)
    (member (codes "sets") (array no_items)
    (member (codes "state") (string (codes "posted"))
    no_members))))))))))) no_members)
unfolding reply_data answer_data shown_data lines_data sets_data date_text day_text second_text
    day_of day_from_year day_from_month
an_empty_document = refl

-- the fields of a head and of a line stand in byte order of their names
a_receipt_shown :
    shown_data (record {
      active = false;
      comment = codes "said \"so\"";
      date = 758_192_400;
      doc = 8;
      head =
          (record { name = codes "warehouse"; text = codes "w1" })
          ∷ (record { name = codes "agent"; text = codes "b" }) ∷ [];
      key = Some (codes "k-1");
      kind = Some (codes "receipt");
      lines =
          ((record { name = codes "quantity"; text = codes "10.000" })
          ∷ (record { name = codes "item"; text = codes "nail" }) ∷ []) ∷ [] ∷ [];
      sets =
          (record {
            space = codes "goods";
            records =
                Register (record {
                  mark = Receipt;
                  sums = codes "10.000" ∷ codes "50.00" ∷ [];
                  values = codes "nail" ∷ [];
                }) ∷ [];
          }) ∷ (record {
            space = codes "main";
            records =
                Ledger (record {
                  amount = codes "50.00";
                  debit = None;
                  credit = Some (record { account = codes "60"; extras = [] });
                }) ∷ [];
          }) ∷ [];
      state = Posted;
    })
    ≡ object (member (codes "active") (boolean false)
    (member (codes "comment") (string (codes "said \"so\""))
    (member (codes "date") (string (codes "2024-01-10T09:00:00"))
    (member (codes "doc") (number (unsigned 8))
    (member (codes "head") (object (member (codes "agent") (string (codes "b"))
    (member (codes "warehouse") (string (codes "w1")) no_members)))
    (member (codes "key") (string (codes "k-1"))
    (member (codes "kind") (string (codes "receipt"))
    (member (codes "lines") (array
    (item (object (member (codes "item") (string (codes "nail"))
    (member (codes "quantity") (string (codes "10.000")) no_members)))
    (item (object no_members) no_items)))
    (member (codes "sets") (array
    (item (object (member (codes "records") (array
    (item (object (member (codes "kind") (string (codes "receipt"))
    (member (codes "sums") (array
    (item (string (codes "10.000")) (item (string (codes "50.00")) no_items)))
    (member (codes "values") (array (item (string (codes "nail")) no_items)) no_members))))
    no_items))
    (member (codes "space") (string (codes "goods")) no_members)))
    (item (object (member (codes "records") (array
    (item (object (member (codes "amount") (string (codes "50.00"))
    (member (codes "credit") (array (item (string (codes "60")) no_items))
    (member (codes "debit") null no_members)))) no_items))
    (member (codes "space") (string (codes "main")) no_members)))
    no_items)))
    (member (codes "state") (string (codes "posted")) no_members))))))))))
unfolding shown_data lines_data sets_data set_data register_data ledger_data texts_data date_text
    day_text second_text day_of day_from_year day_from_month
a_receipt_shown = refl

-- so stands a comment of a quotation mark, a backslash and an e with an accent, of two bytes
an_escaped_comment :
    compact_text (string (codes "\"\\" ++ 195 ∷ 169 ∷ []))
    ≡ codes "\"\\\"\\\\" ++ 195 ∷ 169 ∷ codes "\""
unfolding escape_byte
an_escaped_comment = refl

an_unknown_document :
    refusal_data UnknownDoc
    ≡ object (member (codes "code") (number (unsigned 9))
    (member (codes "name") (string (codes "UnknownDoc")) no_members))
unfolding refusal_data refusal_detail
an_unknown_document = refl

a_wrong_state :
    refusal_data (WrongState Marked)
    ≡ object (member (codes "code") (number (unsigned 10))
    (member (codes "name") (string (codes "WrongState"))
    (member (codes "state") (string (codes "marked")) no_members)))
unfolding refusal_data refusal_detail
a_wrong_state = refl

a_field_of_the_configuration :
    refusal_data (BadField (Named (codes "quantity")))
    ≡ object (member (codes "code") (number (unsigned 11))
    (member (codes "field") (string (codes "quantity"))
    (member (codes "name") (string (codes "BadField")) no_members)))
unfolding refusal_data refusal_detail
a_field_of_the_configuration = refl

a_taken_key :
    refusal_data (KeyTaken 7)
    ≡ object (member (codes "code") (number (unsigned 12))
    (member (codes "doc") (number (unsigned 7))
    (member (codes "name") (string (codes "KeyTaken")) no_members)))
unfolding refusal_data refusal_detail
a_taken_key = refl

a_closed_date :
    refusal_data (Closed 758_192_400)
    ≡ object (member (codes "code") (number (unsigned 13))
    (member (codes "date") (string (codes "2024-01-10T09:00:00"))
    (member (codes "name") (string (codes "Closed")) no_members)))
unfolding refusal_data refusal_detail date_text day_text second_text day_of day_from_year
    day_from_month
a_closed_date = refl

too_many_records_are_kept :
    refusal_data (LimitPassed Records 2_000_000)
    ≡ object (member (codes "code") (number (unsigned 14))
    (member (codes "name") (string (codes "Limit"))
    (member (codes "number") (number (unsigned 2_000_000))
    (member (codes "which") (string (codes "records")) no_members))))
unfolding refusal_data refusal_detail
too_many_records_are_kept = refl
