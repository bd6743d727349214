-- Worked rows of requests about documents, computed from the value that a line is read as.
use Rattle.std.proofs.Common.{◌≡◌, [], ◌∷◌, None, Some, Ok, Err, true, false, refl, codes}
use Rattle.std.specs.Str.{chars}
use Rattle.serde_json.specs.Data.{Data, null, boolean, string, number, unsigned, array, object}
use Rattle.serde_json.specs.Data.{item, no_items, Members, member, no_members}
use Rattle.reg_base.specs.Codes.{is_code, is_name}
use Rattle.reg_base.specs.Comments.{is_comment}
use Rattle.reg_base.specs.Dates.{date_text, day_text, second_text, day_of, day_from_year}
use Rattle.reg_base.specs.Dates.{day_from_month}
use Rattle.desk_words.specs.declared.fault.Member.TheVariants.{Doc as Doc_word, Key, Head}
use Rattle.desk_words.specs.declared.fault.Member.TheVariants.{Lines, On, Comment}
use Rattle.desk_words.specs.declared.fault.WordFault.TheVariants.{Missing, UnknownMember, BadMember}
use Rattle.desk_words.specs.declared.request.Request.TheVariants.{Write, Mark, Manual, Activity}
use Rattle.desk_words.specs.declared.request.Request.TheVariants.{Close, Sweep, Doc}
use Rattle.desk_words.specs.Shapes.{value_at, json_object, json_items, json_text, json_name}
use Rattle.desk_words.specs.Shapes.{json_code, json_date, json_number, json_boolean, json_comment}
use Rattle.desk_words.specs.Sets.{json_sets}
use Rattle.desk_words.specs.Fields.{json_field, json_fields, json_lines}
use Rattle.desk_words.specs.ReadRequests.{heading_of, standing_document}
use Rattle.desk_words.specs.ReadRequests.{key_beside, write_request, switch_request}
use Rattle.desk_words.specs.ReadRequests.{manual_request, close_request, sweep_request}
use Rattle.desk_words.specs.ReadRequests.{doc_question}
use Rattle.desk_words.specs.Reading.{operation_of, check_present, check_known, members_of}
use Rattle.desk_words.specs.Reading.{request_in}
use Rattle.desk_words.specs.FieldTexts.{lines_data}
use Rattle.desk_words.specs.RequestTexts.{write_frame, write_members, switch_members}
use Rattle.desk_words.specs.RequestTexts.{close_members, sweep_members}
use Rattle.desk_words.specs.RequestTexts.{doc_members, request_data}
use Rattle.desk_words.proofs.WorkedRows.{morning, morning_date}

-- ---- what is read

-- the fields of a line of a receipt
abbrev nails : Data
nails =
    object (member (codes "item") (string (codes "nail"))
    (member (codes "quantity") (string (codes "1")) no_members))

-- the members of a new receipt of nails
abbrev receipt_of : Members → Members
receipt_of rest =
    member (codes "clerk") (string (codes "anna"))
    (member (codes "date") (string morning)
    (member (codes "head") (object (member (codes "warehouse") (string (codes "main")) no_members))
    (member (codes "key") (string (codes "bill-7"))
    (member (codes "kind") (string (codes "receipt"))
    (member (codes "lines") (array (item nails (item (object no_members) no_items))) rest)))))

a_new_document :
    request_in (receipt_of (member (codes "no") (number (unsigned 1))
    (member (codes "op") (string (codes "write")) no_members)))
    ≡ Ok (Write (record {
      clerk = codes "anna";
      no = 1;
      doc = None;
      key = Some (codes "bill-7");
      kind = codes "receipt";
      date = 758_192_400;
      head = (record { name = codes "warehouse"; text = codes "main" }) ∷ [];
      lines =
          ((record { name = codes "item"; text = codes "nail" })
          ∷ (record { name = codes "quantity"; text = codes "1" }) ∷ []) ∷ [] ∷ [];
      comment = None;
      tx = None;
    }))
unfolding request_in operation_of check_present check_known members_of write_request heading_of
    key_beside value_at json_object json_items json_text json_name json_code json_date json_number
    json_field json_fields json_lines is_name is_code
a_new_document = rw morning_date

a_transaction_is_unknown :
    request_in (receipt_of (member (codes "no") (number (unsigned 1))
    (member (codes "op") (string (codes "write"))
    (member (codes "tx") (number (unsigned 1)) no_members))))
    ≡ Err (UnknownMember (codes "tx"))
unfolding request_in operation_of check_present check_known
a_transaction_is_unknown = refl

a_key_beside_a_number :
    request_in (member (codes "clerk") (string (codes "anna"))
    (member (codes "date") null
    (member (codes "doc") (number (unsigned 7))
    (member (codes "head") null
    (member (codes "key") (string (codes "bill-7"))
    (member (codes "kind") null
    (member (codes "lines") null
    (member (codes "no") (number (unsigned 1))
    (member (codes "op") (string (codes "write")) no_members)))))))))
    ≡ Err (BadMember Key)
unfolding request_in operation_of check_present check_known members_of write_request heading_of
    key_beside value_at json_text json_name json_code json_number is_name is_code
a_key_beside_a_number = refl

a_wrong_number_before_its_key :
    request_in (member (codes "clerk") (string (codes "anna"))
    (member (codes "date") null
    (member (codes "doc") (number (unsigned 0))
    (member (codes "key") (string (codes "bill-7"))
    (member (codes "no") (number (unsigned 1))
    (member (codes "op") (string (codes "manual"))
    (member (codes "sets") null no_members)))))))
    ≡ Err (BadMember Doc_word)
unfolding request_in operation_of check_present check_known members_of manual_request heading_of
    value_at json_text json_name json_number is_name
a_wrong_number_before_its_key = refl

no_lines :
    request_in (member (codes "clerk") null
    (member (codes "date") null
    (member (codes "head") null
    (member (codes "kind") null
    (member (codes "no") null
    (member (codes "op") (string (codes "write")) no_members))))))
    ≡ Err (Missing Lines)
unfolding request_in operation_of check_present
no_lines = refl

a_field_of_no_name :
    json_fields Head (object (member (codes "Item") (string (codes "nail")) no_members))
    ≡ Err (BadMember Head)
unfolding json_fields json_object json_field json_text is_name
a_field_of_no_name = refl

a_line_that_is_no_text :
    json_lines Lines (array (item (object (member (codes "item") null no_members)) no_items))
    ≡ Err (BadMember Lines)
unfolding json_lines json_items json_fields json_object json_field json_text is_name
a_line_that_is_no_text = refl

a_document_marked :
    request_in (member (codes "clerk") (string (codes "anna"))
    (member (codes "doc") (number (unsigned 4_294_967_295))
    (member (codes "no") (number (unsigned 2))
    (member (codes "on") (boolean true)
    (member (codes "op") (string (codes "mark")) no_members)))))
    ≡ Ok (Mark (record {
      clerk = codes "anna";
      no = 2;
      doc = 4_294_967_295;
      on = true;
      tx = None;
    }))
unfolding request_in operation_of check_present check_known members_of switch_request
    standing_document value_at json_text json_name json_number json_boolean is_name
a_document_marked = refl

an_activity_that_is_no_boolean :
    request_in (member (codes "clerk") (string (codes "anna"))
    (member (codes "doc") (number (unsigned 3))
    (member (codes "no") (number (unsigned 2))
    (member (codes "on") null
    (member (codes "op") (string (codes "activity")) no_members)))))
    ≡ Err (BadMember On)
unfolding request_in operation_of check_present check_known members_of switch_request
    standing_document value_at json_text json_name json_number json_boolean is_name
an_activity_that_is_no_boolean = refl

an_activity :
    request_in (member (codes "clerk") (string (codes "anna"))
    (member (codes "doc") (number (unsigned 3))
    (member (codes "no") (number (unsigned 2))
    (member (codes "on") (boolean false)
    (member (codes "op") (string (codes "activity")) no_members)))))
    ≡ Ok (Activity (record {
      clerk = codes "anna";
      no = 2;
      doc = 3;
      on = false;
      tx = None;
    }))
unfolding request_in operation_of check_present check_known members_of switch_request
    standing_document value_at json_text json_name json_number json_boolean is_name
an_activity = refl

closed_books :
    request_in (member (codes "clerk") (string (codes "anna"))
    (member (codes "date") (string morning)
    (member (codes "no") (number (unsigned 4))
    (member (codes "op") (string (codes "close")) no_members))))
    ≡ Ok (Close (record { clerk = codes "anna"; no = 4; date = 758_192_400 }))
unfolding request_in operation_of check_present check_known members_of close_request value_at
    json_text json_name json_date json_number is_name
closed_books = rw morning_date

a_removal :
    request_in (member (codes "clerk") (string (codes "anna"))
    (member (codes "doc") (number (unsigned 3))
    (member (codes "no") (number (unsigned 5))
    (member (codes "op") (string (codes "sweep")) no_members))))
    ≡ Ok (Sweep (record { clerk = codes "anna"; no = 5; doc = 3 }))
unfolding request_in operation_of check_present check_known members_of sweep_request
    standing_document value_at json_text json_name json_number is_name
a_removal = refl

a_question_for_a_document :
    request_in (member (codes "clerk") (string (codes "anna"))
    (member (codes "doc") (number (unsigned 3))
    (member (codes "op") (string (codes "doc")) no_members)))
    ≡ Ok (Doc (record { clerk = codes "anna"; doc = 3; tx = None }))
unfolding request_in operation_of check_present check_known members_of doc_question value_at
    json_text json_name json_number is_name
a_question_for_a_document = refl

new_records_of_a_document :
    request_in (member (codes "clerk") (string (codes "anna"))
    (member (codes "comment") (string (codes "late"))
    (member (codes "date") (string morning)
    (member (codes "doc") (number (unsigned 3))
    (member (codes "no") (number (unsigned 6))
    (member (codes "op") (string (codes "manual"))
    (member (codes "sets") (array no_items) no_members)))))))
    ≡ Ok (Manual (record {
      clerk = codes "anna";
      no = 6;
      doc = Some 3;
      key = None;
      date = 758_192_400;
      sets = [];
      comment = Some (codes "late");
      tx = None;
    }))
unfolding request_in operation_of check_present check_known members_of manual_request heading_of
    key_beside value_at json_items json_text json_name json_date json_number json_comment json_sets
    is_name is_comment chars
new_records_of_a_document = rw morning_date

a_comment_with_a_line_feed : json_comment Comment (string (10 ∷ [])) ≡ Err (BadMember Comment)
unfolding json_comment json_text is_comment chars
a_comment_with_a_line_feed = refl

-- U+0085, in two bytes
a_comment_with_a_control_character :
    json_comment Comment (string (194 ∷ 133 ∷ [])) ≡ Err (BadMember Comment)
unfolding json_comment json_text is_comment chars
a_comment_with_a_control_character = refl

-- ---- what is printed

-- fields stand in byte order, and of two with one name the later text counts
a_document_text :
    request_data (Write (record {
      clerk = codes "anna";
      no = 1;
      doc = None;
      key = Some (codes "k");
      kind = codes "receipt";
      date = 758_192_400;
      head =
          (record { name = codes "b"; text = codes "1" })
          ∷ (record { name = codes "a"; text = codes "2" })
          ∷ (record { name = codes "b"; text = codes "3" }) ∷ [];
      lines = [] ∷ [];
      comment = Some (codes "x");
      tx = Some 2;
    }))
    ≡ object (member (codes "clerk") (string (codes "anna"))
    (member (codes "comment") (string (codes "x"))
    (member (codes "date") (string morning)
    (member (codes "head") (object (member (codes "a") (string (codes "2"))
    (member (codes "b") (string (codes "3")) no_members)))
    (member (codes "key") (string (codes "k"))
    (member (codes "kind") (string (codes "receipt"))
    (member (codes "lines") (array (item (object no_members) no_items))
    (member (codes "no") (number (unsigned 1))
    (member (codes "op") (string (codes "write"))
    (member (codes "tx") (number (unsigned 2)) no_members))))))))))
unfolding request_data write_members write_frame lines_data date_text day_text second_text day_of
    day_from_year day_from_month
a_document_text = refl

a_mark_text :
    request_data (Mark (record {
      clerk = codes "anna";
      no = 2;
      doc = 3;
      on = false;
      tx = Some 1;
    }))
    ≡ object (member (codes "clerk") (string (codes "anna"))
    (member (codes "doc") (number (unsigned 3))
    (member (codes "no") (number (unsigned 2))
    (member (codes "on") (boolean false)
    (member (codes "op") (string (codes "mark"))
    (member (codes "tx") (number (unsigned 1)) no_members))))))
unfolding request_data switch_members
a_mark_text = refl

an_activity_text :
    request_data (Activity (record {
      clerk = codes "anna";
      no = 2;
      doc = 3;
      on = true;
      tx = None;
    }))
    ≡ object (member (codes "clerk") (string (codes "anna"))
    (member (codes "doc") (number (unsigned 3))
    (member (codes "no") (number (unsigned 2))
    (member (codes "on") (boolean true)
    (member (codes "op") (string (codes "activity")) no_members)))))
unfolding request_data switch_members
an_activity_text = refl

a_closing_text :
    request_data (Close (record { clerk = codes "anna"; no = 4; date = 758_192_400 }))
    ≡ object (member (codes "clerk") (string (codes "anna"))
    (member (codes "date") (string morning)
    (member (codes "no") (number (unsigned 4))
    (member (codes "op") (string (codes "close")) no_members))))
unfolding request_data close_members date_text day_text second_text day_of day_from_year
    day_from_month
a_closing_text = refl

a_removal_text :
    request_data (Sweep (record { clerk = codes "anna"; no = 5; doc = 3 }))
    ≡ object (member (codes "clerk") (string (codes "anna"))
    (member (codes "doc") (number (unsigned 3))
    (member (codes "no") (number (unsigned 5))
    (member (codes "op") (string (codes "sweep")) no_members))))
unfolding request_data sweep_members
a_removal_text = refl

a_question_text :
    request_data (Doc (record { clerk = codes "anna"; doc = 3; tx = None }))
    ≡ object (member (codes "clerk") (string (codes "anna"))
    (member (codes "doc") (number (unsigned 3))
    (member (codes "op") (string (codes "doc")) no_members)))
unfolding request_data doc_members
a_question_text = refl
