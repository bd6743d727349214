-- Worked rows of requests to post and to unpost, and of a control, computed from their values.
use Rattle.std.proofs.Common.{◌≡◌, [], ◌∷◌, None, Some, Ok, Err, negsuc, refl, codes}
use Rattle.serde_json.specs.Data.{null, string, number, unsigned, array, object}
use Rattle.serde_json.specs.Data.{item, no_items, Members, member, no_members}
use Rattle.reg_base.specs.Codes.{is_code, is_name}
use Rattle.reg_base.specs.Numbers.{sum_text, units_text, number_text}
use Rattle.reg_base.specs.declared.value.Value.TheVariants.{Code}
use Rattle.desk_words.specs.declared.fault.Member.TheVariants.{Doc as Doc_word, Kind, Date}
use Rattle.desk_words.specs.declared.fault.Member.TheVariants.{Head}
use Rattle.desk_words.specs.declared.fault.WordFault.TheVariants.{Missing, UnknownMember, BadMember}
use Rattle.desk_words.specs.declared.request.Request.TheVariants.{Post, Unpost}
use Rattle.desk_words.specs.declared.request.Post.TheVariants.{Content, Standing}
use Rattle.desk_words.specs.declared.reply.Refusal.TheVariants.{Control}
use Rattle.desk_words.specs.Shapes.{value_at, json_object, json_items, json_text, json_name}
use Rattle.desk_words.specs.Shapes.{json_code, json_date, json_number}
use Rattle.desk_words.specs.Fields.{json_fields, json_lines}
use Rattle.desk_words.specs.ReadRequests.{heading_of}
use Rattle.desk_words.specs.ReadRequests.{key_beside, write_request, standing_document}
use Rattle.desk_words.specs.ReadRequests.{standing_post}
use Rattle.desk_words.specs.Reading.{operation_of, check_present, check_known, members_of}
use Rattle.desk_words.specs.Reading.{request_in}
use Rattle.desk_words.specs.JsonValues.{texts_data}
use Rattle.desk_words.specs.RequestTexts.{standing_members, request_data}
use Rattle.desk_words.specs.RefusalTexts.{refusal_detail, refusal_data}
use Rattle.desk_words.proofs.WorkedRows.{morning, morning_date}

-- ---- what is read

-- the clerk, and the number and the operation of a request to post
abbrev by_anna : Members → Members
by_anna rest = member (codes "clerk") (string (codes "anna")) rest

abbrev to_post : Members
to_post =
    member (codes "no") (number (unsigned 1))
    (member (codes "op") (string (codes "post")) no_members)

content_is_posted :
    request_in (by_anna (member (codes "date") (string morning)
    (member (codes "head") (object no_members)
    (member (codes "key") (string (codes "k"))
    (member (codes "kind") (string (codes "sale"))
    (member (codes "lines") (array no_items) to_post))))))
    ≡ Ok (Post (Content (record {
      clerk = codes "anna";
      no = 1;
      doc = None;
      key = Some (codes "k");
      kind = codes "sale";
      date = 758_192_400;
      head = [];
      lines = [];
      comment = None;
      tx = None;
    })))
unfolding request_in operation_of check_present check_known members_of write_request heading_of
    key_beside value_at json_object json_items json_text json_name json_code json_date json_number
    json_fields json_lines is_name is_code
content_is_posted = rw morning_date

a_document_is_posted_as_it_stands :
    request_in (by_anna (member (codes "doc") (number (unsigned 7)) to_post))
    ≡ Ok (Post (Standing (record { clerk = codes "anna"; no = 1; doc = 7; tx = None })))
unfolding request_in operation_of check_present check_known members_of standing_post
    standing_document value_at json_text json_name json_number is_name
a_document_is_posted_as_it_stands = refl

a_document_is_unposted :
    request_in (by_anna (member (codes "doc") (number (unsigned 7))
    (member (codes "no") (number (unsigned 2))
    (member (codes "op") (string (codes "unpost")) no_members))))
    ≡ Ok (Unpost (record { clerk = codes "anna"; no = 2; doc = 7; tx = None }))
unfolding request_in operation_of check_present check_known members_of standing_document value_at
    json_text json_name json_number is_name
a_document_is_unposted = refl

-- a type makes it content, whatever stands there
a_type_of_null_wants_a_date :
    request_in (by_anna (member (codes "doc") (number (unsigned 7))
    (member (codes "kind") null to_post)))
    ≡ Err (Missing Date)
unfolding request_in operation_of check_present
a_type_of_null_wants_a_date = refl

a_type_of_null_is_refused_then :
    request_in (by_anna (member (codes "date") null
    (member (codes "head") null
    (member (codes "kind") null
    (member (codes "lines") null to_post)))))
    ≡ Err (BadMember Kind)
unfolding request_in operation_of check_present check_known members_of write_request heading_of
    key_beside value_at json_text json_name json_number is_name
a_type_of_null_is_refused_then = refl

-- without a type it wants a document, whatever content is there
content_without_a_type :
    request_in (by_anna (member (codes "date") (string morning)
    (member (codes "head") (object no_members)
    (member (codes "lines") (array no_items) to_post))))
    ≡ Err (Missing Doc_word)
unfolding request_in operation_of check_present
content_without_a_type = refl

a_wrong_number_before_content :
    request_in (by_anna (member (codes "doc") (number (unsigned 0))
    (member (codes "key") (string (codes "k")) to_post)))
    ≡ Err (BadMember Doc_word)
unfolding request_in operation_of check_present check_known members_of standing_post
    standing_document value_at json_text json_name json_number is_name
a_wrong_number_before_content = refl

a_head_before_a_comment :
    request_in (by_anna (member (codes "comment") null
    (member (codes "doc") (number (unsigned 7))
    (member (codes "head") null to_post))))
    ≡ Err (BadMember Head)
unfolding request_in operation_of check_present check_known members_of standing_post
    standing_document value_at json_text json_name json_number is_name
a_head_before_a_comment = refl

an_unknown_member_before_a_key :
    request_in (by_anna (member (codes "doc") (number (unsigned 0))
    (member (codes "key") null
    (member (codes "no") (number (unsigned 1))
    (member (codes "op") (string (codes "post"))
    (member (codes "tx") (number (unsigned 1)) no_members))))))
    ≡ Err (UnknownMember (codes "tx"))
unfolding request_in operation_of check_present check_known
an_unknown_member_before_a_key = refl

-- unposting knows no content
a_key_of_an_unposting :
    request_in (by_anna (member (codes "doc") (number (unsigned 7))
    (member (codes "key") (string (codes "k"))
    (member (codes "no") (number (unsigned 1))
    (member (codes "op") (string (codes "unpost")) no_members)))))
    ≡ Err (UnknownMember (codes "key"))
unfolding request_in operation_of check_present check_known
a_key_of_an_unposting = refl

-- ---- what is printed

a_posting_as_it_stands_text :
    request_data (Post (Standing (record { clerk = codes "anna"; no = 1; doc = 7; tx = None })))
    ≡ object (by_anna (member (codes "doc") (number (unsigned 7)) to_post))
unfolding request_data standing_members
a_posting_as_it_stands_text = refl

an_unposting_text :
    request_data (Unpost (record { clerk = codes "anna"; no = 1; doc = 7; tx = Some 2 }))
    ≡ object (by_anna (member (codes "doc") (number (unsigned 7))
    (member (codes "no") (number (unsigned 1))
    (member (codes "op") (string (codes "unpost"))
    (member (codes "tx") (number (unsigned 2)) no_members)))))
unfolding request_data standing_members
an_unposting_text = refl

-- one nail more than there are
a_control_text :
    refusal_data (Control (codes "goods") (Code (codes "nail") ∷ []) (negsuc 999) 3)
    ≡ object (member (codes "balance") (string (codes "-1.000"))
    (member (codes "code") (number (unsigned 18))
    (member (codes "name") (string (codes "Control"))
    (member (codes "register") (string (codes "goods"))
    (member (codes "values") (array (item (string (codes "nail")) no_items)) no_members)))))
unfolding refusal_data refusal_detail texts_data sum_text units_text number_text
a_control_text = refl
