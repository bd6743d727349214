-- The canonical text of a request with the content of a document is read as that request.
use Rattle.std.proofs.Common.{◌≡◌, ℕ, ◌≤◌, true, false, None, option_map, List, Ok, codes}
use Rattle.std.proofs.Common.{IsUtf8, refl, ap, sym, ◌∙◌, arith}
use Rattle.serde_json.specs.Data.{string, object, Members, members_depth}
use Rattle.serde_json.specs.Find.{get_member}
use Rattle.json_laws.specs.Plain.{MembersArePlain}
use Rattle.reg_base.specs.Results.{◌>>=◌, some_or}
use Rattle.reg_base.proofs.ForAbove.{IsUtf8-name, IsUtf8-date_text, IsUtf8-tested}
use Rattle.desk_words.specs.declared.fault.WordFault.TheVariants.{UnknownOp}
use Rattle.desk_words.specs.declared.members.Operation.{Operation}
use Rattle.desk_words.specs.declared.members.Operation.TheVariants.{Write as Write_op}
use Rattle.desk_words.specs.declared.members.Operation.TheVariants.{Manual as Manual_op}
use Rattle.desk_words.specs.declared.members.Operation.TheVariants.{Post as Post_op}
use Rattle.desk_words.specs.declared.request.Request.{Request}
use Rattle.desk_words.specs.declared.request.Request.TheVariants.{Write as Write_request}
use Rattle.desk_words.specs.declared.request.Request.TheVariants.{Manual as Manual_request}
use Rattle.desk_words.specs.declared.request.Request.TheVariants.{Post as Post_request}
use Rattle.desk_words.specs.declared.request.Post.TheVariants.{Content}
use Rattle.desk_words.specs.declared.request.Write.{Write}
use Rattle.desk_words.specs.declared.request.Manual.{Manual}
use Rattle.desk_words.specs.Members.{operation_named}
use Rattle.desk_words.specs.Shapes.{OrFault, value_at, json_number, json_code, json_comment}
use Rattle.desk_words.specs.ReadRequests.{heading_of}
use Rattle.desk_words.specs.ReadRequests.{key_beside, write_request, manual_request}
use Rattle.desk_words.specs.Reading.{operation_of, check_present, check_known, members_of}
use Rattle.desk_words.specs.JsonValues.{whole}
use Rattle.desk_words.specs.RequestTexts.{write_frame, write_members, manual_frame, manual_members}
use Rattle.desk_words.specs.RequestTexts.{request_data}
use Rattle.desk_words.specs.WellFormedParts.{IsCode, IsNumber, IsComment}
use Rattle.desk_words.specs.WellFormed.{IsWriteRequest, IsManualRequest}
use Rattle.desk_words.proofs.PlainLemmas.{IsPlain-sets_data, depth-sets_data, IsPlain-fields_data}
use Rattle.desk_words.proofs.PlainLemmas.{depth-fields_data, IsPlain-lines_data, depth-lines_data}
use Rattle.desk_words.proofs.ShapesBack.{json_name-back, json_code-back, json_number-back}
use Rattle.desk_words.proofs.ShapesBack.{json_date-back, json_comment-back}
use Rattle.desk_words.proofs.ShapesBack.{json_sets-back, json_fields-back, json_lines-back}
use Rattle.desk_words.proofs.TextsBack.{AsksFor, ReadsBack, ReadsBack-members, IsPlain-whole}
use Rattle.desk_words.proofs.OptionalBack.{is_optional, found_in_frame, found_doc, found_key}
use Rattle.desk_words.proofs.OptionalBack.{found_comment, shape_if-back, stands_alone}
use Rattle.desk_words.proofs.OptionalBack.{known-optional, MembersArePlain-optional}
use Rattle.desk_words.proofs.OptionalBack.{depth-optional}

-- ---- content: `write` and `post`

content_found : (op : List ℕ) (w : Write) (name : List ℕ) → is_optional name ≡ false
    → get_member name (write_members op w) ≡ get_member name (write_frame op w)
unfolding write_members
content_found op w name other =
    found_in_frame name other w.doc w.key w.comment w.tx (write_frame op w)

content_doc : (op : List ℕ) (w : Write)
    → get_member (codes "doc") (write_members op w) ≡ option_map whole w.doc
unfolding write_members write_frame
content_doc op w = found_doc w.doc w.key w.comment w.tx (write_frame op w) refl

content_key : (op : List ℕ) (w : Write)
    → get_member (codes "key") (write_members op w) ≡ option_map string w.key
unfolding write_members write_frame
content_key op w = found_key w.doc w.key w.comment w.tx (write_frame op w) refl

content_comment : (op : List ℕ) (w : Write)
    → get_member (codes "comment") (write_members op w) ≡ option_map string w.comment
unfolding write_members write_frame
content_comment op w = found_comment w.doc w.key w.comment w.tx (write_frame op w) refl

content-known : (op : List ℕ) (w : Write) → w.tx ≡ None
    → check_known Write_op (write_members op w) ≡ Ok tt
unfolding check_known write_members write_frame
content-known op w no_tx =
    rw (known-optional Write_op w.doc w.key w.comment w.tx (write_frame op w) refl refl refl no_tx
    refl)

-- with a type it asks for the operation of the word that it has, and has the members of `write`
content-asks : (op : List ℕ) (w : Write) → w.tx ≡ None
    → let ms = write_members op w in
    (operation_of ms ≡ some_or (operation_named true op) UnknownOp)
    × (check_present Write_op ms ≡ Ok tt) × (check_known Write_op ms ≡ Ok tt)
unfolding operation_of check_present write_frame
content-asks op w no_tx = (
  rw (content_found op w (codes "kind") refl, content_found op w (codes "op") refl),
  rw (
    content_found op w (codes "op") refl,
    content_found op w (codes "clerk") refl,
    content_found op w (codes "no") refl,
    content_found op w (codes "kind") refl,
    content_found op w (codes "date") refl,
    content_found op w (codes "head") refl,
    content_found op w (codes "lines") refl,
  ),
  content-known op w no_tx,
)

content-back : (op : List ℕ) (w : Write) → IsWriteRequest w
    → write_request (write_members op w) ≡ Ok w
unfolding write_request heading_of key_beside value_at write_frame
content-back op w h =
    rw (
      content_found op w (codes "clerk") refl,
      json_name-back _ w.clerk h.clerk,
      content_found op w (codes "no") refl,
      json_number-back _ w.no h.number,
      content_doc op w,
      shape_if-back IsNumber (json_number _) whole (json_number-back _) w.doc h.doc,
      content_key op w,
      shape_if-back IsCode (json_code _) string (json_code-back _) w.key h.key,
      stands_alone w.doc w.key h.alone,
      content_found op w (codes "kind") refl,
      json_name-back _ w.kind h.kind,
      content_found op w (codes "date") refl,
      json_date-back _ w.date h.date,
      content_found op w (codes "head") refl,
      json_fields-back _ w.head h.head,
      content_found op w (codes "lines") refl,
      json_lines-back _ w.lines h.lines,
      content_comment op w,
      shape_if-back IsComment (json_comment _) string (json_comment-back _) w.comment h.comment,
    )
    (λ i. Ok (record w { tx = sym h.no_tx i }))

IsPlain-write_frame : (op : List ℕ) → IsUtf8 op → (w : Write) → IsWriteRequest w
    → MembersArePlain (write_frame op w)
unfolding write_frame
IsPlain-write_frame op utf8 w h = (
  (IsUtf8-tested (codes "clerk") refl, refl),
  IsUtf8-name w.clerk h.clerk,
  (
    (IsUtf8-tested (codes "date") refl, refl),
    IsUtf8-date_text w.date,
    (
      (IsUtf8-tested (codes "head") refl, refl),
      IsPlain-fields_data w.head h.head,
      (
        (IsUtf8-tested (codes "kind") refl, refl),
        IsUtf8-name w.kind h.kind,
        (
          (IsUtf8-tested (codes "lines") refl, refl),
          IsPlain-lines_data w.lines h.lines,
          (
            (IsUtf8-tested (codes "no") refl, refl),
            IsPlain-whole w.no h.number,
            ((IsUtf8-tested (codes "op") refl, refl), utf8, tt),
          ),
        ),
      ),
    ),
  ),
)

depth-write_frame : (op : List ℕ) (w : Write) → members_depth (write_frame op w) ≤ 5
unfolding write_frame
depth-write_frame op w = omega (arith, depth-fields_data w.head, depth-lines_data w.lines)

-- A request that is made of content, and whose JSON is that of its word and the content, reads back
-- where the word is that of its operation.
content_text-back : (op : List ℕ) (operation : Operation) (made : Write → Request)
    → IsUtf8 op → (w : Write) → IsWriteRequest w
    → request_data (made w) ≡ object (write_members op w)
    → ((ms : Members) → members_of operation ms ≡ (write_request ms >>= λ r. Ok (made r)))
    → AsksFor operation (write_members op w) → ReadsBack (made w)
unfolding write_members
content_text-back op operation made utf8 w h data_is members_are asks =
    ReadsBack-members (made w) operation (write_members op w) data_is
    (MembersArePlain-optional w.doc w.key w.comment w.tx (record {
      number = h.doc;
      code = h.key;
      text = h.comment;
      transaction = h.no_tx;
    }) (write_frame op w) (IsPlain-write_frame op utf8 w h))
    (depth-optional w.doc w.key w.comment w.tx (write_frame op w) (depth-write_frame op w)) asks
    (members_are (write_members op w)
    ∙ ap (λ (r : OrFault Write). r >>= λ x. Ok (made x)) (content-back op w h))

pub write_text-back : (w : Write) → IsWriteRequest w → ReadsBack (Write_request w)
unfolding request_data members_of check_present check_known
write_text-back w h =
    content_text-back (codes "write") Write_op Write_request
    (IsUtf8-tested (codes "write") refl) w h refl (λ ms. refl)
    (content-asks (codes "write") w h.no_tx)

pub post_text-back : (w : Write) → IsWriteRequest w → ReadsBack (Post_request (Content w))
unfolding request_data members_of check_present check_known
post_text-back w h =
    content_text-back (codes "post") Post_op (λ x. Post_request (Content x))
    (IsUtf8-tested (codes "post") refl) w h refl (λ ms. refl)
    (content-asks (codes "post") w h.no_tx)

-- ---- `manual`

manual_found : (m : Manual) (name : List ℕ) → is_optional name ≡ false
    → get_member name (manual_members m) ≡ get_member name (manual_frame m)
unfolding manual_members
manual_found m name other = found_in_frame name other m.doc m.key m.comment m.tx (manual_frame m)

manual_doc : (m : Manual) → get_member (codes "doc") (manual_members m) ≡ option_map whole m.doc
unfolding manual_members manual_frame
manual_doc m = found_doc m.doc m.key m.comment m.tx (manual_frame m) refl

manual_key : (m : Manual) → get_member (codes "key") (manual_members m) ≡ option_map string m.key
unfolding manual_members manual_frame
manual_key m = found_key m.doc m.key m.comment m.tx (manual_frame m) refl

manual_comment : (m : Manual)
    → get_member (codes "comment") (manual_members m) ≡ option_map string m.comment
unfolding manual_members manual_frame
manual_comment m = found_comment m.doc m.key m.comment m.tx (manual_frame m) refl

manual-known : (m : Manual) → m.tx ≡ None → check_known Manual_op (manual_members m) ≡ Ok tt
unfolding check_known manual_members manual_frame
manual-known m no_tx =
    rw (known-optional Manual_op m.doc m.key m.comment m.tx (manual_frame m) refl refl refl no_tx
    refl)

manual-asks : (m : Manual) → m.tx ≡ None → AsksFor Manual_op (manual_members m)
unfolding operation_of check_present manual_frame
manual-asks m no_tx = (
  rw (manual_found m (codes "kind") refl, manual_found m (codes "op") refl),
  rw (
    manual_found m (codes "op") refl,
    manual_found m (codes "clerk") refl,
    manual_found m (codes "no") refl,
    manual_found m (codes "date") refl,
    manual_found m (codes "sets") refl,
  ),
  manual-known m no_tx,
)

manual-back : (m : Manual) → IsManualRequest m
    → members_of Manual_op (manual_members m) ≡ Ok (Manual_request m)
unfolding members_of manual_request heading_of key_beside value_at manual_frame
manual-back m h =
    rw (
      manual_found m (codes "clerk") refl,
      json_name-back _ m.clerk h.clerk,
      manual_found m (codes "no") refl,
      json_number-back _ m.no h.number,
      manual_doc m,
      shape_if-back IsNumber (json_number _) whole (json_number-back _) m.doc h.doc,
      manual_key m,
      shape_if-back IsCode (json_code _) string (json_code-back _) m.key h.key,
      stands_alone m.doc m.key h.alone,
      manual_found m (codes "date") refl,
      json_date-back _ m.date h.date,
      manual_found m (codes "sets") refl,
      json_sets-back _ m.sets h.sets,
      manual_comment m,
      shape_if-back IsComment (json_comment _) string (json_comment-back _) m.comment h.comment,
    )
    (λ i. Ok (Manual_request (record m { tx = sym h.no_tx i })))

IsPlain-manual_frame : (m : Manual) → IsManualRequest m → MembersArePlain (manual_frame m)
unfolding manual_frame
IsPlain-manual_frame m h = (
  (IsUtf8-tested (codes "clerk") refl, refl),
  IsUtf8-name m.clerk h.clerk,
  (
    (IsUtf8-tested (codes "date") refl, refl),
    IsUtf8-date_text m.date,
    (
      (IsUtf8-tested (codes "no") refl, refl),
      IsPlain-whole m.no h.number,
      (
        (IsUtf8-tested (codes "op") refl, refl),
        IsUtf8-tested (codes "manual") refl,
        ((IsUtf8-tested (codes "sets") refl, refl), IsPlain-sets_data m.sets h.sets, tt),
      ),
    ),
  ),
)

depth-manual_frame : (m : Manual) → members_depth (manual_frame m) ≤ 5
unfolding manual_frame
depth-manual_frame m = omega (arith, depth-sets_data m.sets)

pub manual_text-back : (m : Manual) → IsManualRequest m → ReadsBack (Manual_request m)
unfolding request_data manual_members
manual_text-back m h =
    ReadsBack-members (Manual_request m) Manual_op (manual_members m) refl
    (MembersArePlain-optional m.doc m.key m.comment m.tx (record {
      number = h.doc;
      code = h.key;
      text = h.comment;
      transaction = h.no_tx;
    }) (manual_frame m) (IsPlain-manual_frame m h))
    (depth-optional m.doc m.key m.comment m.tx (manual_frame m) (depth-manual_frame m))
    (manual-asks m h.no_tx) (manual-back m h)
