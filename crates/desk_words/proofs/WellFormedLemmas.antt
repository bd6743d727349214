-- What a line is read as is well formed.
use Rattle.std.proofs.Common.{◌≡◌, ℕ, ◌||◌, true, Option, Some, None, IfSome, List, Result, Ok, Err}
use Rattle.std.proofs.Common.{IfOk, refl, subst}
use Rattle.std.specs.List.{AllByRecursion}
use Rattle.std.specs.Prelude.{is_none, option_map}
use Rattle.serde_json.specs.Data.{Data, null, boolean, number, string, array, object as of_members}
use Rattle.serde_json.specs.Data.{Members}
use Rattle.serde_json.specs.Find.{as_object}
use Rattle.json_laws.specs.Plain.{HasUtf8}
use Rattle.reg_base.specs.Results.{some_or, none_or, Gives}
use Rattle.reg_base.proofs.ForAbove.{IfOk-then, IfOk-next, IfOk-unless}
use Rattle.desk_words.specs.declared.fault.Member.TheVariants.{Clerk, No, Key, Kind, Date, Head}
use Rattle.desk_words.specs.declared.fault.Member.TheVariants.{Lines, On, Sets, Comment}
use Rattle.desk_words.specs.declared.fault.Member.TheVariants.{Doc as Doc_word}
use Rattle.desk_words.specs.declared.fault.WordFault.{WordFault}
use Rattle.desk_words.specs.declared.fault.WordFault.TheVariants.{BadMember, NotJson, Memory}
use Rattle.desk_words.specs.declared.members.Operation.{Operation}
use Rattle.desk_words.specs.declared.members.Operation.TheVariants.{Write as Write_op}
use Rattle.desk_words.specs.declared.members.Operation.TheVariants.{Mark as Mark_op}
use Rattle.desk_words.specs.declared.members.Operation.TheVariants.{Manual as Manual_op}
use Rattle.desk_words.specs.declared.members.Operation.TheVariants.{Activity as Activity_op}
use Rattle.desk_words.specs.declared.members.Operation.TheVariants.{Close as Close_op}
use Rattle.desk_words.specs.declared.members.Operation.TheVariants.{Sweep as Sweep_op}
use Rattle.desk_words.specs.declared.members.Operation.TheVariants.{Balance as Balance_op}
use Rattle.desk_words.specs.declared.members.Operation.TheVariants.{Doc as Doc_op}
use Rattle.desk_words.specs.declared.members.Operation.TheVariants.{Post as Post_op, PostStanding}
use Rattle.desk_words.specs.declared.members.Operation.TheVariants.{Unpost as Unpost_op}
use Rattle.desk_words.specs.declared.members.Operation.TheVariants.{Turnovers as Turnovers_op}
use Rattle.desk_words.specs.declared.members.Operation.TheVariants.{Both as Both_op}
use Rattle.desk_words.specs.declared.members.Operation.TheVariants.{AccountBalance as Held_op}
use Rattle.desk_words.specs.declared.members.Operation.TheVariants.{AccountTurnovers as Moved_op}
use Rattle.desk_words.specs.declared.members.Operation.TheVariants.{AccountBoth as Whole_op}
use Rattle.desk_words.specs.declared.members.Operation.TheVariants.{DrCr as DrCr_op}
use Rattle.desk_words.specs.declared.members.Operation.TheVariants.{Documents as Documents_op}
use Rattle.desk_words.specs.declared.read_requests.Heading.{Heading}
use Rattle.desk_words.specs.declared.request.Request.{Request}
use Rattle.desk_words.specs.declared.request.Request.TheVariants.{Write as Write_request}
use Rattle.desk_words.specs.declared.request.Request.TheVariants.{Mark as Mark_request}
use Rattle.desk_words.specs.declared.request.Request.TheVariants.{Manual as Manual_request}
use Rattle.desk_words.specs.declared.request.Request.TheVariants.{Activity as Activity_request}
use Rattle.desk_words.specs.declared.request.Request.TheVariants.{Close as Close_request}
use Rattle.desk_words.specs.declared.request.Request.TheVariants.{Sweep as Sweep_request}
use Rattle.desk_words.specs.declared.request.Request.TheVariants.{Balance as Balance_request}
use Rattle.desk_words.specs.declared.request.Request.TheVariants.{Doc as Doc_request}
use Rattle.desk_words.specs.declared.request.Request.TheVariants.{Post as Post_request}
use Rattle.desk_words.specs.declared.request.Request.TheVariants.{Unpost as Unpost_request}
use Rattle.desk_words.specs.declared.request.Request.TheVariants.{Turnovers as Turnovers_request}
use Rattle.desk_words.specs.declared.request.Request.TheVariants.{Both as Both_request}
use Rattle.desk_words.specs.declared.request.Request.TheVariants.{AccountBalance as Held_request}
use Rattle.desk_words.specs.declared.request.Request.TheVariants.{AccountTurnovers as Moved_request}
use Rattle.desk_words.specs.declared.request.Request.TheVariants.{AccountBoth as Whole_request}
use Rattle.desk_words.specs.declared.request.Request.TheVariants.{DrCr as DrCr_request}
use Rattle.desk_words.specs.declared.request.Request.TheVariants.{Documents as Documents_request}
use Rattle.desk_words.specs.declared.request.Post.TheVariants.{Content, Standing}
use Rattle.desk_words.specs.Members.{content_members, first_present}
use Rattle.desk_words.specs.Shapes.{required_at, json_name, json_code, json_number, json_date}
use Rattle.desk_words.specs.Shapes.{json_boolean, json_comment}
use Rattle.desk_words.specs.Sets.{json_sets}
use Rattle.desk_words.specs.Fields.{json_fields, json_lines}
use Rattle.desk_words.specs.ReadRequests.{key_beside, heading_of, write_request, switch_request}
use Rattle.desk_words.specs.ReadRequests.{manual_request, close_request, sweep_request}
use Rattle.desk_words.specs.ReadRequests.{doc_question, standing_document}
use Rattle.desk_words.specs.ReadRequests.{standing_post}
use Rattle.desk_words.specs.ReadTables.{balance_request, turnovers_request, both_request}
use Rattle.desk_words.specs.ReadTables.{account_balance_request, account_turnovers_request}
use Rattle.desk_words.specs.ReadTables.{dr_cr_request, documents_question}
use Rattle.desk_words.specs.Reading.{json_document, operation_of, check_present, check_known}
use Rattle.desk_words.specs.Reading.{members_of, request_in}
use Rattle.desk_words.specs.WellFormedParts.{IsName, IsCode, IsNumber, IsDate, IsComment}
use Rattle.desk_words.specs.WellFormedTables.{IsBalanceRequest, IsTurnovers, IsBoth}
use Rattle.desk_words.specs.WellFormedTables.{IsAccountBalance, IsAccountTurnovers, IsDrCr}
use Rattle.desk_words.specs.WellFormedTables.{IsDocumentsQuestion}
use Rattle.desk_words.specs.WellFormed.{AreFields, IsSetText, IsWriteRequest, IsSwitch}
use Rattle.desk_words.specs.WellFormed.{IsManualRequest, IsCloseRequest, IsSweepRequest}
use Rattle.desk_words.specs.WellFormed.{IsDocQuestion, IsStandingDocument, IsRequest}
use Rattle.desk_words.proofs.OrderLemmas.{NamesAscend, json_document-ascends}
use Rattle.desk_words.proofs.ReadValues.{IsRead, AreRead}
use Rattle.desk_words.proofs.ShapeLemmas.{json_name-IsName, json_code-IsCode, json_date-IsDate}
use Rattle.desk_words.proofs.ShapeLemmas.{json_number-IsNumber}
use Rattle.desk_words.proofs.ShapeLemmas.{json_comment-IsComment, json_sets-Is, json_fields-Are}
use Rattle.desk_words.proofs.ShapeLemmas.{json_lines-Are}
use Rattle.desk_words.proofs.TableLemmas.{asked, allowed, balance_request-Is, turnovers_request-Is}
use Rattle.desk_words.proofs.TableLemmas.{both_request-Is, account_balance_request-Is}
use Rattle.desk_words.proofs.TableLemmas.{account_turnovers_request-Is, dr_cr_request-Is}
use Rattle.desk_words.proofs.TableLemmas.{documents_question-Is}

-- ---- a document's number and its key

abbrev IsKeyBeside : Option ℕ → Option (List ℕ) → Type 0
IsKeyBeside doc key = IfSome key IsCode × IfSome doc (λ _. key ≡ None)

stands_alone : (doc : Option ℕ) (key : Option (List ℕ)) → (is_none doc || is_none key) ≡ true
    → IfSome doc (λ _. key ≡ None)
stands_alone None key h = tt
stands_alone (Some n) None h = refl
stands_alone (Some n) (Some key) h = absurd cc

key_beside-Is : (doc : Option ℕ) (object : Members) → AreRead object
    → IfOk (key_beside doc object) (IsKeyBeside doc)
unfolding key_beside
key_beside-Is doc object h =
    allowed IsCode (IsKeyBeside doc) json_code json_code-IsCode Key object h _ (λ key k.
    IfOk-unless (IsKeyBeside doc) (is_none doc || is_none key) (BadMember Key) (λ _. Ok key)
    (λ is. (k, stands_alone doc key is)))

-- whose request it is, and which document it is of
record IsHeading (given : Heading) : Type 0 where
  clerk : IsName given.clerk
  number : IsNumber given.no
  doc : IfSome given.doc IsNumber
  key : IsKeyBeside given.doc given.key

heading-Is : (object : Members) → AreRead object → IfOk (heading_of object) IsHeading
unfolding heading_of
heading-Is object h =
    asked IsName IsHeading json_name json_name-IsName Clerk object h _ (λ clerk c.
    asked IsNumber IsHeading json_number json_number-IsNumber No object h _ (λ nr n.
    allowed IsNumber IsHeading json_number json_number-IsNumber Doc_word object h _ (λ doc d.
    IfOk-then (IsKeyBeside doc) IsHeading (key_beside doc object) _
    (key_beside-Is doc object h) (λ key k. record {
      clerk = c;
      number = n;
      doc = d;
      key = k;
    }))))

-- ---- requests

write_request-Is : (object : Members) → AreRead object → IfOk (write_request object) IsWriteRequest
unfolding write_request
write_request-Is object h =
    IfOk-then IsHeading IsWriteRequest (heading_of object) _ (heading-Is object h) (λ given g.
    asked IsName IsWriteRequest json_name json_name-IsName Kind object h _ (λ kind l.
    asked IsDate IsWriteRequest json_date json_date-IsDate Date object h _ (λ date t.
    asked AreFields IsWriteRequest json_fields json_fields-Are Head object h _ (λ head f.
    asked (AllByRecursion AreFields) IsWriteRequest json_lines json_lines-Are Lines object h _
    (λ lines fs.
    allowed IsComment IsWriteRequest json_comment json_comment-IsComment Comment object h _
    (λ comment m. record {
      clerk = g.clerk;
      number = g.number;
      doc = g.doc;
      key = g.key.0;
      alone = g.key.1;
      kind = l;
      date = t;
      head = f;
      lines = fs;
      comment = m;
      no_tx = refl;
    }))))))

standing_document-Is : (object : Members) → AreRead object
    → IfOk (standing_document object) IsStandingDocument
unfolding standing_document
standing_document-Is object h =
    asked IsName IsStandingDocument json_name json_name-IsName Clerk object h _ (λ clerk c.
    asked IsNumber IsStandingDocument json_number json_number-IsNumber No object h _ (λ nr n.
    asked IsNumber IsStandingDocument json_number json_number-IsNumber Doc_word object h _ (λ doc d.
    record {
      clerk = c;
      number = n;
      doc = d;
      no_tx = refl;
    })))

standing_post-Is : (object : Members) → AreRead object
    → IfOk (standing_post object) IsStandingDocument
unfolding standing_post
standing_post-Is object h =
    IfOk-then IsStandingDocument IsStandingDocument (standing_document object) _
    (standing_document-Is object h) (λ standing s.
    IfOk-next IsStandingDocument
    (none_or (option_map BadMember (first_present content_members object)))
    (λ _. Ok standing) (λ _. s))

switch_request-Is : (object : Members) → AreRead object → IfOk (switch_request object) IsSwitch
unfolding switch_request
switch_request-Is object h =
    IfOk-then IsStandingDocument IsSwitch (standing_document object) _
    (standing_document-Is object h) (λ standing s.
    IfOk-next IsSwitch (required_at json_boolean On object) _ (λ on. record {
      clerk = s.clerk;
      number = s.number;
      doc = s.doc;
      no_tx = refl;
    }))

manual_request-Is : (object : Members) → AreRead object
    → IfOk (manual_request object) IsManualRequest
unfolding manual_request
manual_request-Is object h =
    IfOk-then IsHeading IsManualRequest (heading_of object) _ (heading-Is object h) (λ given g.
    asked IsDate IsManualRequest json_date json_date-IsDate Date object h _ (λ date t.
    asked (AllByRecursion IsSetText) IsManualRequest json_sets json_sets-Is Sets object h _
    (λ sets s.
    allowed IsComment IsManualRequest json_comment json_comment-IsComment Comment object h _
    (λ comment m. record {
      clerk = g.clerk;
      number = g.number;
      doc = g.doc;
      key = g.key.0;
      alone = g.key.1;
      date = t;
      sets = s;
      comment = m;
      no_tx = refl;
    }))))

close_request-Is : (object : Members) → AreRead object → IfOk (close_request object) IsCloseRequest
unfolding close_request
close_request-Is object h =
    asked IsName IsCloseRequest json_name json_name-IsName Clerk object h _ (λ clerk c.
    asked IsNumber IsCloseRequest json_number json_number-IsNumber No object h _ (λ nr n.
    asked IsDate IsCloseRequest json_date json_date-IsDate Date object h _ (λ date t. record {
      clerk = c;
      number = n;
      date = t;
    })))

sweep_request-Is : (object : Members) → AreRead object → IfOk (sweep_request object) IsSweepRequest
unfolding sweep_request
sweep_request-Is object h =
    IfOk-then IsStandingDocument IsSweepRequest (standing_document object) _
    (standing_document-Is object h) (λ standing s. record {
      clerk = s.clerk;
      number = s.number;
      doc = s.doc;
    })

doc_question-Is : (object : Members) → AreRead object → IfOk (doc_question object) IsDocQuestion
unfolding doc_question
doc_question-Is object h =
    asked IsName IsDocQuestion json_name json_name-IsName Clerk object h _ (λ clerk c.
    asked IsNumber IsDocQuestion json_number json_number-IsNumber Doc_word object h _ (λ doc d.
    record {
      clerk = c;
      doc = d;
      no_tx = refl;
    }))

members_of-Is : (op : Operation) (object : Members) → AreRead object
    → IfOk (members_of op object) IsRequest
unfolding members_of
members_of-Is Write_op object h =
    IfOk-then IsWriteRequest IsRequest (write_request object) (λ r. Ok (Write_request r))
    (write_request-Is object h) (λ r is. is)
members_of-Is Mark_op object h =
    IfOk-then IsSwitch IsRequest (switch_request object) (λ r. Ok (Mark_request r))
    (switch_request-Is object h) (λ r is. is)
members_of-Is Manual_op object h =
    IfOk-then IsManualRequest IsRequest (manual_request object) (λ r. Ok (Manual_request r))
    (manual_request-Is object h) (λ r is. is)
members_of-Is Activity_op object h =
    IfOk-then IsSwitch IsRequest (switch_request object) (λ r. Ok (Activity_request r))
    (switch_request-Is object h) (λ r is. is)
members_of-Is Close_op object h =
    IfOk-then IsCloseRequest IsRequest (close_request object) (λ r. Ok (Close_request r))
    (close_request-Is object h) (λ r is. is)
members_of-Is Sweep_op object h =
    IfOk-then IsSweepRequest IsRequest (sweep_request object) (λ r. Ok (Sweep_request r))
    (sweep_request-Is object h) (λ r is. is)
members_of-Is Balance_op object h =
    IfOk-then IsBalanceRequest IsRequest (balance_request object) (λ r. Ok (Balance_request r))
    (balance_request-Is object h) (λ r is. is)
members_of-Is Doc_op object h =
    IfOk-then IsDocQuestion IsRequest (doc_question object) (λ r. Ok (Doc_request r))
    (doc_question-Is object h) (λ r is. is)
members_of-Is Post_op object h =
    IfOk-then IsWriteRequest IsRequest (write_request object) (λ r. Ok (Post_request (Content r)))
    (write_request-Is object h) (λ r is. is)
members_of-Is PostStanding object h =
    IfOk-then IsStandingDocument IsRequest (standing_post object)
    (λ r. Ok (Post_request (Standing r))) (standing_post-Is object h) (λ r is. is)
members_of-Is Unpost_op object h =
    IfOk-then IsStandingDocument IsRequest (standing_document object)
    (λ r. Ok (Unpost_request r)) (standing_document-Is object h) (λ r is. is)
members_of-Is Turnovers_op object h =
    IfOk-then IsTurnovers IsRequest (turnovers_request object) (λ r. Ok (Turnovers_request r))
    (turnovers_request-Is object h) (λ r is. is)
members_of-Is Both_op object h =
    IfOk-then IsBoth IsRequest (both_request object) (λ r. Ok (Both_request r))
    (both_request-Is object h) (λ r is. is)
members_of-Is Held_op object h =
    IfOk-then IsAccountBalance IsRequest (account_balance_request object)
    (λ r. Ok (Held_request r)) (account_balance_request-Is object h) (λ r is. is)
members_of-Is Moved_op object h =
    IfOk-then IsAccountTurnovers IsRequest (account_turnovers_request object)
    (λ r. Ok (Moved_request r)) (account_turnovers_request-Is object h) (λ r is. is)
members_of-Is Whole_op object h =
    IfOk-then IsAccountTurnovers IsRequest (account_turnovers_request object)
    (λ r. Ok (Whole_request r)) (account_turnovers_request-Is object h) (λ r is. is)
members_of-Is DrCr_op object h =
    IfOk-then IsDrCr IsRequest (dr_cr_request object) (λ r. Ok (DrCr_request r))
    (dr_cr_request-Is object h) (λ r is. is)
members_of-Is Documents_op object h =
    IfOk-then IsDocumentsQuestion IsRequest (documents_question object)
    (λ r. Ok (Documents_request r)) (documents_question-Is object h) (λ r is. is)

request_in-Is : (object : Members) → AreRead object → IfOk (request_in object) IsRequest
unfolding request_in
request_in-Is object h =
    IfOk-next IsRequest (operation_of object) _ (λ op.
    IfOk-next IsRequest (check_present op object) _ (λ _.
    IfOk-next IsRequest (check_known op object) _ (λ _. members_of-Is op object h)))

-- where the definition's value has P, so has what a call gives
pub IfOk-Gives : {X : Type 0} (P : X → Type 0) (given definition : Result X WordFault)
    → Gives Memory given definition → IfOk definition P → IfOk given P
IfOk-Gives P (Ok x) definition is h = rw is at h
IfOk-Gives P (Err fault) definition is h = tt

-- where some value has P, this value has it
given_value : {X : Type 0} (P : X → Type 0) (o : Option X) (x : X) → o ≡ Some x → IfSome o P → P x
given_value P o x is h = rw is at h

-- an object that a line is: its texts are UTF-8, and its names ascend
object-AreRead : (d : Data) (ms : Members) → as_object d ≡ Some ms → IsRead d → AreRead ms
object-AreRead null ms is h = absurd cc
object-AreRead (boolean b) ms is h = absurd cc
object-AreRead (number n) ms is h = absurd cc
object-AreRead (string s) ms is h = absurd cc
object-AreRead (array ds) ms is h = absurd cc
object-AreRead (of_members ns) ms is h = let same : ns ≡ ms = cc in subst AreRead same h

-- what an object that a line is is read as
pub given_of-object : (given : Result Request WordFault) (bytes : List ℕ) (d : Data) (ms : Members)
    → json_document bytes ≡ Some d → as_object d ≡ Some ms → HasUtf8 d
    → Gives Memory given (request_in ms) → IfOk given IsRequest
given_of-object given bytes d ms read_as object_is utf8 is =
    let ascend : NamesAscend d = given_value NamesAscend (json_document bytes) d read_as
    (json_document-ascends bytes) in
    IfOk-Gives IsRequest given (request_in ms) is
    (request_in-Is ms (object-AreRead d ms object_is (utf8, ascend)))

-- the value that a call gave is that of the line
pub document_is : (bytes : List ℕ) (d : Data) → some_or (json_document bytes) NotJson ≡ Ok d
    → json_document bytes ≡ Some d
document_is bytes d is = at (json_document bytes) is
  where
    at : (o : Option Data) → some_or o NotJson ≡ Ok d → o ≡ Some d
    at None is = absurd cc
    at (Some e) is = cc
