-- Which request a line is, or its first fault.
use Rattle.std.specs.Prelude.{ℕ, Bool, List, Option, Some, None, option_map, option_and_then}
use Rattle.std.specs.Prelude.{Ok, Err, ◌==◌, length, if◌then◌else◌, ⊤}
use Rattle.std.specs.Str.Lossy.{utf8_valid_len}
use Rattle.serde_json.specs.Data.{Data, Members}
use Rattle.serde_json.specs.Read.{read}
use Rattle.serde_json.specs.Find.{get_member, as_object, as_str}
use Rattle.reg_base.specs.declared.line.Line.{Line}
use Rattle.reg_base.specs.declared.line.Line.TheVariants.{Text, TooLong as TooLong_line}
use Rattle.reg_base.specs.Results.{◌>>=◌, some_or, none_or}
use Rattle.desk_words.specs.declared.fault.Member.TheVariants.{Op, Kind}
use Rattle.desk_words.specs.declared.fault.WordFault.TheVariants.{TooLong, NotJson, NotObject}
use Rattle.desk_words.specs.declared.fault.WordFault.TheVariants.{UnknownOp, Missing, UnknownMember}
use Rattle.desk_words.specs.declared.members.Operation.{Operation}
use Rattle.desk_words.specs.declared.members.Operation.TheVariants.{Write as Write_op}
use Rattle.desk_words.specs.declared.members.Operation.TheVariants.{Mark as Mark_op}
use Rattle.desk_words.specs.declared.members.Operation.TheVariants.{Manual as Manual_op}
use Rattle.desk_words.specs.declared.members.Operation.TheVariants.{Activity as Activity_op}
use Rattle.desk_words.specs.declared.members.Operation.TheVariants.{Close as Close_op}
use Rattle.desk_words.specs.declared.members.Operation.TheVariants.{Sweep as Sweep_op}
use Rattle.desk_words.specs.declared.members.Operation.TheVariants.{Balance as Balance_op}
use Rattle.desk_words.specs.declared.members.Operation.TheVariants.{Doc as Doc_op}
use Rattle.desk_words.specs.declared.members.Operation.TheVariants.{Post as Post_op, PostStanding}
use Rattle.desk_words.specs.declared.members.Operation.TheVariants.{Unpost as Unpost_op}
use Rattle.desk_words.specs.declared.members.Operation.TheVariants.{Turnovers as Turnovers_op}
use Rattle.desk_words.specs.declared.members.Operation.TheVariants.{Both as Both_op}
use Rattle.desk_words.specs.declared.members.Operation.TheVariants.{AccountBalance as Held_op}
use Rattle.desk_words.specs.declared.members.Operation.TheVariants.{AccountTurnovers as Moved_op}
use Rattle.desk_words.specs.declared.members.Operation.TheVariants.{AccountBoth as Whole_op}
use Rattle.desk_words.specs.declared.members.Operation.TheVariants.{DrCr as DrCr_op}
use Rattle.desk_words.specs.declared.members.Operation.TheVariants.{Documents as Documents_op}
use Rattle.desk_words.specs.declared.request.Request.{Request}
use Rattle.desk_words.specs.declared.request.Request.TheVariants.{Write, Mark, Manual, Activity}
use Rattle.desk_words.specs.declared.request.Request.TheVariants.{Close, Sweep, Balance, Doc, Post}
use Rattle.desk_words.specs.declared.request.Request.TheVariants.{Unpost, Turnovers, Both}
use Rattle.desk_words.specs.declared.request.Request.TheVariants.{AccountBalance, AccountTurnovers}
use Rattle.desk_words.specs.declared.request.Request.TheVariants.{AccountBoth, DrCr, Documents}
use Rattle.desk_words.specs.declared.request.Post.TheVariants.{Content, Standing}
use Rattle.desk_words.specs.Members.{member_name, operation_named, required_members, first_missing}
use Rattle.desk_words.specs.Members.{first_unknown_member, has_member}
use Rattle.desk_words.specs.Shapes.{OrFault}
use Rattle.desk_words.specs.ReadRequests.{write_request, switch_request, manual_request}
use Rattle.desk_words.specs.ReadRequests.{close_request, sweep_request, doc_question}
use Rattle.desk_words.specs.ReadRequests.{standing_document, standing_post}
use Rattle.desk_words.specs.ReadTables.{balance_request, turnovers_request, both_request}
use Rattle.desk_words.specs.ReadTables.{account_balance_request, account_turnovers_request}
use Rattle.desk_words.specs.ReadTables.{dr_cr_request, documents_question}

-- the JSON value of a line, where the line is UTF-8 and `serde_json` reads it
unfoldable pub json_document : List ℕ → Option Data
json_document bytes = if utf8_valid_len bytes == length bytes then read bytes else None

abbrev operation_if : Bool → Option Data → OrFault Operation
operation_if has_kind None = Err (Missing Op)
operation_if has_kind (Some op) =
    some_or (option_and_then (operation_named has_kind) (as_str op)) UnknownOp

-- the operation that an object names
unfoldable pub operation_of : Members → OrFault Operation
operation_of object = operation_if (has_member Kind object) (get_member (member_name Op) object)

-- an object lacks none of the members that its operation asks for
unfoldable pub check_present : Operation → Members → OrFault ⊤
check_present op object = none_or (option_map Missing (first_missing (required_members op) object))

-- an object has no member but its operation's
unfoldable pub check_known : Operation → Members → OrFault ⊤
check_known op object = none_or (option_map UnknownMember (first_unknown_member op object))

-- the members, by the operation
unfoldable pub members_of : Operation → Members → OrFault Request
members_of Write_op object = write_request object >>= λ r. Ok (Write r)
members_of Mark_op object = switch_request object >>= λ r. Ok (Mark r)
members_of Manual_op object = manual_request object >>= λ r. Ok (Manual r)
members_of Activity_op object = switch_request object >>= λ r. Ok (Activity r)
members_of Close_op object = close_request object >>= λ r. Ok (Close r)
members_of Sweep_op object = sweep_request object >>= λ r. Ok (Sweep r)
members_of Balance_op object = balance_request object >>= λ r. Ok (Balance r)
members_of Doc_op object = doc_question object >>= λ r. Ok (Doc r)
members_of Post_op object = write_request object >>= λ r. Ok (Post (Content r))
members_of PostStanding object = standing_post object >>= λ r. Ok (Post (Standing r))
members_of Unpost_op object = standing_document object >>= λ r. Ok (Unpost r)
members_of Turnovers_op object = turnovers_request object >>= λ r. Ok (Turnovers r)
members_of Both_op object = both_request object >>= λ r. Ok (Both r)
members_of Held_op object = account_balance_request object >>= λ r. Ok (AccountBalance r)
members_of Moved_op object = account_turnovers_request object >>= λ r. Ok (AccountTurnovers r)
members_of Whole_op object = account_turnovers_request object >>= λ r. Ok (AccountBoth r)
members_of DrCr_op object = dr_cr_request object >>= λ r. Ok (DrCr r)
members_of Documents_op object = documents_question object >>= λ r. Ok (Documents r)

-- The request that an object is: its operation is asked first, then what it lacks, then what it
-- has too much, then each member.
unfoldable pub request_in : Members → OrFault Request
request_in object = do
  op ← operation_of object
  _ ← check_present op object
  _ ← check_known op object
  members_of op object

-- the request that the text of a line is
unfoldable pub request_of_text : List ℕ → OrFault Request
request_of_text bytes = do
  value ← some_or (json_document bytes) NotJson
  object ← some_or (as_object value) NotObject
  request_in object

-- The request that a line is, or its first fault: of the faults of `WordFault`, the one that stands
-- there first.
abbrev pub request : Line → OrFault Request
request (TooLong_line bytes) = Err (TooLong bytes)
request (Text bytes) = request_of_text bytes
