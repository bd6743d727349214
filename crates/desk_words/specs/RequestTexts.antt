-- The canonical text of a request.
use Rattle.std.specs.Prelude.{ℕ, List, ◌∷◌, Option, Some, None, option_map, map, codes}
use Rattle.serde_json.specs.Data.{Data, null, boolean, string, array, object, Members, no_members}
use Rattle.serde_json.specs.Data.{member}
use Rattle.serde_json.specs.View.{items_of}
use Rattle.serde_json.specs.Written.{compact_text}
use Rattle.reg_base.specs.Dates.{date_text}
use Rattle.reg_base.specs.declared.records.Mark.{Mark}
use Rattle.reg_base.specs.declared.records.Mark.TheVariants.{Receipt, Expense, Turn}
use Rattle.reg_base.specs.declared.records.Side.{Side}
use Rattle.desk_words.specs.declared.request.Request.{Request}
use Rattle.desk_words.specs.declared.request.Request.TheVariants.{Write as Write_request}
use Rattle.desk_words.specs.declared.request.Request.TheVariants.{Mark as Mark_request}
use Rattle.desk_words.specs.declared.request.Request.TheVariants.{Manual as Manual_request}
use Rattle.desk_words.specs.declared.request.Request.TheVariants.{Activity as Activity_request}
use Rattle.desk_words.specs.declared.request.Request.TheVariants.{Close as Close_request}
use Rattle.desk_words.specs.declared.request.Request.TheVariants.{Sweep as Sweep_request}
use Rattle.desk_words.specs.declared.request.Request.TheVariants.{Balance as Balance_request}
use Rattle.desk_words.specs.declared.request.Request.TheVariants.{Doc as Doc_request}
use Rattle.desk_words.specs.declared.request.Request.TheVariants.{Post as Post_request}
use Rattle.desk_words.specs.declared.request.Request.TheVariants.{Unpost as Unpost_request}
use Rattle.desk_words.specs.declared.request.Request.TheVariants.{Turnovers as Turnovers_request}
use Rattle.desk_words.specs.declared.request.Request.TheVariants.{Both as Both_request}
use Rattle.desk_words.specs.declared.request.Request.TheVariants.{AccountBalance as Held_request}
use Rattle.desk_words.specs.declared.request.Request.TheVariants.{AccountTurnovers as Moved_request}
use Rattle.desk_words.specs.declared.request.Request.TheVariants.{AccountBoth as Whole_request}
use Rattle.desk_words.specs.declared.request.Request.TheVariants.{DrCr as DrCr_request}
use Rattle.desk_words.specs.declared.request.Request.TheVariants.{Documents as Documents_request}
use Rattle.desk_words.specs.declared.request.Post.{Post}
use Rattle.desk_words.specs.declared.request.Post.TheVariants.{Content, Standing}
use Rattle.desk_words.specs.declared.request.Write.{Write}
use Rattle.desk_words.specs.declared.request.StandingDocument.{StandingDocument}
use Rattle.desk_words.specs.declared.request.Switch.{Switch}
use Rattle.desk_words.specs.declared.request.Manual.{Manual}
use Rattle.desk_words.specs.declared.request.Close.{Close}
use Rattle.desk_words.specs.declared.request.Sweep.{Sweep}
use Rattle.desk_words.specs.declared.request.DocQuestion.{DocQuestion}
use Rattle.desk_words.specs.declared.request.SetText.{SetText}
use Rattle.desk_words.specs.declared.request.RecordText.{RecordText}
use Rattle.desk_words.specs.declared.request.RecordText.TheVariants.{Register, Ledger}
use Rattle.desk_words.specs.declared.request.RegisterText.{RegisterText}
use Rattle.desk_words.specs.declared.request.LedgerText.{LedgerText}
use Rattle.desk_words.specs.JsonValues.{whole, texts_data, put_if}
use Rattle.desk_words.specs.FieldTexts.{fields_data, lines_data}
use Rattle.desk_words.specs.TableTexts.{balance_members, turnovers_members, both_members}
use Rattle.desk_words.specs.TableTexts.{account_balance_members, account_turnovers_members}
use Rattle.desk_words.specs.TableTexts.{dr_cr_members, documents_members}

-- the word of a mark
abbrev pub mark_name : Mark → List ℕ
mark_name Receipt = codes "receipt"
mark_name Expense = codes "expense"
mark_name Turn = codes "turn"

-- a side of a posting: the list of its account and extras, or null where it is absent
abbrev pub side_data : Option Side → Data
side_data None = null
side_data (Some side) = texts_data (side.account ∷ side.extras)

-- a record in the form of a register
unfoldable pub register_data : RegisterText → Data
register_data r =
    object (member (codes "kind") (string (mark_name r.mark))
    (member (codes "sums") (texts_data r.sums)
    (member (codes "values") (texts_data r.values) no_members)))

-- a record in the form of a ledger
unfoldable pub ledger_data : LedgerText → Data
ledger_data r =
    object (member (codes "amount") (string r.amount)
    (member (codes "credit") (side_data r.credit)
    (member (codes "debit") (side_data r.debit) no_members)))

-- a record
abbrev pub record_data : RecordText → Data
record_data (Register r) = register_data r
record_data (Ledger r) = ledger_data r

-- the records of a space
unfoldable pub set_data : SetText → Data
set_data set =
    object (member (codes "records") (array (items_of (map record_data set.records)))
    (member (codes "space") (string set.space) no_members))

-- a list of sets
unfoldable pub sets_data : List SetText → Data
sets_data sets = array (items_of (map set_data sets))

-- members, with those among them that a document may have
abbrev pub put_optional : Option ℕ → Option (List ℕ) → Option (List ℕ) → Option ℕ → Members
    → Members
put_optional doc key comment tx frame =
    put_if (codes "tx") (option_map whole tx)
    (put_if (codes "comment") (option_map string comment)
    (put_if (codes "key") (option_map string key)
    (put_if (codes "doc") (option_map whole doc) frame)))

-- the members that content always has, with the word of its operation
unfoldable pub write_frame : List ℕ → Write → Members
write_frame op w =
    member (codes "clerk") (string w.clerk)
    (member (codes "date") (string (date_text w.date))
    (member (codes "head") (fields_data w.head)
    (member (codes "kind") (string w.kind)
    (member (codes "lines") (lines_data w.lines)
    (member (codes "no") (whole w.no)
    (member (codes "op") (string op) no_members))))))

-- the members of `write` and of `post` with content, whose word is given
unfoldable pub write_members : List ℕ → Write → Members
write_members op w = put_optional w.doc w.key w.comment w.tx (write_frame op w)

-- the members of `post` and of `unpost` for a document as it stands, whose word is given
unfoldable pub standing_members : List ℕ → StandingDocument → Members
standing_members op s =
    put_if (codes "tx") (option_map whole s.tx)
    (member (codes "clerk") (string s.clerk)
    (member (codes "doc") (whole s.doc)
    (member (codes "no") (whole s.no)
    (member (codes "op") (string op) no_members))))

-- the members of `mark` and of `activity`, whose word is given
unfoldable pub switch_members : List ℕ → Switch → Members
switch_members op s =
    put_if (codes "tx") (option_map whole s.tx)
    (member (codes "clerk") (string s.clerk)
    (member (codes "doc") (whole s.doc)
    (member (codes "no") (whole s.no)
    (member (codes "on") (boolean s.on)
    (member (codes "op") (string op) no_members)))))

-- the members that `manual` always has
unfoldable pub manual_frame : Manual → Members
manual_frame m =
    member (codes "clerk") (string m.clerk)
    (member (codes "date") (string (date_text m.date))
    (member (codes "no") (whole m.no)
    (member (codes "op") (string (codes "manual"))
    (member (codes "sets") (sets_data m.sets) no_members))))

-- the members of `manual`
unfoldable pub manual_members : Manual → Members
manual_members m = put_optional m.doc m.key m.comment m.tx (manual_frame m)

-- the members of `close`
unfoldable pub close_members : Close → Members
close_members c =
    member (codes "clerk") (string c.clerk)
    (member (codes "date") (string (date_text c.date))
    (member (codes "no") (whole c.no)
    (member (codes "op") (string (codes "close")) no_members)))

-- the members of `sweep`
unfoldable pub sweep_members : Sweep → Members
sweep_members s =
    member (codes "clerk") (string s.clerk)
    (member (codes "doc") (whole s.doc)
    (member (codes "no") (whole s.no)
    (member (codes "op") (string (codes "sweep")) no_members)))

-- the members of `doc`
unfoldable pub doc_members : DocQuestion → Members
doc_members d =
    put_if (codes "tx") (option_map whole d.tx)
    (member (codes "clerk") (string d.clerk)
    (member (codes "doc") (whole d.doc)
    (member (codes "op") (string (codes "doc")) no_members)))

-- the members of `post`
abbrev pub post_members : Post → Members
post_members (Content w) = write_members (codes "post") w
post_members (Standing s) = standing_members (codes "post") s

-- a request as JSON
unfoldable pub request_data : Request → Data
request_data (Write_request w) = object (write_members (codes "write") w)
request_data (Mark_request s) = object (switch_members (codes "mark") s)
request_data (Manual_request m) = object (manual_members m)
request_data (Activity_request s) = object (switch_members (codes "activity") s)
request_data (Close_request c) = object (close_members c)
request_data (Sweep_request s) = object (sweep_members s)
request_data (Balance_request b) = object (balance_members b)
request_data (Doc_request d) = object (doc_members d)
request_data (Post_request p) = object (post_members p)
request_data (Unpost_request s) = object (standing_members (codes "unpost") s)
request_data (Turnovers_request t) = object (turnovers_members (codes "turnovers") t)
request_data (Both_request b) = object (both_members b)
request_data (Held_request a) = object (account_balance_members a)
request_data (Moved_request a) =
    object (account_turnovers_members (codes "account_turnovers") a)
request_data (Whole_request a) =
    object (account_turnovers_members (codes "account_both") a)
request_data (DrCr_request d) = object (dr_cr_members d)
request_data (Documents_request d) = object (documents_members d)

-- The canonical text of a request: compact JSON, members in byte order, dates in the long form,
-- other texts as they were given, absent members absent.
unfoldable pub request_text : Request → List ℕ
request_text request = compact_text (request_data request)
