-- Requests as they are read: names are names, numbers in range, texts UTF-8.
use Rattle.std.specs.Prelude.{◌≡◌, ℕ, None, IfSome, List, map}
use Rattle.std.specs.Cmp.Lexicographic.{slice_cmp}
use Rattle.std.specs.List.{AllByRecursion}
use Rattle.std.specs.List.Sorted.{IsStrictlySortedBy}
use Rattle.std.specs.Ordering.{nat_cmp}
use Rattle.std.specs.Str.{IsUtf8}
use Rattle.reg_base.specs.declared.records.Side.{Side}
use Rattle.desk_words.specs.declared.request.Request.{Request}
use Rattle.desk_words.specs.declared.request.Request.TheVariants.{Write as Write_request}
use Rattle.desk_words.specs.declared.request.Request.TheVariants.{Mark as Mark_request}
use Rattle.desk_words.specs.declared.request.Request.TheVariants.{Manual as Manual_request}
use Rattle.desk_words.specs.declared.request.Request.TheVariants.{Activity as Activity_request}
use Rattle.desk_words.specs.declared.request.Request.TheVariants.{Close as Close_request}
use Rattle.desk_words.specs.declared.request.Request.TheVariants.{Sweep as Sweep_request}
use Rattle.desk_words.specs.declared.request.Request.TheVariants.{Balance as Balance_request}
use Rattle.desk_words.specs.declared.request.Request.TheVariants.{Doc as Doc_request}
use Rattle.desk_words.specs.declared.request.Request.TheVariants.{Post as Post_request}
use Rattle.desk_words.specs.declared.request.Request.TheVariants.{Unpost as Unpost_request}
use Rattle.desk_words.specs.declared.request.Request.TheVariants.{Turnovers as Turnovers_request}
use Rattle.desk_words.specs.declared.request.Request.TheVariants.{Both as Both_request}
use Rattle.desk_words.specs.declared.request.Request.TheVariants.{AccountBalance as Held_request}
use Rattle.desk_words.specs.declared.request.Request.TheVariants.{AccountTurnovers as Moved_request}
use Rattle.desk_words.specs.declared.request.Request.TheVariants.{AccountBoth as Whole_request}
use Rattle.desk_words.specs.declared.request.Request.TheVariants.{DrCr as DrCr_request}
use Rattle.desk_words.specs.declared.request.Request.TheVariants.{Documents as Documents_request}
use Rattle.desk_words.specs.declared.request.Post.{Post}
use Rattle.desk_words.specs.declared.request.Post.TheVariants.{Content, Standing}
use Rattle.desk_words.specs.declared.request.Write.{Write}
use Rattle.desk_words.specs.declared.request.StandingDocument.{StandingDocument}
use Rattle.desk_words.specs.declared.request.Switch.{Switch}
use Rattle.desk_words.specs.declared.request.Manual.{Manual}
use Rattle.desk_words.specs.declared.request.Close.{Close}
use Rattle.desk_words.specs.declared.request.Sweep.{Sweep}
use Rattle.desk_words.specs.declared.request.DocQuestion.{DocQuestion}
use Rattle.desk_words.specs.declared.request.FieldText.{FieldText}
use Rattle.desk_words.specs.declared.request.SetText.{SetText}
use Rattle.desk_words.specs.declared.request.RecordText.{RecordText}
use Rattle.desk_words.specs.declared.request.RecordText.TheVariants.{Register, Ledger}
use Rattle.desk_words.specs.declared.request.RegisterText.{RegisterText}
use Rattle.desk_words.specs.declared.request.LedgerText.{LedgerText}
use Rattle.desk_words.specs.WellFormedParts.{IsName, IsCode, IsNumber, IsDate, IsComment}
use Rattle.desk_words.specs.WellFormedTables.{IsBalanceRequest, IsTurnovers, IsBoth}
use Rattle.desk_words.specs.WellFormedTables.{IsAccountBalance, IsAccountTurnovers, IsDrCr}
use Rattle.desk_words.specs.WellFormedTables.{IsDocumentsQuestion}

-- a text of a name
abbrev pub IsFieldText : FieldText → Type 0
IsFieldText field = IsName field.name × IsUtf8 field.text

-- the names of fields
abbrev pub field_names : List FieldText → List (List ℕ)
field_names fields = map (λ field. field.name) fields

-- fields in byte order of their names, each once
abbrev pub AreFields : List FieldText → Type 0
AreFields fields =
    AllByRecursion IsFieldText fields × IsStrictlySortedBy (slice_cmp nat_cmp) (field_names fields)

-- an account and extras that are codes
abbrev pub IsSide : Side → Type 0
IsSide side = IsCode side.account × AllByRecursion IsCode side.extras

-- texts in the form of a register
abbrev pub IsRegisterText : RegisterText → Type 0
IsRegisterText r = AllByRecursion IsUtf8 r.sums × AllByRecursion IsUtf8 r.values

-- texts in the form of a ledger
abbrev pub IsLedgerText : LedgerText → Type 0
IsLedgerText r = IsUtf8 r.amount × IfSome r.credit IsSide × IfSome r.debit IsSide

abbrev pub IsRecordText : RecordText → Type 0
IsRecordText (Register r) = IsRegisterText r
IsRecordText (Ledger r) = IsLedgerText r

abbrev pub IsSetText : SetText → Type 0
IsSetText set = IsName set.space × AllByRecursion IsRecordText set.records

-- the members of content that are built are well formed, and the others absent
pub record IsWriteRequest (w : Write) : Type 0 where
  pub clerk : IsName w.clerk
  pub number : IsNumber w.no
  pub doc : IfSome w.doc IsNumber
  pub key : IfSome w.key IsCode
  pub alone : IfSome w.doc (λ _. w.key ≡ None)
  pub kind : IsName w.kind
  pub date : IsDate w.date
  pub head : AreFields w.head
  pub lines : AllByRecursion AreFields w.lines
  pub comment : IfSome w.comment IsComment
  pub no_tx : w.tx ≡ None

-- the members for a document as it stands that are built are well formed, and the others absent
pub record IsStandingDocument (s : StandingDocument) : Type 0 where
  pub clerk : IsName s.clerk
  pub number : IsNumber s.no
  pub doc : IsNumber s.doc
  pub no_tx : s.tx ≡ None

-- the members of `post` that are built are well formed, and the others absent
abbrev pub IsPost : Post → Type 0
IsPost (Content w) = IsWriteRequest w
IsPost (Standing s) = IsStandingDocument s

-- the members of a switch that are built are well formed, and the others absent
pub record IsSwitch (s : Switch) : Type 0 where
  pub clerk : IsName s.clerk
  pub number : IsNumber s.no
  pub doc : IsNumber s.doc
  pub no_tx : s.tx ≡ None

-- the members of `manual` that are built are well formed, and the others absent
pub record IsManualRequest (m : Manual) : Type 0 where
  pub clerk : IsName m.clerk
  pub number : IsNumber m.no
  pub doc : IfSome m.doc IsNumber
  pub key : IfSome m.key IsCode
  pub alone : IfSome m.doc (λ _. m.key ≡ None)
  pub date : IsDate m.date
  pub sets : AllByRecursion IsSetText m.sets
  pub comment : IfSome m.comment IsComment
  pub no_tx : m.tx ≡ None

-- the members of `close` are well formed
pub record IsCloseRequest (c : Close) : Type 0 where
  pub clerk : IsName c.clerk
  pub number : IsNumber c.no
  pub date : IsDate c.date

-- the members of `sweep` are well formed
pub record IsSweepRequest (s : Sweep) : Type 0 where
  pub clerk : IsName s.clerk
  pub number : IsNumber s.no
  pub doc : IsNumber s.doc

-- the members of `doc` that are built are well formed, and the others absent
pub record IsDocQuestion (d : DocQuestion) : Type 0 where
  pub clerk : IsName d.clerk
  pub doc : IsNumber d.doc
  pub no_tx : d.tx ≡ None

-- a request that a line can be
abbrev pub IsRequest : Request → Type 0
IsRequest (Write_request w) = IsWriteRequest w
IsRequest (Mark_request s) = IsSwitch s
IsRequest (Manual_request m) = IsManualRequest m
IsRequest (Activity_request s) = IsSwitch s
IsRequest (Close_request c) = IsCloseRequest c
IsRequest (Sweep_request s) = IsSweepRequest s
IsRequest (Balance_request b) = IsBalanceRequest b
IsRequest (Doc_request d) = IsDocQuestion d
IsRequest (Post_request p) = IsPost p
IsRequest (Unpost_request s) = IsStandingDocument s
IsRequest (Turnovers_request t) = IsTurnovers t
IsRequest (Both_request b) = IsBoth b
IsRequest (Held_request a) = IsAccountBalance a
IsRequest (Moved_request a) = IsAccountTurnovers a
IsRequest (Whole_request a) = IsAccountTurnovers a
IsRequest (DrCr_request d) = IsDrCr d
IsRequest (Documents_request d) = IsDocumentsQuestion d
