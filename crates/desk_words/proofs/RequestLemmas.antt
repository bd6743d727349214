-- A request has no float, so that its text is known.
use Rattle.std.proofs.Common.{◌≡◌, ℕ, false, Option, Some, None, option_map, List, ◌∷◌}
use Rattle.std.proofs.Common.{codes, refl}
use Rattle.serde_json.specs.Data.{Data, boolean, string, Members, no_members}
use Rattle.serde_json.specs.Written.{has_float, members_have_float}
use Rattle.reg_base.specs.declared.cut.Cut.{Cut}
use Rattle.reg_base.specs.declared.records.Side.{Side}
use Rattle.reg_base.specs.declared.tables.Periodicity.{Periodicity}
use Rattle.desk_words.specs.declared.request.Request.{Request}
use Rattle.desk_words.specs.declared.request.Request.TheVariants.{Write as Write_request}
use Rattle.desk_words.specs.declared.request.Request.TheVariants.{Mark as Mark_request}
use Rattle.desk_words.specs.declared.request.Request.TheVariants.{Manual as Manual_request}
use Rattle.desk_words.specs.declared.request.Request.TheVariants.{Activity as Activity_request}
use Rattle.desk_words.specs.declared.request.Request.TheVariants.{Close as Close_request}
use Rattle.desk_words.specs.declared.request.Request.TheVariants.{Sweep as Sweep_request}
use Rattle.desk_words.specs.declared.request.Request.TheVariants.{Balance as Balance_request}
use Rattle.desk_words.specs.declared.request.Request.TheVariants.{Doc as Doc_request}
use Rattle.desk_words.specs.declared.request.Request.TheVariants.{Post as Post_request}
use Rattle.desk_words.specs.declared.request.Request.TheVariants.{Unpost as Unpost_request}
use Rattle.desk_words.specs.declared.request.Request.TheVariants.{Turnovers as Turnovers_request}
use Rattle.desk_words.specs.declared.request.Request.TheVariants.{Both as Both_request}
use Rattle.desk_words.specs.declared.request.Request.TheVariants.{AccountBalance as Held_request}
use Rattle.desk_words.specs.declared.request.Request.TheVariants.{AccountTurnovers as Moved_request}
use Rattle.desk_words.specs.declared.request.Request.TheVariants.{AccountBoth as Whole_request}
use Rattle.desk_words.specs.declared.request.Request.TheVariants.{DrCr as DrCr_request}
use Rattle.desk_words.specs.declared.request.Request.TheVariants.{Documents as Documents_request}
use Rattle.desk_words.specs.declared.request.Post.TheVariants.{Content, Standing}
use Rattle.desk_words.specs.declared.request.StandingDocument.{StandingDocument}
use Rattle.desk_words.specs.declared.request.Write.{Write}
use Rattle.desk_words.specs.declared.request.Switch.{Switch}
use Rattle.desk_words.specs.declared.request.Manual.{Manual}
use Rattle.desk_words.specs.declared.request.Balance.{Balance}
use Rattle.desk_words.specs.declared.request.DocQuestion.{DocQuestion}
use Rattle.desk_words.specs.declared.request.SetText.{SetText}
use Rattle.desk_words.specs.declared.request.FilterText.{FilterText}
use Rattle.desk_words.specs.declared.request.RecordText.{RecordText}
use Rattle.desk_words.specs.declared.request.RecordText.TheVariants.{Register, Ledger}
use Rattle.desk_words.specs.declared.tables.AskedRegister.{AskedRegister}
use Rattle.desk_words.specs.declared.tables.AskedAccounts.{AskedAccounts}
use Rattle.desk_words.specs.declared.tables.AskedDates.{AskedDates}
use Rattle.desk_words.specs.declared.tables.Turnovers.{Turnovers}
use Rattle.desk_words.specs.declared.tables.Both.{Both}
use Rattle.desk_words.specs.declared.tables.AccountBalance.{AccountBalance}
use Rattle.desk_words.specs.declared.tables.AccountTurnovers.{AccountTurnovers}
use Rattle.desk_words.specs.declared.tables.DrCr.{DrCr}
use Rattle.desk_words.specs.declared.tables.DocumentsQuestion.{DocumentsQuestion}
use Rattle.desk_words.specs.JsonValues.{whole, texts_data, put_if}
use Rattle.desk_words.specs.RequestTexts.{side_data, register_data, ledger_data, record_data}
use Rattle.desk_words.specs.RequestTexts.{set_data, sets_data}
use Rattle.desk_words.specs.RequestTexts.{put_optional, write_frame, write_members}
use Rattle.desk_words.specs.RequestTexts.{standing_members, switch_members, manual_frame}
use Rattle.desk_words.specs.RequestTexts.{manual_members, close_members, sweep_members}
use Rattle.desk_words.specs.RequestTexts.{doc_members, request_data}
use Rattle.desk_words.specs.TableTexts.{by_data, method_data, date_data, cut_data, filters_data}
use Rattle.desk_words.specs.TableTexts.{put_register, put_accounts, put_dates, balance_members}
use Rattle.desk_words.specs.TableTexts.{turnovers_members, both_members, account_balance_members}
use Rattle.desk_words.specs.TableTexts.{account_turnovers_members, dr_cr_members, documents_members}
use Rattle.desk_words.proofs.JsonLemmas.{items_have_float-each, has_float-texts_data}
use Rattle.desk_words.proofs.JsonLemmas.{members_have_float-put, members_have_float-named}
use Rattle.desk_words.proofs.JsonLemmas.{has_float-fields_data}
use Rattle.desk_words.proofs.JsonLemmas.{has_float-lines_data}

-- members with one more, where it is there, have none
members_have_float-put_if : {X : Type 0} (name : List ℕ) (data_of : X
    → Data) (value : Option X) (ms : Members) → ((x : X) → has_float (data_of x) ≡ false)
    → members_have_float ms ≡ false
    → members_have_float (put_if name (option_map data_of value) ms) ≡ false
members_have_float-put_if name data_of None ms none h = h
members_have_float-put_if name data_of (Some x) ms none h =
    members_have_float-put name (data_of x) ms (none x) h

has_float-side_data : (side : Option Side) → has_float (side_data side) ≡ false
has_float-side_data None = refl
has_float-side_data (Some side) = has_float-texts_data (side.account ∷ side.extras)

has_float-record_data : (given : RecordText) → has_float (record_data given) ≡ false
unfolding register_data ledger_data
has_float-record_data (Register r) = rw (has_float-texts_data r.sums, has_float-texts_data r.values)
has_float-record_data (Ledger r) = rw (has_float-side_data r.credit, has_float-side_data r.debit)

has_float-set_data : (set : SetText) → has_float (set_data set) ≡ false
unfolding set_data
has_float-set_data set = rw (items_have_float-each record_data has_float-record_data set.records)

-- sets have none
pub has_float-sets_data : (sets : List SetText) → has_float (sets_data sets) ≡ false
unfolding sets_data
has_float-sets_data sets = items_have_float-each set_data has_float-set_data sets

members_have_float-optional : (doc : Option ℕ) (key comment : Option (List ℕ)) (tx : Option ℕ)
    → (frame : Members) → members_have_float frame ≡ false
    → members_have_float (put_optional doc key comment tx frame) ≡ false
members_have_float-optional doc key comment tx frame h =
    members_have_float-put_if (codes "tx") whole tx _ (λ n. refl)
    (members_have_float-put_if (codes "comment") string comment _ (λ s. refl)
    (members_have_float-put_if (codes "key") string key _ (λ s. refl)
    (members_have_float-put_if (codes "doc") whole doc _ (λ n. refl) h)))

members_have_float-write : (op : List ℕ) (w : Write)
    → members_have_float (write_members op w) ≡ false
unfolding write_members write_frame
members_have_float-write op w =
    members_have_float-optional w.doc w.key w.comment w.tx (write_frame op w)
    (rw (has_float-fields_data w.head, has_float-lines_data w.lines))

members_have_float-standing : (op : List ℕ) (s : StandingDocument)
    → members_have_float (standing_members op s) ≡ false
unfolding standing_members
members_have_float-standing op s =
    members_have_float-put_if (codes "tx") whole s.tx _ (λ n. refl) refl

members_have_float-switch : (op : List ℕ) (s : Switch)
    → members_have_float (switch_members op s) ≡ false
unfolding switch_members
members_have_float-switch op s =
    members_have_float-put_if (codes "tx") whole s.tx _ (λ n. refl) refl

members_have_float-doc : (d : DocQuestion) → members_have_float (doc_members d) ≡ false
unfolding doc_members
members_have_float-doc d = members_have_float-put_if (codes "tx") whole d.tx _ (λ n. refl) refl

members_have_float-manual : (m : Manual) → members_have_float (manual_members m) ≡ false
unfolding manual_members manual_frame
members_have_float-manual m =
    members_have_float-optional m.doc m.key m.comment m.tx (manual_frame m)
    (rw (has_float-sets_data m.sets))

-- ---- tables

has_float-filters_data : (filters : List FilterText) → has_float (filters_data filters) ≡ false
has_float-filters_data filters =
    members_have_float-named (λ (filter : FilterText). filter.name)
    (λ (filter : FilterText). texts_data filter.values)
    (λ filter. has_float-texts_data filter.values) no_members filters refl

members_have_float-register : (r : AskedRegister) (ms : Members) → members_have_float ms ≡ false
    → members_have_float (put_register r ms) ≡ false
unfolding put_register
members_have_float-register r ms h =
    members_have_float-put_if (codes "group") texts_data r.group _ has_float-texts_data
    (members_have_float-put_if (codes "filter") filters_data r.filter _ has_float-filters_data
    (members_have_float-put (codes "register") (string r.name) ms refl h))

members_have_float-accounts : (a : AskedAccounts) (ms : Members) → members_have_float ms ≡ false
    → members_have_float (put_accounts a ms) ≡ false
unfolding put_accounts
members_have_float-accounts a ms h =
    members_have_float-put_if (codes "extras") boolean a.extras _ (λ b. refl)
    (members_have_float-put_if (codes "account") string a.account _ (λ s. refl)
    (members_have_float-put (codes "ledger") (string a.ledger) ms refl h))

members_have_float-dates : (d : AskedDates) (ms : Members) → members_have_float ms ≡ false
    → members_have_float (put_dates d ms) ≡ false
unfolding put_dates
members_have_float-dates d ms h =
    members_have_float-put_if (codes "to") date_data d.to _ (λ date. refl)
    (members_have_float-put_if (codes "from") date_data d.from ms (λ date. refl) h)

-- a cut and a transaction
members_have_float-cut : (cut : Option Cut) (tx : Option ℕ) (ms : Members)
    → members_have_float ms ≡ false
    → members_have_float (put_if (codes "tx") (option_map whole tx)
    (put_if (codes "cut") (option_map cut_data cut) ms)) ≡ false
members_have_float-cut cut tx ms h =
    members_have_float-put_if (codes "tx") whole tx _ (λ n. refl)
    (members_have_float-put_if (codes "cut") cut_data cut ms (λ cut. refl) h)

-- a periodicity and a transaction
members_have_float-by : (by : Option Periodicity) (tx : Option ℕ) (ms : Members)
    → members_have_float ms ≡ false
    → members_have_float (put_if (codes "tx") (option_map whole tx)
    (put_if (codes "by") (option_map by_data by) ms)) ≡ false
members_have_float-by by tx ms h =
    members_have_float-put_if (codes "tx") whole tx _ (λ n. refl)
    (members_have_float-put_if (codes "by") by_data by ms (λ by. refl) h)

members_have_float-balance : (b : Balance) → members_have_float (balance_members b) ≡ false
unfolding balance_members
members_have_float-balance b =
    members_have_float-cut b.cut b.tx _ (members_have_float-register b.register _ refl)

members_have_float-turnovers : (op : List ℕ) (t : Turnovers)
    → members_have_float (turnovers_members op t) ≡ false
unfolding turnovers_members
members_have_float-turnovers op t =
    members_have_float-by t.by t.tx _
    (members_have_float-dates t.dates _ (members_have_float-register t.register _ refl))

members_have_float-both : (b : Both) → members_have_float (both_members b) ≡ false
unfolding both_members
members_have_float-both b =
    members_have_float-put_if (codes "method") method_data b.method _ (λ method. refl)
    (members_have_float-turnovers (codes "both") b.turnovers)

members_have_float-held : (a : AccountBalance)
    → members_have_float (account_balance_members a) ≡ false
unfolding account_balance_members
members_have_float-held a =
    members_have_float-cut a.cut a.tx _ (members_have_float-accounts a.accounts _ refl)

members_have_float-moved : (op : List ℕ) (a : AccountTurnovers)
    → members_have_float (account_turnovers_members op a) ≡ false
unfolding account_turnovers_members
members_have_float-moved op a =
    members_have_float-by a.by a.tx _
    (members_have_float-dates a.dates _ (members_have_float-accounts a.accounts _ refl))

members_have_float-dr_cr : (d : DrCr) → members_have_float (dr_cr_members d) ≡ false
unfolding dr_cr_members
members_have_float-dr_cr d =
    members_have_float-put_if (codes "tx") whole d.tx _ (λ n. refl)
    (members_have_float-dates d.dates _
    (members_have_float-put_if (codes "account") string d.account _ (λ s. refl) refl))

members_have_float-documents : (d : DocumentsQuestion)
    → members_have_float (documents_members d) ≡ false
unfolding documents_members
members_have_float-documents d =
    members_have_float-put_if (codes "tx") whole d.tx _ (λ n. refl)
    (members_have_float-dates d.dates _ refl)

-- a request has none
pub has_float-request_data : (request : Request) → has_float (request_data request) ≡ false
unfolding request_data close_members sweep_members
has_float-request_data (Write_request w) = members_have_float-write (codes "write") w
has_float-request_data (Mark_request s) = members_have_float-switch (codes "mark") s
has_float-request_data (Manual_request m) = members_have_float-manual m
has_float-request_data (Activity_request s) = members_have_float-switch (codes "activity") s
has_float-request_data (Close_request c) = refl
has_float-request_data (Sweep_request s) = refl
has_float-request_data (Balance_request b) = members_have_float-balance b
has_float-request_data (Doc_request d) = members_have_float-doc d
has_float-request_data (Post_request (Content w)) = members_have_float-write (codes "post") w
has_float-request_data (Post_request (Standing s)) = members_have_float-standing (codes "post") s
has_float-request_data (Unpost_request s) = members_have_float-standing (codes "unpost") s
has_float-request_data (Turnovers_request t) = members_have_float-turnovers (codes "turnovers") t
has_float-request_data (Both_request b) = members_have_float-both b
has_float-request_data (Held_request a) = members_have_float-held a
has_float-request_data (Moved_request a) = members_have_float-moved (codes "account_turnovers") a
has_float-request_data (Whole_request a) = members_have_float-moved (codes "account_both") a
has_float-request_data (DrCr_request d) = members_have_float-dr_cr d
has_float-request_data (Documents_request d) = members_have_float-documents d
