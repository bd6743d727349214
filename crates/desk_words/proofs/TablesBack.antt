-- The canonical text of a request for a table is read as that request.
use Rattle.std.proofs.Common.{◌≡◌, ℕ, Option, Some, None, option_map, List, ◌∷◌, IsUtf8, Ok, codes}
use Rattle.std.proofs.Common.{refl, ◌∙◌}
use Rattle.serde_json.specs.Data.{string}
use Rattle.reg_base.specs.Cuts.{IsCut}
use Rattle.reg_base.specs.declared.tables.Method.{Method}
use Rattle.reg_base.proofs.ForAbove.{IsUtf8-tested}
use Rattle.desk_words.specs.declared.members.Operation.TheVariants.{Balance as Balance_op}
use Rattle.desk_words.specs.declared.members.Operation.TheVariants.{Turnovers as Turnovers_op}
use Rattle.desk_words.specs.declared.members.Operation.TheVariants.{Both as Both_op}
use Rattle.desk_words.specs.declared.members.Operation.TheVariants.{AccountBalance as Held_op}
use Rattle.desk_words.specs.declared.members.Operation.TheVariants.{AccountTurnovers as Moved_op}
use Rattle.desk_words.specs.declared.members.Operation.TheVariants.{AccountBoth as Whole_op}
use Rattle.desk_words.specs.declared.members.Operation.TheVariants.{DrCr as DrCr_op}
use Rattle.desk_words.specs.declared.members.Operation.TheVariants.{Documents as Documents_op}
use Rattle.desk_words.specs.declared.request.Request.TheVariants.{Balance as Balance_request}
use Rattle.desk_words.specs.declared.request.Request.TheVariants.{Turnovers as Turnovers_request}
use Rattle.desk_words.specs.declared.request.Request.TheVariants.{Both as Both_request}
use Rattle.desk_words.specs.declared.request.Request.TheVariants.{AccountBalance as Held_request}
use Rattle.desk_words.specs.declared.request.Request.TheVariants.{AccountTurnovers as Moved_request}
use Rattle.desk_words.specs.declared.request.Request.TheVariants.{AccountBoth as Whole_request}
use Rattle.desk_words.specs.declared.request.Request.TheVariants.{DrCr as DrCr_request}
use Rattle.desk_words.specs.declared.request.Request.TheVariants.{Documents as Documents_request}
use Rattle.desk_words.specs.declared.request.Balance.{Balance}
use Rattle.desk_words.specs.declared.tables.Turnovers.{Turnovers}
use Rattle.desk_words.specs.declared.tables.Both.{Both}
use Rattle.desk_words.specs.declared.tables.AccountBalance.{AccountBalance}
use Rattle.desk_words.specs.declared.tables.AccountTurnovers.{AccountTurnovers}
use Rattle.desk_words.specs.declared.tables.DrCr.{DrCr}
use Rattle.desk_words.specs.declared.tables.DocumentsQuestion.{DocumentsQuestion}
use Rattle.desk_words.specs.Shapes.{value_at, json_code, json_cut}
use Rattle.desk_words.specs.TableShapes.{json_by, json_account_by, json_method}
use Rattle.desk_words.specs.ReadTables.{balance_request, turnovers_request, both_request}
use Rattle.desk_words.specs.ReadTables.{account_balance_request, account_turnovers_request}
use Rattle.desk_words.specs.ReadTables.{dr_cr_request, documents_question}
use Rattle.desk_words.specs.Reading.{members_of}
use Rattle.desk_words.specs.TableTexts.{by_data, method_data, cut_data, put_register, put_accounts}
use Rattle.desk_words.specs.TableTexts.{put_dates, balance_members, turnovers_members, both_members}
use Rattle.desk_words.specs.TableTexts.{account_balance_members, account_turnovers_members}
use Rattle.desk_words.specs.TableTexts.{dr_cr_members, documents_members}
use Rattle.desk_words.specs.RequestTexts.{request_data}
use Rattle.desk_words.specs.WellFormedParts.{IsCode}
use Rattle.desk_words.specs.WellFormedTables.{IsAccountBy, IsBalanceRequest, IsTurnovers, IsBoth}
use Rattle.desk_words.specs.WellFormedTables.{IsAccountBalance, IsAccountTurnovers, IsDrCr}
use Rattle.desk_words.specs.WellFormedTables.{IsDocumentsQuestion}
use Rattle.desk_words.proofs.ShapesBack.{json_name-back, json_code-back, json_cut-back}
use Rattle.desk_words.proofs.ShapesBack.{json_by-back, json_account_by-back, json_method-back}
use Rattle.desk_words.proofs.TextsBack.{ReadsBack}
use Rattle.desk_words.proofs.OptionalBack.{shape_if-back}
use Rattle.desk_words.proofs.Entries.{Entry, put_each, found, or_none, asks_for, ArePlainEntries}
use Rattle.desk_words.proofs.Entries.{shallow_if, shallow_any, ReadsBack-entries}
use Rattle.desk_words.proofs.TableParts.{name_shallow, code_shallow, cut_shallow, by_shallow}
use Rattle.desk_words.proofs.TableParts.{method_shallow, shape_any-back, frame, frame_plain}
use Rattle.desk_words.proofs.TableParts.{of_register, register_plain, register-back, of_accounts}
use Rattle.desk_words.proofs.TableParts.{accounts_plain, accounts-back, of_dates, dates_plain}
use Rattle.desk_words.proofs.TableParts.{dates-back}

-- ---- `balance`

abbrev balance_entries : Balance → List Entry
balance_entries b =
    (codes "cut", option_map cut_data b.cut)
    ∷ of_register b.register (frame (codes "balance") b.clerk)

balance-back : (b : Balance) → IsBalanceRequest b
    → balance_request (put_each (balance_entries b)) ≡ Ok (record b { tx = None })
unfolding balance_request value_at
balance-back b h =
    let es = balance_entries b in
    rw (
      found (codes "clerk") es,
      json_name-back _ b.clerk h.clerk,
      register-back b.register h.register (put_each es) (found (codes "register") es)
          (found (codes "filter") es ∙ or_none _) (found (codes "group") es ∙ or_none _),
      found (codes "cut") es,
      or_none (option_map cut_data b.cut),
      shape_if-back IsCut (json_cut _) cut_data (json_cut-back _) b.cut h.cut,
    )

pub balance_text-back : (b : Balance) → IsBalanceRequest b
    → ReadsBack (Balance_request (record b { tx = None }))
unfolding request_data balance_members put_register members_of
balance_text-back b h =
    let es = balance_entries b in
    ReadsBack-entries (Balance_request (record b { tx = None })) Balance_op es refl (
      (IsUtf8-tested (codes "cut") refl, shallow_if cut_data IsCut cut_shallow b.cut h.cut),
      register_plain b.register h.register (frame (codes "balance") b.clerk)
          (frame_plain (codes "balance") b.clerk (IsUtf8-tested (codes "balance") refl) h.clerk),
    )
    (asks_for (codes "balance") Balance_op es refl refl refl refl refl)
    (rw (balance-back b h))

-- ---- `turnovers` and `both`

-- those of `both` have a method besides
abbrev turnovers_entries : List ℕ → Option Method → Turnovers → List Entry
turnovers_entries op method t =
    (codes "method", option_map method_data method) ∷ (codes "by", option_map by_data t.by)
    ∷ of_dates t.dates (of_register t.register (frame op t.clerk))

turnovers-back : (op : List ℕ) (method : Option Method) (t : Turnovers) → IsTurnovers t
    → turnovers_request (put_each (turnovers_entries op method t)) ≡ Ok (record t { tx = None })
unfolding turnovers_request value_at
turnovers-back op method t h =
    let es = turnovers_entries op method t in
    rw (
      found (codes "clerk") es,
      json_name-back _ t.clerk h.clerk,
      register-back t.register h.register (put_each es) (found (codes "register") es)
          (found (codes "filter") es ∙ or_none _) (found (codes "group") es ∙ or_none _),
      dates-back t.dates h.dates (put_each es) (found (codes "from") es ∙ or_none _)
          (found (codes "to") es ∙ or_none _),
      found (codes "by") es,
      or_none (option_map by_data t.by),
      shape_any-back (json_by _) by_data (json_by-back _) t.by,
    )

turnovers_plain : (op : List ℕ) → IsUtf8 op → (method : Option Method) (t : Turnovers)
    → IsTurnovers t → ArePlainEntries (turnovers_entries op method t)
turnovers_plain op utf8 method t h = (
  (IsUtf8-tested (codes "method") refl, shallow_any method_data method_shallow method),
  (
    (IsUtf8-tested (codes "by") refl, shallow_any by_data by_shallow t.by),
    dates_plain t.dates h.dates (of_register t.register (frame op t.clerk))
        (register_plain t.register h.register (frame op t.clerk)
        (frame_plain op t.clerk utf8 h.clerk)),
  ),
)

pub turnovers_text-back : (t : Turnovers) → IsTurnovers t
    → ReadsBack (Turnovers_request (record t { tx = None }))
unfolding request_data turnovers_members put_dates put_register members_of
turnovers_text-back t h =
    let es = turnovers_entries (codes "turnovers") None t in
    ReadsBack-entries (Turnovers_request (record t { tx = None })) Turnovers_op es refl
    (turnovers_plain (codes "turnovers") (IsUtf8-tested (codes "turnovers") refl) None t h)
    (asks_for (codes "turnovers") Turnovers_op es refl refl refl refl refl)
    (rw (turnovers-back (codes "turnovers") None t h))

-- without a transaction
abbrev pub both_asked : Both → Both
both_asked b = record b { turnovers = record b.turnovers { tx = None } }

both-back : (b : Both) → IsBoth b
    → both_request (put_each (turnovers_entries (codes "both") b.method b.turnovers))
    ≡ Ok (both_asked b)
unfolding both_request
both-back b h =
    let es = turnovers_entries (codes "both") b.method b.turnovers in
    rw (
      turnovers-back (codes "both") b.method b.turnovers h,
      found (codes "method") es,
      or_none (option_map method_data b.method),
      shape_any-back (json_method _) method_data (json_method-back _) b.method,
    )

pub both_text-back : (b : Both) → IsBoth b → ReadsBack (Both_request (both_asked b))
unfolding request_data both_members turnovers_members put_dates put_register members_of
both_text-back b h =
    let es = turnovers_entries (codes "both") b.method b.turnovers in
    ReadsBack-entries (Both_request (both_asked b)) Both_op es refl
    (turnovers_plain (codes "both") (IsUtf8-tested (codes "both") refl) b.method b.turnovers h)
    (asks_for (codes "both") Both_op es refl refl refl refl refl)
    (rw (both-back b h))

-- ---- tables of accounts

abbrev held_entries : AccountBalance → List Entry
held_entries a =
    (codes "cut", option_map cut_data a.cut)
    ∷ of_accounts a.accounts (frame (codes "account_balance") a.clerk)

held-back : (a : AccountBalance) → IsAccountBalance a
    → account_balance_request (put_each (held_entries a)) ≡ Ok (record a { tx = None })
unfolding account_balance_request value_at
held-back a h =
    let es = held_entries a in
    rw (
      found (codes "clerk") es,
      json_name-back _ a.clerk h.clerk,
      accounts-back a.accounts h.accounts (put_each es) (found (codes "ledger") es)
          (found (codes "account") es ∙ or_none _) (found (codes "extras") es ∙ or_none _),
      found (codes "cut") es,
      or_none (option_map cut_data a.cut),
      shape_if-back IsCut (json_cut _) cut_data (json_cut-back _) a.cut h.cut,
    )

pub held_text-back : (a : AccountBalance) → IsAccountBalance a
    → ReadsBack (Held_request (record a { tx = None }))
unfolding request_data account_balance_members put_accounts members_of
held_text-back a h =
    let es = held_entries a in
    let op = codes "account_balance" in
    ReadsBack-entries (Held_request (record a { tx = None })) Held_op es refl (
      (IsUtf8-tested (codes "cut") refl, shallow_if cut_data IsCut cut_shallow a.cut h.cut),
      accounts_plain a.accounts h.accounts (frame op a.clerk)
          (frame_plain op a.clerk (IsUtf8-tested op refl) h.clerk),
    )
    (asks_for op Held_op es refl refl refl refl refl)
    (rw (held-back a h))

abbrev moved_entries : List ℕ → AccountTurnovers → List Entry
moved_entries op a =
    (codes "by", option_map by_data a.by)
    ∷ of_dates a.dates (of_accounts a.accounts (frame op a.clerk))

moved-back : (op : List ℕ) (a : AccountTurnovers) → IsAccountTurnovers a
    → account_turnovers_request (put_each (moved_entries op a)) ≡ Ok (record a { tx = None })
unfolding account_turnovers_request value_at
moved-back op a h =
    let es = moved_entries op a in
    rw (
      found (codes "clerk") es,
      json_name-back _ a.clerk h.clerk,
      accounts-back a.accounts h.accounts (put_each es) (found (codes "ledger") es)
          (found (codes "account") es ∙ or_none _) (found (codes "extras") es ∙ or_none _),
      dates-back a.dates h.dates (put_each es) (found (codes "from") es ∙ or_none _)
          (found (codes "to") es ∙ or_none _),
      found (codes "by") es,
      or_none (option_map by_data a.by),
      shape_if-back IsAccountBy (json_account_by _) by_data (json_account_by-back _) a.by h.by,
    )

moved_plain : (op : List ℕ) → IsUtf8 op → (a : AccountTurnovers) → IsAccountTurnovers a
    → ArePlainEntries (moved_entries op a)
moved_plain op utf8 a h = (
  (IsUtf8-tested (codes "by") refl, shallow_any by_data by_shallow a.by),
  dates_plain a.dates h.dates (of_accounts a.accounts (frame op a.clerk))
      (accounts_plain a.accounts h.accounts (frame op a.clerk)
      (frame_plain op a.clerk utf8 h.clerk)),
)

pub moved_text-back : (a : AccountTurnovers) → IsAccountTurnovers a
    → ReadsBack (Moved_request (record a { tx = None }))
unfolding request_data account_turnovers_members put_dates put_accounts members_of
moved_text-back a h =
    let op = codes "account_turnovers" in
    ReadsBack-entries (Moved_request (record a { tx = None })) Moved_op (moved_entries op a) refl
    (moved_plain op (IsUtf8-tested op refl) a h)
    (asks_for op Moved_op (moved_entries op a) refl refl refl refl refl)
    (rw (moved-back op a h))

pub whole_text-back : (a : AccountTurnovers) → IsAccountTurnovers a
    → ReadsBack (Whole_request (record a { tx = None }))
unfolding request_data account_turnovers_members put_dates put_accounts members_of
whole_text-back a h =
    let op = codes "account_both" in
    ReadsBack-entries (Whole_request (record a { tx = None })) Whole_op (moved_entries op a) refl
    (moved_plain op (IsUtf8-tested op refl) a h)
    (asks_for op Whole_op (moved_entries op a) refl refl refl refl refl)
    (rw (moved-back op a h))

-- ---- `dr_cr` and `documents`

abbrev pair_entries : DrCr → List Entry
pair_entries d =
    (codes "account", option_map string d.account)
    ∷ (codes "ledger", Some (string d.ledger)) ∷ frame (codes "dr_cr") d.clerk

abbrev dr_cr_entries : DrCr → List Entry
dr_cr_entries d = of_dates d.dates (pair_entries d)

dr_cr-back : (d : DrCr) → IsDrCr d
    → dr_cr_request (put_each (dr_cr_entries d)) ≡ Ok (record d { tx = None })
unfolding dr_cr_request value_at
dr_cr-back d h =
    let es = dr_cr_entries d in
    rw (
      found (codes "clerk") es,
      json_name-back _ d.clerk h.clerk,
      found (codes "ledger") es,
      json_name-back _ d.ledger h.ledger,
      found (codes "account") es,
      or_none (option_map string d.account),
      shape_if-back IsCode (json_code _) string (json_code-back _) d.account h.account,
      dates-back d.dates h.dates (put_each es) (found (codes "from") es ∙ or_none _)
          (found (codes "to") es ∙ or_none _),
    )

pub dr_cr_text-back : (d : DrCr) → IsDrCr d → ReadsBack (DrCr_request (record d { tx = None }))
unfolding request_data dr_cr_members put_dates members_of
dr_cr_text-back d h =
    let es = dr_cr_entries d in
    let op = codes "dr_cr" in
    ReadsBack-entries (DrCr_request (record d { tx = None })) DrCr_op es refl
    (dates_plain d.dates h.dates (pair_entries d) (
      (
        IsUtf8-tested (codes "account") refl,
        shallow_if string IsCode code_shallow d.account h.account,
      ),
      (
        (IsUtf8-tested (codes "ledger") refl, name_shallow d.ledger h.ledger),
        frame_plain op d.clerk (IsUtf8-tested op refl) h.clerk,
      ),
    ))
    (asks_for op DrCr_op es refl refl refl refl refl)
    (rw (dr_cr-back d h))

abbrev documents_entries : DocumentsQuestion → List Entry
documents_entries d = of_dates d.dates (frame (codes "documents") d.clerk)

documents-back : (d : DocumentsQuestion) → IsDocumentsQuestion d
    → documents_question (put_each (documents_entries d)) ≡ Ok (record d { tx = None })
unfolding documents_question value_at
documents-back d h =
    let es = documents_entries d in
    rw (
      found (codes "clerk") es,
      json_name-back _ d.clerk h.clerk,
      dates-back d.dates h.dates (put_each es) (found (codes "from") es ∙ or_none _)
          (found (codes "to") es ∙ or_none _),
    )

pub documents_text-back : (d : DocumentsQuestion) → IsDocumentsQuestion d
    → ReadsBack (Documents_request (record d { tx = None }))
unfolding request_data documents_members put_dates members_of
documents_text-back d h =
    let es = documents_entries d in
    let op = codes "documents" in
    ReadsBack-entries (Documents_request (record d { tx = None })) Documents_op es refl
    (dates_plain d.dates h.dates (frame op d.clerk)
    (frame_plain op d.clerk (IsUtf8-tested op refl) h.clerk))
    (asks_for op Documents_op es refl refl refl refl refl)
    (rw (documents-back d h))
