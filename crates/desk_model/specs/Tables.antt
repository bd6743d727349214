-- What holds of an accepted table: it is the one that was asked for, over the records, the entries
-- or the documents at its place.
use Rattle.std.specs.Prelude.{◌≡◌, ℕ, ◌≤◌, ⊤, Bool, true, Option, Some, None, Ok, unwrap_or, List}
use Rattle.std.specs.Prelude.{length, slice_get}
use Rattle.reg_base.specs.declared.cut.Cut.TheVariants.{Now}
use Rattle.reg_base.specs.declared.records.DocRow.{DocRow}
use Rattle.reg_base.specs.declared.records.SumRow.{SumRow}
use Rattle.reg_base.specs.declared.tables.AccountRow.{AccountRow}
use Rattle.reg_base.specs.declared.tables.Method.TheVariants.{Movements}
use Rattle.reg_base.specs.declared.tables.PairRow.{PairRow}
use Rattle.reg_base.specs.declared.tables.Row.{Row}
use Rattle.reg_base.specs.declared.tables.AskedList.{AskedList}
use Rattle.reg_base.specs.Records.{records_of}
use Rattle.reg_base.specs.BookedEntries.{BookedEntry, entries_of}
use Rattle.reg_base.specs.Balances.{balance_of}
use Rattle.reg_base.specs.Turnovers.{turnovers_of, balance_and_turnovers_of, row_limit}
use Rattle.cfg_model.specs.declared.ledger.Chart.{Chart}
use Rattle.cfg_model.specs.declared.register.Register.{Register}
use Rattle.cfg_model.specs.Places.{register_place, ledger_place}
use Rattle.cfg_model.specs.Asks.{wrong_name, filter_with, group_places}
use Rattle.cfg_model.specs.AccountTables.{account_balance_of, account_turnovers_of}
use Rattle.cfg_model.specs.AccountTables.{account_both_of, dr_cr_of}
use Rattle.desk_words.specs.declared.tables.AskedRegister.{AskedRegister}
use Rattle.desk_words.specs.declared.request.Balance.{Balance as BalanceRequest}
use Rattle.desk_words.specs.declared.tables.Turnovers.{Turnovers as TurnoversRequest}
use Rattle.desk_words.specs.declared.tables.Both.{Both as BothRequest}
use Rattle.desk_words.specs.declared.tables.AccountBalance.{AccountBalance as AccountBalanceRequest}
use Rattle.desk_words.specs.declared.tables.AccountTurnovers.{AccountTurnovers as AccountRequest}
use Rattle.desk_words.specs.declared.tables.DrCr.{DrCr as PairsRequest}
use Rattle.desk_words.specs.declared.tables.DocumentsQuestion.{DocumentsQuestion}
use Rattle.desk_words.specs.declared.request.Request.{Request}
use Rattle.desk_words.specs.declared.request.Request.TheVariants.{Write, Post, Unpost, Mark, Manual}
use Rattle.desk_words.specs.declared.request.Request.TheVariants.{Activity, Close, Sweep, Balance}
use Rattle.desk_words.specs.declared.request.Request.TheVariants.{Doc, Turnovers, Both, Documents}
use Rattle.desk_words.specs.declared.request.Request.TheVariants.{AccountBalance, AccountTurnovers}
use Rattle.desk_words.specs.declared.request.Request.TheVariants.{AccountBoth, DrCr}
use Rattle.desk_words.specs.declared.reply.Answer.{Answer}
use Rattle.desk_words.specs.declared.reply.Answer.TheVariants as AnswerIs
use Rattle.desk_model.specs.State.{Desk}
use Rattle.desk_model.specs.Questions.{range_of, rows_between}
use Rattle.desk_model.specs.RegisterQuestions.{asked_lists, scales_of}
use Rattle.desk_model.specs.LedgerQuestions.{has_asked_account, asks_extras}

-- a table that may be shown: no more rows than a table may have
abbrev pub IsShort : {R : Type 0} → List R → Type 0
IsShort rows = length rows ≤ row_limit

-- ---- tables of registers

-- the register that is asked is there and has the table, its filter can be read, and each name that
-- it is asked by is that of a dimension, once
pub record Asks (desk : Desk) (asked : AskedRegister) (has_table : Register → Bool) : Type 0 where
  pub place : ℕ
  pub register : Register
  pub lists : List AskedList
  pub named : register_place asked.name desk.setting.config.registers ≡ Some place
  pub found : slice_get desk.setting.config.registers place ≡ Some register
  pub has : has_table register ≡ true
  pub read : asked_lists register asked.filter ≡ Ok lists
  pub known : wrong_name register lists asked.group ≡ None

-- the answer is the balance of the records that there are, a scale for each resource
pub record IsBalanceTable (desk : Desk) (b : BalanceRequest) (answer : Answer) : Type 0 where
  pub asks : Asks desk b.register (λ register. register.balance)
  pub rows : List SumRow
  pub rows_are : rows ≡ balance_of (length asks.register.resources)
      (records_of asks.place desk.serial.documents) (filter_with asks.register asks.lists)
      (group_places asks.register b.register.group) (unwrap_or b.cut Now)
  pub short : IsShort rows
  pub answer_is : answer ≡ AnswerIs.Balance rows (scales_of asks.register)

-- the answer is the turnovers of the range
pub record IsTurnoversTable (desk : Desk) (t : TurnoversRequest) (answer : Answer) : Type 0 where
  pub asks : Asks desk t.register (λ register. true)
  pub rows : List Row
  pub rows_are : rows ≡ turnovers_of asks.register.balance (length asks.register.resources)
      (records_of asks.place desk.serial.documents) (filter_with asks.register asks.lists)
      (group_places asks.register t.register.group) (range_of t.dates t.by)
  pub short : IsShort rows
  pub answer_is :
      answer ≡ AnswerIs.Turnovers asks.register.balance rows (scales_of asks.register)

-- the answer is the balances and turnovers of the range
pub record IsBothTable (desk : Desk) (b : BothRequest) (answer : Answer) : Type 0 where
  pub asks : Asks desk b.turnovers.register (λ register. register.balance)
  pub rows : List Row
  pub rows_are : rows ≡ balance_and_turnovers_of (length asks.register.resources)
      (records_of asks.place desk.serial.documents) (filter_with asks.register asks.lists)
      (group_places asks.register b.turnovers.register.group)
      (range_of b.turnovers.dates b.turnovers.by) (unwrap_or b.method Movements)
  pub short : IsShort rows
  pub answer_is : answer ≡ AnswerIs.Both rows (scales_of asks.register)

-- ---- tables of ledgers

-- the ledger that is asked is there, and has the account
pub record AsksLedger (desk : Desk) (ledger : List ℕ) (account : Option (List ℕ)) : Type 0 where
  pub place : ℕ
  pub chart : Chart
  pub named : ledger_place ledger desk.setting.config.ledgers ≡ Some place
  pub found : slice_get desk.setting.config.ledgers place ≡ Some chart
  pub has : has_asked_account chart account ≡ true

-- the answer is a table of accounts over the entries that there are
pub record IsOfAccounts (desk : Desk) (ledger : List ℕ) (account : Option (List ℕ))
    (table : Chart → List BookedEntry → List AccountRow)
    (shown : List AccountRow → ℕ → Answer) (answer : Answer) : Type 0 where
  pub asks : AsksLedger desk ledger account
  pub rows : List AccountRow
  pub rows_are : rows ≡ table asks.chart (entries_of asks.place desk.serial.documents)
  pub short : IsShort rows
  pub answer_is : answer ≡ shown rows asks.chart.scale

-- the answer is the balances of accounts
abbrev pub IsAccountBalanceTable : Desk → AccountBalanceRequest → Answer → Type 0
IsAccountBalanceTable desk b = IsOfAccounts desk b.accounts.ledger b.accounts.account
    (λ chart entries. account_balance_of chart entries b.accounts.account
    (asks_extras b.accounts) (unwrap_or b.cut Now))
    AnswerIs.AccountBalance

-- the answer is the turnovers of accounts
abbrev pub IsAccountTurnoversTable : Desk → AccountRequest → Answer → Type 0
IsAccountTurnoversTable desk t = IsOfAccounts desk t.accounts.ledger t.accounts.account
    (λ chart entries. account_turnovers_of chart entries t.accounts.account
    (asks_extras t.accounts) (range_of t.dates t.by))
    AnswerIs.AccountTurnovers

-- the answer is the balances and turnovers of accounts
abbrev pub IsAccountBothTable : Desk → AccountRequest → Answer → Type 0
IsAccountBothTable desk t = IsOfAccounts desk t.accounts.ledger t.accounts.account
    (λ chart entries. account_both_of chart entries t.accounts.account
    (asks_extras t.accounts) (range_of t.dates t.by))
    AnswerIs.AccountBoth

-- the answer is the sums by pairs of accounts
pub record IsPairsTable (desk : Desk) (q : PairsRequest) (answer : Answer) : Type 0 where
  pub asks : AsksLedger desk q.ledger q.account
  pub rows : List PairRow
  pub rows_are : rows ≡ dr_cr_of asks.chart (entries_of asks.place desk.serial.documents)
      q.account (range_of q.dates None)
  pub short : IsShort rows
  pub answer_is : answer ≡ AnswerIs.DrCr rows asks.chart.scale

-- ---- documents

-- the answer is the documents of the range
pub record IsDocumentsTable (desk : Desk) (q : DocumentsQuestion) (answer : Answer) : Type 0 where
  pub rows : List DocRow
  pub rows_are : rows ≡ rows_between desk.setting.config (range_of q.dates None)
      desk.serial.documents
  pub short : IsShort rows
  pub answer_is : answer ≡ AnswerIs.Documents rows

-- ---- all of them

-- where the request is for a table, the answer is that table
abbrev pub IsTable : Desk → Request → Answer → Type 0
IsTable desk (Balance b) answer = IsBalanceTable desk b answer
IsTable desk (Turnovers t) answer = IsTurnoversTable desk t answer
IsTable desk (Both b) answer = IsBothTable desk b answer
IsTable desk (AccountBalance b) answer = IsAccountBalanceTable desk b answer
IsTable desk (AccountTurnovers t) answer = IsAccountTurnoversTable desk t answer
IsTable desk (AccountBoth t) answer = IsAccountBothTable desk t answer
IsTable desk (DrCr q) answer = IsPairsTable desk q answer
IsTable desk (Documents q) answer = IsDocumentsTable desk q answer
IsTable desk (Write w) answer = ⊤
IsTable desk (Post p) answer = ⊤
IsTable desk (Unpost u) answer = ⊤
IsTable desk (Mark m) answer = ⊤
IsTable desk (Manual m) answer = ⊤
IsTable desk (Activity m) answer = ⊤
IsTable desk (Close c) answer = ⊤
IsTable desk (Sweep s) answer = ⊤
IsTable desk (Doc q) answer = ⊤
