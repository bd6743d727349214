-- The reports that words ask for: the request that each makes, and the text of what is answered.
use Rattle.std.specs.Prelude.{ℕ, codes, if◌then◌else◌, is_some, option_and_then, Option, Some, None}
use Rattle.std.specs.Prelude.{List, [], slice_get, Result, Ok, Err}
use Rattle.std.specs.Result.{result_ok}
use Rattle.std.specs.Str.{bytes_eq}
use Rattle.reg_base.specs.Dates.{parse_date, parse_date_end}
use Rattle.reg_base.specs.Codes.{is_name}
use Rattle.reg_base.specs.Results.{◌>>=◌, some_or, unless}
use Rattle.reg_base.specs.declared.tables.AccountRow.{AccountRow}
use Rattle.reg_base.specs.declared.tables.Method.TheVariants.{Movements}
use Rattle.reg_base.specs.declared.tables.Periodicity.TheVariants.{Period, Recorder}
use Rattle.reg_base.specs.declared.tables.Row.{Row}
use Rattle.cfg_model.specs.Places.{ledger_place, register_place}
use Rattle.cfg_model.specs.declared.config.Config.{Config}
use Rattle.cfg_model.specs.declared.ledger.Chart.{Chart}
use Rattle.cfg_model.specs.declared.register.Register.{Register}
use Rattle.desk_words.specs.declared.fault.Member.{Member}
use Rattle.desk_words.specs.declared.fault.Member.TheVariants.{Register as RegisterMember, From, To}
use Rattle.desk_words.specs.declared.fault.WordFault.TheVariants.{BadMember}
use Rattle.desk_words.specs.declared.reply.Answer.{Answer}
use Rattle.desk_words.specs.declared.reply.Answer.TheVariants.{Acknowledged, Balance, Turnovers}
use Rattle.desk_words.specs.declared.reply.Answer.TheVariants.{Both, AccountBalance, DrCr, Shown}
use Rattle.desk_words.specs.declared.reply.Answer.TheVariants.{AccountTurnovers, AccountBoth}
use Rattle.desk_words.specs.declared.reply.Answer.TheVariants.{Documents}
use Rattle.desk_words.specs.declared.reply.Refusal.{Refusal}
use Rattle.desk_words.specs.declared.reply.Refusal.TheVariants.{BadLine}
use Rattle.desk_words.specs.declared.reply.Reply.{Reply}
use Rattle.desk_words.specs.declared.reply.Reply.TheVariants.{Done, Refused}
use Rattle.desk_words.specs.declared.request.Request.{Request}
use Rattle.desk_words.specs.declared.request.Request.TheVariants.{AccountBoth as ForAccounts}
use Rattle.desk_words.specs.declared.request.Request.TheVariants.{Both as ForRegister}
use Rattle.desk_words.specs.declared.request.Request.TheVariants.{Documents as ForDocuments}
use Rattle.desk_words.specs.declared.tables.AskedDates.{AskedDates}
use Rattle.desk_model.specs.Desk.{step}
use Rattle.desk_model.specs.State.{Desk}
use Rattle.text_reports.specs.DocumentLists.{document_list_text}
use Rattle.text_reports.specs.StockCards.{stock_card_text}
use Rattle.text_reports.specs.TrialBalances.{trial_balance_text}

-- ---- what words ask for

-- the words of a report: what it is of, and the first and the last date of its range
pub record ReportWords : Type 0 where
  pub name : List ℕ
  pub from : List ℕ
  pub to : List ℕ

-- the clerk that is built in
abbrev pub batch : List ℕ
batch = codes "batch"

-- the documents of a range
abbrev pub for_documents : AskedDates → Request
for_documents dates = ForDocuments (record { clerk = batch; dates = dates; tx = None })

-- the balances and turnovers of all accounts of a ledger, over a range as a whole
abbrev pub for_accounts : List ℕ → AskedDates → Request
for_accounts ledger dates = ForAccounts (record {
  clerk = batch;
  accounts = record { ledger = ledger; account = None; extras = None };
  dates = dates;
  by = Some Period;
  tx = None;
})

-- what each document of a range moved in a register, in all of its dimensions, with the balances
-- before and behind it
abbrev pub for_register : List ℕ → AskedDates → Request
for_register register dates = ForRegister (record {
  turnovers = record {
    clerk = batch;
    register = record { name = register; filter = None; group = None };
    dates = dates;
    by = Some Recorder;
    tx = None;
  };
  method = Some Movements;
})

-- what a report of a name asks: for the documents, or of a ledger, or else of a register
abbrev pub report_asked : Config → List ℕ → AskedDates → Request
report_asked config name dates =
    if bytes_eq name (codes "documents") then for_documents dates
    else if is_some (ledger_place name config.ledgers) then for_accounts name dates
    else for_register name dates

-- the refusal of a word that does not read as a member
abbrev pub bad_word : Member → Refusal
bad_word member = BadLine (BadMember member)

-- the request that words make, or the refusal of the first that does not read: the name as that of
-- a register, and the dates as those of a range
unfoldable pub report_request : Config → ReportWords → Result Request Refusal
report_request config words = do
  _ ← unless (is_name words.name) (bad_word RegisterMember)
  from ← some_or (result_ok (parse_date words.from)) (bad_word From)
  to ← some_or (result_ok (parse_date_end words.to)) (bad_word To)
  Ok (report_asked config words.name (record { from = Some from; to = Some to }))

-- ---- what is answered, as a text

-- the trial balance of the ledger that there is
abbrev pub balance_text : Option Chart → List AccountRow → List ℕ
balance_text None rows = []
balance_text (Some chart) rows = trial_balance_text chart rows

-- the stock card of the register that there is
abbrev pub card_text : Option Register → List Row → List ℕ
card_text None rows = []
card_text (Some register) rows = stock_card_text register rows

-- the ledger of a name
abbrev pub chart_named : List ℕ → Config → Option Chart
chart_named name config =
    option_and_then (slice_get config.ledgers) (ledger_place name config.ledgers)

-- the register of a name
abbrev pub register_named : List ℕ → Config → Option Register
register_named name config =
    option_and_then (slice_get config.registers) (register_place name config.registers)

-- the report of an answer: a trial balance of the ledger of this name, a stock card of the register
-- of this name, or a list of documents; there is none of other answers
abbrev pub report_text : Config → List ℕ → Answer → List ℕ
report_text config name (AccountBoth rows scale) = balance_text (chart_named name config) rows
report_text config name (Both rows scales) = card_text (register_named name config) rows
report_text config name (Documents rows) = document_list_text rows
report_text config name (Acknowledged acknowledgement) = []
report_text config name (Balance rows scales) = []
report_text config name (Turnovers balances rows scales) = []
report_text config name (AccountBalance rows scale) = []
report_text config name (AccountTurnovers rows scale) = []
report_text config name (DrCr rows scale) = []
report_text config name (Shown document) = []

-- the report of a reply, or why there is none
abbrev pub report_replied : Config → List ℕ → Reply → Result (List ℕ) Refusal
report_replied config name (Done answer) = Ok (report_text config name answer)
report_replied config name (Refused refusal) = Err refusal

-- the report that words ask for at a desk, or why there is none
unfoldable pub report_of : Desk → ReportWords → Result (List ℕ) Refusal
report_of desk words = do
  request ← report_request desk.setting.config words
  report_replied desk.setting.config words.name (step desk request).reply
