-- The question of each request in two steps, and what its table asks of documents.
use Rattle.std.proofs.Common.{◌≡◌, ℕ, true, false, None, unwrap_or, List, All, length, Result, Ok}
use Rattle.std.proofs.lemmas.List.Elements.{All-weaker}
use Rattle.reg_base.specs.declared.cut.Cut.{Cut}
use Rattle.reg_base.specs.declared.cut.Cut.TheVariants.{Now}
use Rattle.reg_base.specs.declared.tables.Method.{Method}
use Rattle.reg_base.specs.declared.tables.Method.TheVariants.{Movements}
use Rattle.reg_base.specs.declared.tables.Range.{Range}
use Rattle.reg_base.specs.declared.tables.Row.{Row}
use Rattle.reg_base.specs.declared.tables.AccountRow.{AccountRow}
use Rattle.reg_base.specs.declared.tables.PairRow.{PairRow}
use Rattle.reg_base.specs.declared.records.SumRow.{SumRow}
use Rattle.reg_base.specs.declared.records.Document.{Document}
use Rattle.reg_base.specs.declared.fault.TableFault.{TableFault}
use Rattle.reg_base.specs.Results.{◌>>=◌}
use Rattle.reg_base.specs.Documents.{HasShortSets}
use Rattle.reg_base.specs.Records.{records_of, records_within}
use Rattle.reg_base.specs.BookedEntries.{entries_of}
use Rattle.reg_base.specs.Balances.{balance_of, sum_rows}
use Rattle.reg_base.specs.Turnovers.{turnovers_of, balance_and_turnovers_of, turnover_rows, both_rows}
use Rattle.reg_base.specs.Turnovers.{in_range, limited_rows, table_of}
use Rattle.cfg_model.specs.declared.config.Config.{Config}
use Rattle.cfg_model.specs.declared.register.Register.{Register}
use Rattle.cfg_model.specs.declared.ledger.Chart.{Chart}
use Rattle.cfg_model.specs.AccountTables.{account_balance_of, account_turnovers_of}
use Rattle.cfg_model.specs.AccountTables.{account_both_of, dr_cr_of}
use Rattle.virt_tables.specs.declared.ask.Ask.{Ask}
use Rattle.virt_tables.specs.Bounds.{HasShortRecords}
use Rattle.ledger_reg.specs.declared.ask.AccountAsk.{AccountAsk}
use Rattle.ledger_reg.specs.Walks.{HasShortLedgers}
use Rattle.desk_words.specs.declared.request.Balance.{Balance as BalanceRequest}
use Rattle.desk_words.specs.declared.tables.Turnovers.{Turnovers as TurnoversRequest}
use Rattle.desk_words.specs.declared.tables.Both.{Both as BothRequest}
use Rattle.desk_words.specs.declared.tables.AccountBalance.{AccountBalance as AccountBalanceRequest}
use Rattle.desk_words.specs.declared.tables.AccountTurnovers.{AccountTurnovers as AccountRequest}
use Rattle.desk_words.specs.declared.tables.DrCr.{DrCr as PairsRequest}
use Rattle.desk_words.specs.declared.reply.Answer.TheVariants as AnswerIs
use Rattle.desk_model.specs.Questions.{range_of}
use Rattle.desk_model.specs.RegisterQuestions.{question_balance, question_turnovers, question_both}
use Rattle.desk_model.specs.RegisterQuestions.{scales_of}
use Rattle.desk_model.specs.LedgerQuestions.{question_account_balance, question_account_turnovers}
use Rattle.desk_model.specs.LedgerQuestions.{question_account_both, question_pairs, asks_extras}
use Rattle.desk_model.specs.Serial.{question_answer}
use Rattle.desk_tables.specs.Asked.{refused, AskedOf, asking_of, AskedLedger, asking_ledger}
use Rattle.desk_tables.specs.Asked.{ask_with}
use Rattle.desk_tables.proofs.AskedLemmas.{question_about-steps, question_on-steps}

-- ---- short sets

pub short-records : (documents : List Document) → All HasShortSets documents
    → All HasShortRecords documents
short-records documents all =
    All-weaker HasShortSets HasShortRecords (λ d short. short.records) documents all

pub short-entries : (documents : List Document) → All HasShortSets documents
    → All HasShortLedgers documents
short-entries documents all =
    All-weaker HasShortSets HasShortLedgers (λ d short. short.entries) documents all

-- ---- the tables, as they are called

abbrev pub balance_table : List Document → ℕ → Ask → Cut → Result (List SumRow) TableFault
balance_table documents resources ask cut = limited_rows
    (balance_of resources (records_of ask.register documents) ask.filter ask.group cut)

abbrev pub turnovers_table : List Document → Register → Ask → Range → Result (List Row) TableFault
turnovers_table documents register ask range = table_of range (turnovers_of register.balance
    (length register.resources) (records_of ask.register documents) ask.filter ask.group range)

abbrev pub both_table : List Document → Register → Ask → Range → Method
    → Result (List Row) TableFault
both_table documents register ask range method = table_of range (balance_and_turnovers_of
    (length register.resources) (records_of ask.register documents) ask.filter ask.group range
    method)

abbrev pub account_balance_table : List Document → Chart → AccountAsk → Cut
    → Result (List AccountRow) TableFault
account_balance_table documents chart ask cut = limited_rows
    (account_balance_of chart (entries_of ask.ledger documents) ask.account ask.extras cut)

abbrev pub account_turnovers_table : List Document → Chart → AccountAsk → Range
    → Result (List AccountRow) TableFault
account_turnovers_table documents chart ask range = table_of range
    (account_turnovers_of chart (entries_of ask.ledger documents) ask.account ask.extras range)

abbrev pub account_both_table : List Document → Chart → AccountAsk → Range
    → Result (List AccountRow) TableFault
account_both_table documents chart ask range = table_of range
    (account_both_of chart (entries_of ask.ledger documents) ask.account ask.extras range)

abbrev pub pairs_table : List Document → Chart → AccountAsk → Range
    → Result (List PairRow) TableFault
pairs_table documents chart ask range = table_of range
    (dr_cr_of chart (entries_of ask.ledger documents) ask.account range)

-- ---- the two steps of each question

module _ (config : Config) (documents : List Document) where
  pub balance-steps : (b : BalanceRequest)
      → question_answer documents (question_balance config b)
      ≡ (asking_of config b.register true >>= λ a. refused (balance_table documents
      (length a.register.resources) a.ask (unwrap_or b.cut Now))
      >>= λ rows. Ok (AnswerIs.Balance rows (scales_of a.register)))
  unfolding question_balance
  balance-steps b = question_about-steps config documents b.register true
      (λ register group records. limited_rows
      (sum_rows (length register.resources) group (records_within (unwrap_or b.cut Now) records)))
      (λ register rows. AnswerIs.Balance rows (scales_of register))

  pub turnovers-steps : (t : TurnoversRequest)
      → question_answer documents (question_turnovers config t)
      ≡ (asking_of config t.register false >>= λ a. refused
      (turnovers_table documents a.register a.ask (range_of t.dates t.by))
      >>= λ rows. Ok (AnswerIs.Turnovers a.register.balance rows (scales_of a.register)))
  unfolding question_turnovers
  turnovers-steps t = question_about-steps config documents t.register false
      (λ register group records. table_of (range_of t.dates t.by)
      (turnover_rows register.balance (length register.resources) group
      (range_of t.dates t.by).by (in_range (range_of t.dates t.by) records)))
      (λ register rows. AnswerIs.Turnovers register.balance rows (scales_of register))

  pub both-steps : (b : BothRequest)
      → question_answer documents (question_both config b)
      ≡ (asking_of config b.turnovers.register true >>= λ a. refused
      (both_table documents a.register a.ask (range_of b.turnovers.dates b.turnovers.by)
      (unwrap_or b.method Movements))
      >>= λ rows. Ok (AnswerIs.Both rows (scales_of a.register)))
  unfolding question_both
  both-steps b = question_about-steps config documents b.turnovers.register true
      (λ register group records. table_of (range_of b.turnovers.dates b.turnovers.by)
      (both_rows (length register.resources) group (range_of b.turnovers.dates b.turnovers.by)
      (unwrap_or b.method Movements) records))
      (λ register rows. AnswerIs.Both rows (scales_of register))

  pub account_balance-steps : (b : AccountBalanceRequest)
      → question_answer documents (question_account_balance config b)
      ≡ (asking_ledger config b.accounts.ledger b.accounts.account >>= λ a. refused
      (account_balance_table documents a.chart (ask_with a.place b.accounts)
      (unwrap_or b.cut Now))
      >>= λ rows. Ok (AnswerIs.AccountBalance rows a.chart.scale))
  unfolding question_account_balance
  account_balance-steps b =
      question_on-steps config documents b.accounts.ledger b.accounts.account
      (λ chart entries. limited_rows (account_balance_of chart entries b.accounts.account
      (asks_extras b.accounts) (unwrap_or b.cut Now)))
      (λ chart rows. AnswerIs.AccountBalance rows chart.scale)

  pub account_turnovers-steps : (t : AccountRequest)
      → question_answer documents (question_account_turnovers config t)
      ≡ (asking_ledger config t.accounts.ledger t.accounts.account >>= λ a. refused
      (account_turnovers_table documents a.chart (ask_with a.place t.accounts)
      (range_of t.dates t.by))
      >>= λ rows. Ok (AnswerIs.AccountTurnovers rows a.chart.scale))
  unfolding question_account_turnovers
  account_turnovers-steps t =
      question_on-steps config documents t.accounts.ledger t.accounts.account
      (λ chart entries. table_of (range_of t.dates t.by) (account_turnovers_of chart entries
      t.accounts.account (asks_extras t.accounts) (range_of t.dates t.by)))
      (λ chart rows. AnswerIs.AccountTurnovers rows chart.scale)

  pub account_both-steps : (t : AccountRequest)
      → question_answer documents (question_account_both config t)
      ≡ (asking_ledger config t.accounts.ledger t.accounts.account >>= λ a. refused
      (account_both_table documents a.chart (ask_with a.place t.accounts)
      (range_of t.dates t.by))
      >>= λ rows. Ok (AnswerIs.AccountBoth rows a.chart.scale))
  unfolding question_account_both
  account_both-steps t =
      question_on-steps config documents t.accounts.ledger t.accounts.account
      (λ chart entries. table_of (range_of t.dates t.by) (account_both_of chart entries
      t.accounts.account (asks_extras t.accounts) (range_of t.dates t.by)))
      (λ chart rows. AnswerIs.AccountBoth rows chart.scale)

  pub pairs-steps : (q : PairsRequest)
      → question_answer documents (question_pairs config q)
      ≡ (asking_ledger config q.ledger q.account >>= λ a. refused
      (pairs_table documents a.chart
      (record { ledger = a.place; account = q.account; extras = false }) (range_of q.dates None))
      >>= λ rows. Ok (AnswerIs.DrCr rows a.chart.scale))
  unfolding question_pairs
  pairs-steps q = question_on-steps config documents q.ledger q.account
      (λ chart entries. table_of (range_of q.dates None)
      (dr_cr_of chart entries q.account (range_of q.dates None)))
      (λ chart rows. AnswerIs.DrCr rows chart.scale)
