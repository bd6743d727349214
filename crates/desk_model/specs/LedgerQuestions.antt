-- Questions for the tables of a ledger's accounts.
use Rattle.std.specs.Prelude.{ℕ, Bool, true, false, is_some, Option, Some, None, unwrap_or, List}
use Rattle.std.specs.Prelude.{slice_get, Result, Ok}
use Rattle.reg_base.specs.declared.cut.Cut.{Cut}
use Rattle.reg_base.specs.declared.cut.Cut.TheVariants.{Now}
use Rattle.reg_base.specs.declared.tables.Range.{Range}
use Rattle.reg_base.specs.declared.fault.TableFault.{TableFault}
use Rattle.reg_base.specs.Results.{◌>>=◌, unless, some_or}
use Rattle.reg_base.specs.BookedEntries.{BookedEntry}
use Rattle.reg_base.specs.Turnovers.{limited_rows, table_of}
use Rattle.cfg_model.specs.declared.config.Config.{Config}
use Rattle.cfg_model.specs.declared.ledger.Chart.{Chart}
use Rattle.cfg_model.specs.Places.{ledger_place, account_at}
use Rattle.cfg_model.specs.AccountTables.{account_balance_of, account_turnovers_of}
use Rattle.cfg_model.specs.AccountTables.{account_both_of, dr_cr_of}
use Rattle.desk_words.specs.declared.tables.AskedAccounts.{AskedAccounts}
use Rattle.desk_words.specs.declared.tables.AccountBalance.{AccountBalance as BalanceRequest}
use Rattle.desk_words.specs.declared.tables.AccountTurnovers.{AccountTurnovers as TurnoversRequest}
use Rattle.desk_words.specs.declared.tables.DrCr.{DrCr as PairsRequest}
use Rattle.desk_words.specs.declared.reply.Answer.{Answer}
use Rattle.desk_words.specs.declared.reply.Answer.TheVariants.{AccountBalance, AccountTurnovers}
use Rattle.desk_words.specs.declared.reply.Answer.TheVariants.{AccountBoth, DrCr}
use Rattle.desk_words.specs.declared.reply.Refusal.{Refusal}
use Rattle.desk_words.specs.declared.reply.Refusal.TheVariants.{BadField}
use Rattle.desk_words.specs.declared.reply.Field.TheVariants.{Ledger as LedgerField}
use Rattle.desk_words.specs.declared.reply.Field.TheVariants.{Account as AccountField}
use Rattle.desk_model.specs.Plans.{Question, about_ledger}
use Rattle.desk_model.specs.Questions.{range_of, answering, or_refused}

-- ---- what is asked of a ledger

-- whether the chart has the account, where one is asked for
abbrev pub has_asked_account : Chart → Option (List ℕ) → Bool
has_asked_account chart None = true
has_asked_account chart (Some code) = is_some (account_at code chart.accounts)

-- what is asked of a ledger that has the account: its entries, in the table
unfoldable pub question_on : Config → List ℕ → Option (List ℕ)
    → (Chart → List BookedEntry → Result Answer TableFault) → Result Question Refusal
question_on config ledger account table = do
  place ← some_or (ledger_place ledger config.ledgers) (BadField LedgerField)
  chart ← some_or (slice_get config.ledgers place) (BadField LedgerField)
  _ ← unless (has_asked_account chart account) (BadField AccountField)
  Ok (about_ledger (record {
    ledger = place;
    answer = λ entries. or_refused (table chart entries);
  }))

-- whether rows are told apart by extras
abbrev pub asks_extras : AskedAccounts → Bool
asks_extras accounts = unwrap_or accounts.extras false

-- ---- the tables

-- the balances of accounts at a cut
abbrev pub account_balance_answer : AskedAccounts → Cut → Chart → List BookedEntry
    → Result Answer TableFault
account_balance_answer accounts cut chart entries =
    answering (λ rows. AccountBalance rows chart.scale) (limited_rows
    (account_balance_of chart entries accounts.account (asks_extras accounts) cut))

-- what `account_balance` asks
unfoldable pub question_account_balance : Config → BalanceRequest → Result Question Refusal
question_account_balance config b =
    question_on config b.accounts.ledger b.accounts.account
    (account_balance_answer b.accounts (unwrap_or b.cut Now))

-- the turnovers of accounts in a range
abbrev pub account_turnovers_answer : AskedAccounts → Range → Chart → List BookedEntry
    → Result Answer TableFault
account_turnovers_answer accounts range chart entries =
    answering (λ rows. AccountTurnovers rows chart.scale) (table_of range
    (account_turnovers_of chart entries accounts.account (asks_extras accounts) range))

-- what `account_turnovers` asks
unfoldable pub question_account_turnovers : Config → TurnoversRequest → Result Question Refusal
question_account_turnovers config t =
    question_on config t.accounts.ledger t.accounts.account
    (account_turnovers_answer t.accounts (range_of t.dates t.by))

-- the balances and turnovers of accounts in a range
abbrev pub account_both_answer : AskedAccounts → Range → Chart → List BookedEntry
    → Result Answer TableFault
account_both_answer accounts range chart entries =
    answering (λ rows. AccountBoth rows chart.scale) (table_of range
    (account_both_of chart entries accounts.account (asks_extras accounts) range))

-- what `account_both` asks
unfoldable pub question_account_both : Config → TurnoversRequest → Result Question Refusal
question_account_both config t =
    question_on config t.accounts.ledger t.accounts.account
    (account_both_answer t.accounts (range_of t.dates t.by))

-- the sums of a range by pairs of accounts
abbrev pub pairs_answer : Option (List ℕ) → Range → Chart → List BookedEntry
    → Result Answer TableFault
pairs_answer account range chart entries =
    answering (λ rows. DrCr rows chart.scale)
    (table_of range (dr_cr_of chart entries account range))

-- what `dr_cr` asks
unfoldable pub question_pairs : Config → PairsRequest → Result Question Refusal
question_pairs config q =
    question_on config q.ledger q.account (pairs_answer q.account (range_of q.dates None))
