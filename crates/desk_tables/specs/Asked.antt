-- What is asked of a register or a ledger, found and read.
use Rattle.std.specs.Prelude.{ℕ, Bool, true, if◌then◌else◌, Option, List, slice_get, Result}
use Rattle.std.specs.Prelude.{Ok, Err}
use Rattle.reg_base.specs.declared.records.Document.{Document}
use Rattle.reg_base.specs.declared.fault.TableFault.{TableFault}
use Rattle.reg_base.specs.Results.{◌>>=◌, unless, some_or}
use Rattle.cfg_model.specs.declared.config.Config.{Config}
use Rattle.cfg_model.specs.declared.register.Register.{Register}
use Rattle.cfg_model.specs.declared.ledger.Chart.{Chart}
use Rattle.cfg_model.specs.Places.{register_place, ledger_place}
use Rattle.virt_tables.specs.declared.ask.Ask.{Ask}
use Rattle.virt_tables.specs.Asks.{asked_by}
use Rattle.ledger_reg.specs.declared.AccountAsk.{AccountAsk}
use Rattle.desk_words.specs.declared.tables.AskedRegister.{AskedRegister}
use Rattle.desk_words.specs.declared.tables.AskedAccounts.{AskedAccounts}
use Rattle.desk_words.specs.declared.reply.Refusal.{Refusal}
use Rattle.desk_words.specs.declared.reply.Refusal.TheVariants.{BadField, Table}
use Rattle.desk_words.specs.declared.reply.Field.TheVariants.{Register as RegisterField}
use Rattle.desk_words.specs.declared.reply.Field.TheVariants.{Ledger as LedgerField}
use Rattle.desk_words.specs.declared.reply.Field.TheVariants.{Account as AccountField}
use Rattle.desk_tables.specs.declared.asked.Asking.{Asking}
use Rattle.desk_tables.specs.declared.asked.AskingLedger.{AskingLedger}
use Rattle.desk_model.specs.RegisterQuestions.{asked_lists}
use Rattle.desk_model.specs.LedgerQuestions.{has_asked_account, asks_extras}

-- a table, or the refusal that it is not made
abbrev pub refused : {R : Type 0} → Result R TableFault → Result R Refusal
refused (Ok rows) = Ok rows
refused (Err fault) = Err (Table fault)

-- whether a register has a table: all have, or those with balances
abbrev pub has_one : Bool → Register → Bool
has_one balances_alone register = if balances_alone then register.balance else true

-- what is asked of a register, with the register
pub record AskedOf : Type 0 where
  pub ask : Ask
  pub register : Register

abbrev pub asking_view : Asking → AskedOf
asking_view a = record { ask = a.ask; register = a.register.now }

-- what is asked of a register that has the table, or why it can't be asked
unfoldable pub asking_of : Config → AskedRegister → Bool → Result AskedOf Refusal
asking_of config asked balances_alone = do
  place ← some_or (register_place asked.name config.registers) (BadField RegisterField)
  register ← some_or (slice_get config.registers place) (BadField RegisterField)
  _ ← unless (has_one balances_alone register) (BadField RegisterField)
  lists ← asked_lists register asked.filter
  ask ← refused (asked_by register place lists asked.group)
  Ok (record { ask = ask; register = register })

-- the ledger that is asked, with its chart
pub record AskedLedger : Type 0 where
  pub place : ℕ
  pub chart : Chart

-- what is asked of a ledger that has the account, or why it can't be asked
unfoldable pub asking_ledger : Config → List ℕ → Option (List ℕ) → Result AskedLedger Refusal
asking_ledger config ledger account = do
  place ← some_or (ledger_place ledger config.ledgers) (BadField LedgerField)
  chart ← some_or (slice_get config.ledgers place) (BadField LedgerField)
  _ ← unless (has_asked_account chart account) (BadField AccountField)
  Ok (record { place = place; chart = chart })

abbrev pub ledger_view : AskingLedger → AskedLedger
ledger_view a = record { place = a.place; chart = a.chart.now }

-- what is asked of the ledger at a place
abbrev pub ask_with : ℕ → AskedAccounts → AccountAsk
ask_with place accounts =
    record { ledger = place; account = accounts.account; extras = asks_extras accounts }
