-- Each request for a table from its members, which are read in their order: so the first that is
-- not of its shape is told.
use Rattle.std.specs.Prelude.{None, Ok}
use Rattle.serde_json.specs.Data.{Members}
use Rattle.reg_base.specs.Results.{◌>>=◌}
use Rattle.desk_words.specs.declared.fault.Member.TheVariants.{Clerk, Register, Cut, Filter, Group}
use Rattle.desk_words.specs.declared.fault.Member.TheVariants.{From, To, By, Method, Ledger}
use Rattle.desk_words.specs.declared.fault.Member.TheVariants.{Account, Extras}
use Rattle.desk_words.specs.declared.request.Balance.{Balance}
use Rattle.desk_words.specs.declared.tables.AskedRegister.{AskedRegister}
use Rattle.desk_words.specs.declared.tables.AskedAccounts.{AskedAccounts}
use Rattle.desk_words.specs.declared.tables.AskedDates.{AskedDates}
use Rattle.desk_words.specs.declared.tables.Turnovers.{Turnovers}
use Rattle.desk_words.specs.declared.tables.Both.{Both}
use Rattle.desk_words.specs.declared.tables.AccountBalance.{AccountBalance}
use Rattle.desk_words.specs.declared.tables.AccountTurnovers.{AccountTurnovers}
use Rattle.desk_words.specs.declared.tables.DrCr.{DrCr}
use Rattle.desk_words.specs.declared.tables.DocumentsQuestion.{DocumentsQuestion}
use Rattle.desk_words.specs.Shapes.{OrFault, required_at, optional_at, json_name, json_code}
use Rattle.desk_words.specs.Shapes.{json_names, json_date, json_date_end, json_cut, json_boolean}
use Rattle.desk_words.specs.TableShapes.{json_filters, json_by, json_account_by, json_method}

-- what a table of a register is asked by
unfoldable pub asked_register : Members → OrFault AskedRegister
asked_register object = do
  name ← required_at json_name Register object
  filter ← optional_at json_filters Filter object
  group ← optional_at json_names Group object
  Ok (record { name = name; filter = filter; group = group })

-- what a table of accounts is asked by
unfoldable pub asked_accounts : Members → OrFault AskedAccounts
asked_accounts object = do
  ledger ← required_at json_name Ledger object
  account ← optional_at json_code Account object
  extras ← optional_at json_boolean Extras object
  Ok (record { ledger = ledger; account = account; extras = extras })

-- the dates of a table: a day alone is its first second where they begin, and its last where they
-- end
unfoldable pub asked_dates : Members → OrFault AskedDates
asked_dates object = do
  first ← optional_at json_date From object
  last ← optional_at json_date_end To object
  Ok (record { from = first; to = last })

-- a question for a balance
unfoldable pub balance_request : Members → OrFault Balance
balance_request object = do
  clerk ← required_at json_name Clerk object
  register ← asked_register object
  cut ← optional_at json_cut Cut object
  Ok (record { clerk = clerk; register = register; cut = cut; tx = None })

-- a question for turnovers
unfoldable pub turnovers_request : Members → OrFault Turnovers
turnovers_request object = do
  clerk ← required_at json_name Clerk object
  register ← asked_register object
  dates ← asked_dates object
  by ← optional_at json_by By object
  Ok (record { clerk = clerk; register = register; dates = dates; by = by; tx = None })

-- a question for balances and turnovers
unfoldable pub both_request : Members → OrFault Both
both_request object = do
  turnovers ← turnovers_request object
  method ← optional_at json_method Method object
  Ok (record { turnovers = turnovers; method = method })

-- a question for the balances of accounts
unfoldable pub account_balance_request : Members → OrFault AccountBalance
account_balance_request object = do
  clerk ← required_at json_name Clerk object
  accounts ← asked_accounts object
  cut ← optional_at json_cut Cut object
  Ok (record { clerk = clerk; accounts = accounts; cut = cut; tx = None })

-- a question for the turnovers of accounts, with their balances or without
unfoldable pub account_turnovers_request : Members → OrFault AccountTurnovers
account_turnovers_request object = do
  clerk ← required_at json_name Clerk object
  accounts ← asked_accounts object
  dates ← asked_dates object
  by ← optional_at json_account_by By object
  Ok (record { clerk = clerk; accounts = accounts; dates = dates; by = by; tx = None })

-- a question for the amounts between accounts
unfoldable pub dr_cr_request : Members → OrFault DrCr
dr_cr_request object = do
  clerk ← required_at json_name Clerk object
  ledger ← required_at json_name Ledger object
  account ← optional_at json_code Account object
  dates ← asked_dates object
  Ok (record { clerk = clerk; ledger = ledger; account = account; dates = dates; tx = None })

-- a question for the documents of a range of dates
unfoldable pub documents_question : Members → OrFault DocumentsQuestion
documents_question object = do
  clerk ← required_at json_name Clerk object
  dates ← asked_dates object
  Ok (record { clerk = clerk; dates = dates; tx = None })
