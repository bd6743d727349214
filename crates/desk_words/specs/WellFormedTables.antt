-- Requests for tables as they are read.
use Rattle.std.specs.Prelude.{◌≡◌, ℕ, Some, None, IfSome, List, map}
use Rattle.std.specs.Cmp.Lexicographic.{slice_cmp}
use Rattle.std.specs.List.{AllByRecursion}
use Rattle.std.specs.List.Sorted.{IsStrictlySortedBy}
use Rattle.std.specs.Ordering.{nat_cmp}
use Rattle.std.specs.Str.{IsUtf8}
use Rattle.reg_base.specs.Cuts.{IsCut}
use Rattle.reg_base.specs.declared.tables.Periodicity.{Periodicity}
use Rattle.desk_words.specs.declared.request.Balance.{Balance}
use Rattle.desk_words.specs.declared.request.FilterText.{FilterText}
use Rattle.desk_words.specs.declared.tables.AskedRegister.{AskedRegister}
use Rattle.desk_words.specs.declared.tables.AskedAccounts.{AskedAccounts}
use Rattle.desk_words.specs.declared.tables.AskedDates.{AskedDates}
use Rattle.desk_words.specs.declared.tables.Turnovers.{Turnovers}
use Rattle.desk_words.specs.declared.tables.Both.{Both}
use Rattle.desk_words.specs.declared.tables.AccountBalance.{AccountBalance}
use Rattle.desk_words.specs.declared.tables.AccountTurnovers.{AccountTurnovers}
use Rattle.desk_words.specs.declared.tables.DrCr.{DrCr}
use Rattle.desk_words.specs.declared.tables.DocumentsQuestion.{DocumentsQuestion}
use Rattle.desk_words.specs.TableShapes.{account_by_named}
use Rattle.desk_words.specs.TableTexts.{by_name}
use Rattle.desk_words.specs.WellFormedParts.{IsName, IsCode, IsDate}

-- the values of a dimension: a name, and texts
abbrev pub IsFilterText : FilterText → Type 0
IsFilterText filter = IsName filter.name × AllByRecursion IsUtf8 filter.values

-- filters in byte order of their names, each once
abbrev pub AreFilters : List FilterText → Type 0
AreFilters filters =
    AllByRecursion IsFilterText filters
    × IsStrictlySortedBy (slice_cmp nat_cmp) (map (λ filter. filter.name) filters)

abbrev pub AreNames : List (List ℕ) → Type 0
AreNames names = AllByRecursion IsName names

-- what a table of a register is asked by is well formed
pub record IsAskedRegister (register : AskedRegister) : Type 0 where
  pub name : IsName register.name
  pub filter : IfSome register.filter AreFilters
  pub group : IfSome register.group AreNames

-- what a table of accounts is asked by is well formed
pub record IsAskedAccounts (accounts : AskedAccounts) : Type 0 where
  pub ledger : IsName accounts.ledger
  pub account : IfSome accounts.account IsCode

-- the dates of a table are dates
pub record IsAskedDates (dates : AskedDates) : Type 0 where
  pub first : IfSome dates.from IsDate
  pub last : IfSome dates.to IsDate

-- a periodicity that a table of accounts has
abbrev pub IsAccountBy : Periodicity → Type 0
IsAccountBy by = account_by_named (by_name by) ≡ Some by

-- the members of `balance` that are built are well formed, and the others absent
pub record IsBalanceRequest (b : Balance) : Type 0 where
  pub clerk : IsName b.clerk
  pub register : IsAskedRegister b.register
  pub cut : IfSome b.cut IsCut
  pub no_tx : b.tx ≡ None

-- the members of `turnovers` that are built are well formed, and the others absent
pub record IsTurnovers (t : Turnovers) : Type 0 where
  pub clerk : IsName t.clerk
  pub register : IsAskedRegister t.register
  pub dates : IsAskedDates t.dates
  pub no_tx : t.tx ≡ None

-- so are those of `both`
abbrev pub IsBoth : Both → Type 0
IsBoth b = IsTurnovers b.turnovers

-- the members of `account_balance` that are built are well formed, and the others absent
pub record IsAccountBalance (a : AccountBalance) : Type 0 where
  pub clerk : IsName a.clerk
  pub accounts : IsAskedAccounts a.accounts
  pub cut : IfSome a.cut IsCut
  pub no_tx : a.tx ≡ None

-- the members of `account_turnovers` and of `account_both` that are built are well formed, and the
-- others absent
pub record IsAccountTurnovers (a : AccountTurnovers) : Type 0 where
  pub clerk : IsName a.clerk
  pub accounts : IsAskedAccounts a.accounts
  pub dates : IsAskedDates a.dates
  pub by : IfSome a.by IsAccountBy
  pub no_tx : a.tx ≡ None

-- the members of `dr_cr` that are built are well formed, and the others absent
pub record IsDrCr (d : DrCr) : Type 0 where
  pub clerk : IsName d.clerk
  pub ledger : IsName d.ledger
  pub account : IfSome d.account IsCode
  pub dates : IsAskedDates d.dates
  pub no_tx : d.tx ≡ None

-- the members of `documents` that are built are well formed, and the others absent
pub record IsDocumentsQuestion (d : DocumentsQuestion) : Type 0 where
  pub clerk : IsName d.clerk
  pub dates : IsAskedDates d.dates
  pub no_tx : d.tx ≡ None
