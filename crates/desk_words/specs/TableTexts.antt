-- The members of requests for tables.
use Rattle.std.specs.Prelude.{ℕ, List, option_map, codes}
use Rattle.serde_json.specs.Data.{Data, boolean, string, object, Members, no_members, put}
use Rattle.reg_base.specs.Cuts.{cut_text}
use Rattle.reg_base.specs.Dates.{date_text}
use Rattle.reg_base.specs.declared.cut.Cut.{Cut}
use Rattle.reg_base.specs.declared.tables.Periodicity.{Periodicity}
use Rattle.reg_base.specs.declared.tables.Periodicity.TheVariants.{Period, Record, Recorder, Day}
use Rattle.reg_base.specs.declared.tables.Periodicity.TheVariants.{Week, TenDays, Month, Quarter}
use Rattle.reg_base.specs.declared.tables.Periodicity.TheVariants.{HalfYear, Year}
use Rattle.reg_base.specs.declared.tables.Method.{Method}
use Rattle.reg_base.specs.declared.tables.Method.TheVariants.{Movements}
use Rattle.reg_base.specs.declared.tables.Method.TheVariants.{MovementsAndPeriodBoundaries}
use Rattle.desk_words.specs.declared.request.Balance.{Balance}
use Rattle.desk_words.specs.declared.request.FilterText.{FilterText}
use Rattle.desk_words.specs.declared.tables.AskedRegister.{AskedRegister}
use Rattle.desk_words.specs.declared.tables.AskedAccounts.{AskedAccounts}
use Rattle.desk_words.specs.declared.tables.AskedDates.{AskedDates}
use Rattle.desk_words.specs.declared.tables.Turnovers.{Turnovers}
use Rattle.desk_words.specs.declared.tables.Both.{Both}
use Rattle.desk_words.specs.declared.tables.AccountBalance.{AccountBalance}
use Rattle.desk_words.specs.declared.tables.AccountTurnovers.{AccountTurnovers}
use Rattle.desk_words.specs.declared.tables.DrCr.{DrCr}
use Rattle.desk_words.specs.declared.tables.DocumentsQuestion.{DocumentsQuestion}
use Rattle.desk_words.specs.JsonValues.{whole, texts_data, put_if, put_named}

-- the word of a periodicity
abbrev pub by_name : Periodicity → List ℕ
by_name Period = codes "period"
by_name Record = codes "record"
by_name Recorder = codes "recorder"
by_name Day = codes "day"
by_name Week = codes "week"
by_name TenDays = codes "ten_days"
by_name Month = codes "month"
by_name Quarter = codes "quarter"
by_name HalfYear = codes "half_year"
by_name Year = codes "year"

-- the word of a method
abbrev pub method_name : Method → List ℕ
method_name Movements = codes "movements"
method_name MovementsAndPeriodBoundaries = codes "boundaries"

-- words, dates and cuts as texts
abbrev pub by_data : Periodicity → Data
by_data by = string (by_name by)

abbrev pub method_data : Method → Data
method_data method = string (method_name method)

abbrev pub date_data : ℕ → Data
date_data date = string (date_text date)

abbrev pub cut_data : Cut → Data
cut_data cut = string (cut_text cut)

-- the values that dimensions may have, by their names
abbrev pub filters_data : List FilterText → Data
filters_data filters =
    object (put_named (λ filter. filter.name) (λ filter. texts_data filter.values) no_members
    filters)

-- the members that each table has: the clerk, and the word of the operation
abbrev pub table_frame : List ℕ → List ℕ → Members
table_frame op clerk = put (codes "op") (string op) (put (codes "clerk") (string clerk) no_members)

-- members, with what a table of a register is asked by among them
unfoldable pub put_register : AskedRegister → Members → Members
put_register register ms =
    put_if (codes "group") (option_map texts_data register.group)
    (put_if (codes "filter") (option_map filters_data register.filter)
    (put (codes "register") (string register.name) ms))

-- members, with what a table of accounts is asked by among them
unfoldable pub put_accounts : AskedAccounts → Members → Members
put_accounts accounts ms =
    put_if (codes "extras") (option_map boolean accounts.extras)
    (put_if (codes "account") (option_map string accounts.account)
    (put (codes "ledger") (string accounts.ledger) ms))

-- members, with the dates of a table among them
unfoldable pub put_dates : AskedDates → Members → Members
put_dates dates ms =
    put_if (codes "to") (option_map date_data dates.to)
    (put_if (codes "from") (option_map date_data dates.from) ms)

-- the members of `balance`
unfoldable pub balance_members : Balance → Members
balance_members b =
    put_if (codes "tx") (option_map whole b.tx)
    (put_if (codes "cut") (option_map cut_data b.cut)
    (put_register b.register (table_frame (codes "balance") b.clerk)))

-- the members of `turnovers` and of `both`, whose word is given
unfoldable pub turnovers_members : List ℕ → Turnovers → Members
turnovers_members op t =
    put_if (codes "tx") (option_map whole t.tx)
    (put_if (codes "by") (option_map by_data t.by)
    (put_dates t.dates (put_register t.register (table_frame op t.clerk))))

-- the members of `both`
unfoldable pub both_members : Both → Members
both_members b =
    put_if (codes "method") (option_map method_data b.method)
    (turnovers_members (codes "both") b.turnovers)

-- the members of `account_balance`
unfoldable pub account_balance_members : AccountBalance → Members
account_balance_members a =
    put_if (codes "tx") (option_map whole a.tx)
    (put_if (codes "cut") (option_map cut_data a.cut)
    (put_accounts a.accounts (table_frame (codes "account_balance") a.clerk)))

-- the members of `account_turnovers` and of `account_both`, whose word is given
unfoldable pub account_turnovers_members : List ℕ → AccountTurnovers → Members
account_turnovers_members op a =
    put_if (codes "tx") (option_map whole a.tx)
    (put_if (codes "by") (option_map by_data a.by)
    (put_dates a.dates (put_accounts a.accounts (table_frame op a.clerk))))

-- the members of `dr_cr`
unfoldable pub dr_cr_members : DrCr → Members
dr_cr_members d =
    put_if (codes "tx") (option_map whole d.tx)
    (put_dates d.dates
    (put_if (codes "account") (option_map string d.account)
    (put (codes "ledger") (string d.ledger) (table_frame (codes "dr_cr") d.clerk))))

-- the members of `documents`
unfoldable pub documents_members : DocumentsQuestion → Members
documents_members d =
    put_if (codes "tx") (option_map whole d.tx)
    (put_dates d.dates (table_frame (codes "documents") d.clerk))
