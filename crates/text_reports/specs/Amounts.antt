-- Private: the numbers of a row by name.
use Rattle.std.specs.Prelude.{ℤ}
use Rattle.reg_base.specs.declared.tables.AccountRow.{AccountRow}
use Rattle.text_reports.specs.declared.totals.Amount.{Amount}
use Rattle.text_reports.specs.declared.totals.Amount.TheVariants.{OpenDr, OpenCr, TurnDr, TurnCr}
use Rattle.text_reports.specs.declared.totals.Amount.TheVariants.{CloseDr, CloseCr}

-- the number of this name
abbrev pub amount_of : Amount → AccountRow → ℤ
amount_of OpenDr = λ row. row.open_dr
amount_of OpenCr = λ row. row.open_cr
amount_of TurnDr = λ row. row.turn_dr
amount_of TurnCr = λ row. row.turn_cr
amount_of CloseDr = λ row. row.close_dr
amount_of CloseCr = λ row. row.close_cr
