-- Private: rows of a table, put one behind another as long as there are not too many.
use Rattle.std.specs.Prelude.{◌≡◌, ◌≤◌, List, ◌++◌, length, Result, Ok, Err}
use Rattle.reg_base.specs.declared.fault.TableFault.{TableFault}
use Rattle.reg_base.specs.declared.tried.Fault.{Fault}
use Rattle.reg_base.specs.declared.tried.Fault.TheVariants.{Refused, Memory}
use Rattle.reg_base.specs.Turnovers.{row_limit, limited_rows}

-- the rows are put behind the others, or there are too many, whatever comes behind them
abbrev pub Puts : {R : Type 0} → Result (Unit {0}) (Fault TableFault) → List R → List R → List R
    → Type 0
Puts (Ok u) more old new = (new ≡ old ++ more) × (length old ≤ row_limit → length new ≤ row_limit)
Puts {R} (Err (Refused e)) more old new =
    (rest : List R) → limited_rows (old ++ (more ++ rest)) ≡ Err e
Puts (Err Memory) more old new = Unit {0}
