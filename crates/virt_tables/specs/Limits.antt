-- Private: rows put behind others, as long as they are no more than a table may have.
use Rattle.std.specs.Prelude.{ℕ, nat_le, List, length, Result, Ok}
use Rattle.reg_base.specs.declared.fault.TableFault.{TableFault}
use Rattle.reg_base.specs.declared.fault.TableFault.TheVariants.{TooManyRows}
use Rattle.reg_base.specs.Results.{◌>>=◌, unless}
use Rattle.reg_base.specs.Turnovers.{row_limit}

-- goes on where so many rows are no more than a table may have
abbrev pub room_for : ℕ → Result (Unit {0}) TableFault
room_for count = unless (nat_le count row_limit) (TooManyRows row_limit)

-- rows, where they are no more than a table may have
abbrev pub limited : {R : Type 0} → List R → Result (List R) TableFault
limited rows = room_for (length rows) >>= λ _. Ok rows
