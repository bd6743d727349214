-- Private: the entries of a map, seen as rows.
use Rattle.std.specs.Prelude.{ℤ, List, map}
use Rattle.std.specs.declared.vec.Vec.{Vec}
use Rattle.reg_base.specs.declared.value.Value.{Value}
use Rattle.reg_base.specs.declared.tables.Unit.{Unit}
use Rattle.reg_base.specs.Turnovers.{RowKey}
use Rattle.table_sums.specs.declared.sums.UnitSums.{UnitSums}

-- the key of an entry
abbrev pub key_seen : {A : Type 0} → Vec Value A × Unit → RowKey
key_seen key = record { group = key.0.items; unit = key.1 }

-- the rows of keys with their sums
abbrev pub rows_of : {A B : Type 0} → List ((Vec Value A × Unit) × Vec ℤ B) → List UnitSums
rows_of entries =
    map (λ e. record { group = e.0.0.items; unit = e.0.1; sums = e.1.items }) entries
