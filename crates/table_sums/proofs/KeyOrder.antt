-- The order of a map's keys is that of rows.
use Rattle.std.proofs.Common.{◌≡◌}
use Rattle.std.specs.Cmp.Lexicographic.{slice_cmp}
use Rattle.std.specs.Ordering.{ordering_then}
use Rattle.std.specs.declared.vec.Vec.{Vec}
use Rattle.reg_base.specs.declared.value.Value.{Value}
use Rattle.reg_base.specs.contracts.value.ValueOrd.TheImpl.{ghosts as values}
use Rattle.reg_base.specs.declared.tables.Unit.{Unit}
use Rattle.reg_base.specs.contracts.tables.UnitOrd.TheImpl.{ghosts as units}
use Rattle.reg_base.specs.Turnovers.{key_cmp}
use Rattle.reg_base.proofs.ForAbove.{derived-value_cmp}
use Rattle.reg_base.proofs.ForTables.{derived-unit_cmp}
use Rattle.table_sums.specs.Rows.{key_seen}

pub derived-key_cmp : {A : Type 0} (a b : Vec Value A × Unit)
    → ordering_then (slice_cmp values.cmp a.0.items b.0.items) (units.cmp a.1 b.1)
    ≡ key_cmp (key_seen a) (key_seen b)
derived-key_cmp a b = λ i. ordering_then
    (slice_cmp (λ x y. derived-value_cmp x y i) a.0.items b.0.items) (derived-unit_cmp a.1 b.1 i)
