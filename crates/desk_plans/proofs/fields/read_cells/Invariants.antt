use Rattle.std.proofs.Common.{◌≡◌, drop}
use Rattle.reg_base.specs.Results.{each}
use Rattle.desk_model.specs.Fields.{cell_of}
use Rattle.desk_plans.proofs.ReadingLemmas.{following}
use Rattle.desk_plans.proofs.fields.read_cells.Given as goal

abbrev pub invariant-fields : goal.invariant-fields
invariant-fields l = following l.cells.items
    (each (cell_of l.texts) (drop l.field-index l.fields)) ≡ each (cell_of l.texts) l.fields
