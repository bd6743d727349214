use Rattle.std.proofs.Common.{◌≡◌, drop}
use Rattle.reg_base.specs.Results.{each}
use Rattle.desk_model.specs.Fields.{cells_of}
use Rattle.desk_plans.proofs.ReadingLemmas.{following}
use Rattle.desk_plans.proofs.writes.read_lines.Given as goal

abbrev pub invariant-texts : goal.invariant-texts
invariant-texts l = following l.lines.items
    (each (cells_of l.fields) (drop l.line-index l.texts)) ≡ each (cells_of l.fields) l.texts
