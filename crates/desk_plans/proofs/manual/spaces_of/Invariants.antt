use Rattle.std.proofs.Common.{◌≡◌, drop}
use Rattle.reg_base.specs.Results.{each}
use Rattle.desk_model.specs.Manuals.{space_of}
use Rattle.desk_plans.proofs.ReadingLemmas.{following}
use Rattle.desk_plans.proofs.manual.spaces_of.Given as goal

abbrev pub invariant-sets : goal.invariant-sets
invariant-sets l = following l.spaces.items
    (each (space_of l.config) (drop l.set-index l.sets)) ≡ each (space_of l.config) l.sets
