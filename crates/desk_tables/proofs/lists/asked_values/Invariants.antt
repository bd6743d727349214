use Rattle.std.proofs.Common.{◌≡◌, drop}
use Rattle.reg_base.specs.Results.{each}
use Rattle.desk_model.specs.RegisterQuestions.{asked_value}
use Rattle.desk_plans.proofs.ForAbove.{following}
use Rattle.desk_tables.proofs.lists.asked_values.Given as goal

abbrev pub invariant-texts : goal.invariant-texts
invariant-texts l = following l.values.items
    (each (asked_value l.dimension) (drop l.text-index l.texts)) ≡ each (asked_value l.dimension) l.texts
