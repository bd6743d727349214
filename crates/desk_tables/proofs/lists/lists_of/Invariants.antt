use Rattle.std.proofs.Common.{◌≡◌, drop}
use Rattle.reg_base.specs.Results.{each}
use Rattle.desk_model.specs.RegisterQuestions.{asked_list}
use Rattle.desk_plans.proofs.ForAbove.{following}
use Rattle.desk_tables.proofs.lists.lists_of.Given as goal

abbrev pub invariant-texts : goal.invariant-texts
invariant-texts l = following l.lists.items
    (each (asked_list l.register) (drop l.text-index l.texts)) ≡ each (asked_list l.register) l.texts
