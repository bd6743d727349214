use Rattle.std.proofs.Common.{◌≡◌, drop}
use Rattle.desk_model.specs.Manuals.{are_distinct}
use Rattle.desk_plans.proofs.manual.are_distinct.Given as goal

abbrev pub invariant-spaces : goal.invariant-spaces
invariant-spaces l = are_distinct (drop l.index l.spaces) ≡ are_distinct l.spaces
