-- What was read of the parts so far stands before what is left to be read.
use Rattle.std.proofs.Common.{◌≡◌, drop}
use Rattle.desk_model.specs.GivenRecords.{values_for}
use Rattle.desk_plans.proofs.PartLemmas.{behind}
use Rattle.desk_plans.proofs.part.values_for.Given as goal

abbrev pub invariant-parts : goal.invariant-parts
invariant-parts g l =
    behind l.spelt.items (values_for g.P.Part.reads (drop l.index l.parts) (drop l.index l.texts))
    ≡ values_for g.P.Part.reads l.parts l.texts
