use Rattle.std.proofs.Common.{◌≡◌, drop}
use Rattle.desk_model.specs.Fields.{unknown_field}
use Rattle.desk_plans.proofs.fields.are_known.Given as goal

abbrev pub invariant-texts : goal.invariant-texts
invariant-texts l =
    unknown_field l.fields (drop l.text-index l.texts) ≡ unknown_field l.fields l.texts
