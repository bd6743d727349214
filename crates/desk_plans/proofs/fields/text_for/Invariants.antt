use Rattle.std.proofs.Common.{◌≡◌, drop}
use Rattle.desk_model.specs.Fields.{text_for}
use Rattle.desk_plans.proofs.fields.text_for.Given as goal

abbrev pub invariant-texts : goal.invariant-texts
invariant-texts l = text_for l.name (drop l.text-index l.texts) ≡ text_for l.name l.texts
