use Rattle.std.proofs.Common.{◌≡◌, map, take}
use Rattle.desk_model.specs.Fields.{field_texts}
use Rattle.desk_plans.proofs.shown.line_texts.Given as goal

abbrev pub invariant-loop-line : goal.invariant-loop-line
invariant-loop-line l = l.texts ≡ map (field_texts l.fields) (take l.line-index l.lines)
