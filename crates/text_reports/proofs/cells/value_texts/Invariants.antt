use Rattle.std.proofs.Common.{◌≡◌, map, take}
use Rattle.text_reports.specs.ShownValues.{shown_value}
use Rattle.text_reports.proofs.cells.value_texts.Given as goal

abbrev pub invariant-values : goal.invariant-values
invariant-values l = l.texts ≡ map shown_value (take l.value-index l.group)
