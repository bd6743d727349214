use Rattle.std.proofs.Common.{◌≡◌, ◌++◌, drop}
use Rattle.text_reports.specs.ShownValues.{shown_numbers}
use Rattle.text_reports.proofs.cells.push_numbers.Given as goal

abbrev pub invariant-numbers : goal.invariant-numbers
invariant-numbers l =
    l.cells ++ shown_numbers l.scale (drop l.number-index l.numbers)
    ≡ l.initial.cells ++ shown_numbers l.scale l.numbers
