use Rattle.std.proofs.Common.{◌≡◌, drop}
use Rattle.text_reports.specs.Tables.{fit_lines}
use Rattle.text_reports.proofs.table.fit_lines.Given as goal

abbrev pub invariant-lines : goal.invariant-lines
invariant-lines l =
    fit_lines l.fitted.items (drop l.line-index l.lines) ≡ fit_lines l.columns l.lines
