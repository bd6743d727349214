use Rattle.std.proofs.Common.{◌≡◌, ◌++◌, drop, string_bytes}
use Rattle.std.specs.List.{flat_map}
use Rattle.text_reports.specs.Tables.{cells_text}
use Rattle.text_reports.proofs.table.report_string.Given as goal

abbrev pub invariant-lines : goal.invariant-lines
invariant-lines l =
    string_bytes l.text ++ flat_map (cells_text l.columns.items) (drop l.line-index l.lines)
    ≡ flat_map (cells_text l.columns.items) l.lines
