use Rattle.std.proofs.Common.{◌≡◌, ◌++◌}
use Rattle.std.specs.Iterator.Adapters.{zip_first, zip_second}
use Rattle.std.specs.Slice.Iter.{iter_rest}
use Rattle.text_reports.specs.Tables.{fit_line}
use Rattle.text_reports.proofs.table.fit_line.Given as goal

abbrev pub invariant-cells : goal.invariant-cells
invariant-cells l =
    let columns = iter_rest (zip_first l.column-iterator) in
    let cells = iter_rest (zip_second l.column-iterator) in
    l.fitted.items ++ fit_line columns cells ≡ fit_line l.columns l.cells
