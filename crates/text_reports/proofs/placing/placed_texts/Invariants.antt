use Rattle.std.proofs.Common.{◌≡◌, ◌++◌}
use Rattle.std.specs.Iterator.Adapters.{zip_first, zip_second}
use Rattle.std.specs.Slice.Iter.{iter_rest}
use Rattle.text_reports.specs.Tables.{placed_texts}
use Rattle.text_reports.proofs.placing.placed_texts.Given as goal

abbrev pub invariant-cells : goal.invariant-cells
invariant-cells l =
    let columns = iter_rest (zip_first l.column-iterator) in
    let cells = iter_rest (zip_second l.column-iterator) in
    l.texts ++ placed_texts columns cells ≡ placed_texts l.columns l.cells
