use Rattle.std.proofs.Common.{refl}
use Rattle.std.proofs.lemmas.Slice.Zip.{either_empty_from_Zip}
use Rattle.text_reports.specs.Tables.{fit_line}
use Rattle.text_reports.proofs.PlacingLemmas.{fit_line-nil, walk-spent}
use Rattle.text_reports.proofs.table.fit_line.Goals as goal

pub returns : goal.returns
returns c =
    let ended = either_empty_from_Zip c.cells.column-iterator c.next.new.self _ c.in-None.is
    c.next.ensures.steps in
    walk-spent fit_line (λ _. refl) fit_line-nil c.cells.fitted.items _ _ _ ended
    c.cells.invariant
