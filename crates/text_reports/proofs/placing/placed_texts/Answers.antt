use Rattle.std.proofs.Common.{refl}
use Rattle.std.proofs.lemmas.Slice.Zip.{either_empty_from_Zip}
use Rattle.text_reports.specs.Tables.{placed_texts}
use Rattle.text_reports.proofs.PlacingLemmas.{placed_texts-nil, walk-spent}
use Rattle.text_reports.proofs.placing.placed_texts.Goals as goal

pub returns : goal.returns
returns c =
    let ended = either_empty_from_Zip c.cells.column-iterator c.next.new.self _ c.in-None.is
    c.next.ensures.steps in
    walk-spent placed_texts (λ _. refl) placed_texts-nil c.cells.texts _ _ _ ended
    c.cells.invariant
