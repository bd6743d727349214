use Rattle.std.proofs.Common.{ap, ◌∙◌}
use Rattle.std.proofs.lemmas.Slice.Zip.{either_empty_from_Zip}
use Rattle.serde_json.proofs.Views.{view-Array}
use Rattle.serde_json.specs.Data.{array}
use Rattle.serde_json.specs.View.{items_of}
use Rattle.desk_words.specs.JsonValues.{texts_data}
use Rattle.desk_words.proofs.ReplyLemmas.{sum_texts-spent}
use Rattle.desk_words.proofs.row_parts.sums_value.Goals as goal

pub returns : goal.returns
unfolding texts_data
returns c =
    let ended = either_empty_from_Zip c.sums.scale-iterator c.next.new.self _ c.in-None.is
    c.next.ensures.steps in
    view-Array c.sums.texts ∙ ap (λ ds. array (items_of ds))
    (sum_texts-spent _ _ _ _ ended c.sums.invariant)
