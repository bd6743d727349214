use Rattle.std.proofs.Common.{map}
use Rattle.std.proofs.lemmas.Slice.Zip.{either_empty_from_Zip}
use Rattle.desk_words.specs.RowTexts.{sum_texts}
use Rattle.desk_plans.proofs.ShownLemmas.{resource_sums-spent}
use Rattle.desk_plans.proofs.shown.sum_texts.Goals as goal

pub returns : goal.returns
returns c =
    let ended = either_empty_from_Zip c.sums.resource-iterator c.next.new.self _ c.in-None.is
    c.next.ensures.steps in
    resource_sums-spent c.sums.texts _ _
    (sum_texts (map (λ x. x.scale) c.args.resources.now) c.args.sums.now) ended c.sums.invariant
