-- The sums so far have their texts, before those of what is left.
use Rattle.std.proofs.Common.{◌≡◌, ◌++◌, map}
use Rattle.std.specs.Iterator.Adapters.{zip_first, zip_second}
use Rattle.std.specs.Slice.Iter.{iter_rest}
use Rattle.desk_words.specs.RowTexts.{sum_texts}
use Rattle.desk_plans.proofs.shown.sum_texts.Given as goal

abbrev pub invariant-sums : goal.invariant-sums
invariant-sums l =
    let resources = iter_rest (zip_first l.resource-iterator) in
    let sums = iter_rest (zip_second l.resource-iterator) in
    l.texts ++ sum_texts (map (λ x. x.scale) resources) sums
    ≡ sum_texts (map (λ x. x.scale) l.resources) l.sums
