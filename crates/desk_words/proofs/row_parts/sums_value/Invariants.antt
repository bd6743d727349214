use Rattle.std.proofs.Common.{◌≡◌, ◌++◌, map}
use Rattle.std.specs.Iterator.Adapters.{zip_first, zip_second}
use Rattle.std.specs.Slice.Iter.{iter_rest}
use Rattle.serde_json.specs.Data.{string}
use Rattle.serde_json.specs.View.{view}
use Rattle.desk_words.specs.RowTexts.{sum_texts}
use Rattle.desk_words.proofs.row_parts.sums_value.Given as goal

abbrev pub invariant-sums : goal.invariant-sums
invariant-sums l =
    let scales = iter_rest (zip_first l.scale-iterator) in
    let sums = iter_rest (zip_second l.scale-iterator) in
    map view l.texts.items ++ map string (sum_texts scales sums)
    ≡ map string (sum_texts l.scales l.sums)
