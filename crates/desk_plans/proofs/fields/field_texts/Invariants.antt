-- The values so far have their texts, before those of what is left.
use Rattle.std.proofs.Common.{◌≡◌, ◌++◌}
use Rattle.std.specs.Iterator.Adapters.{zip_first, zip_second}
use Rattle.std.specs.Slice.Iter.{iter_rest}
use Rattle.desk_model.specs.Fields.{field_texts}
use Rattle.desk_plans.proofs.fields.field_texts.Given as goal

abbrev pub invariant-fields : goal.invariant-fields
invariant-fields l =
    let fields = iter_rest (zip_first l.field-iterator) in
    let cells = iter_rest (zip_second l.field-iterator) in
    l.texts.items ++ field_texts fields cells ≡ field_texts l.fields l.cells
