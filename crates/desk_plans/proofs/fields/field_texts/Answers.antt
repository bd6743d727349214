use Rattle.std.proofs.Common.{◌∙◌}
use Rattle.std.proofs.lemmas.Slice.Zip.{either_empty_from_Zip}
use Rattle.desk_model.specs.Fields.{field_texts}
use Rattle.desk_plans.proofs.FieldLemmas.{field_texts-spent}
use Rattle.desk_plans.proofs.fields.field_texts.Goals as goal

pub returns : goal.returns
returns c =
    let ended = either_empty_from_Zip c.fields.field-iterator c.next.new.self _ c.in-None.is
    c.next.ensures.steps in
    c.from_vec.ensures ∙ field_texts-spent c.fields.texts.items _ _
    (field_texts c.args.fields.now c.args.cells.now) ended c.fields.invariant
