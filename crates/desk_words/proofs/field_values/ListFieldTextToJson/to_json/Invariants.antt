use Rattle.std.proofs.Common.{◌≡◌, drop}
use Rattle.serde_json.specs.Data.{string, no_members}
use Rattle.serde_json.specs.View.{members_view}
use Rattle.desk_words.specs.JsonValues.{put_named}
use Rattle.desk_words.specs.declared.request.FieldText.{FieldText}
use Rattle.desk_words.proofs.field_values.ListFieldTextToJson.to_json.Given as goal

abbrev pub invariant-fields : goal.invariant-fields
invariant-fields l =
    let name_of = λ (field : FieldText). field.name in
    let data_of = λ (field : FieldText). string field.text in
    put_named name_of data_of (members_view l.members.entries) (drop l.field-index l.field-items)
    ≡ put_named name_of data_of no_members l.field-items
