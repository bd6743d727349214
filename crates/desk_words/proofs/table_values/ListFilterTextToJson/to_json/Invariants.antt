use Rattle.std.proofs.Common.{◌≡◌, drop}
use Rattle.serde_json.specs.Data.{no_members}
use Rattle.serde_json.specs.View.{members_view}
use Rattle.desk_words.specs.JsonValues.{texts_data, put_named}
use Rattle.desk_words.specs.declared.request.FilterText.{FilterText}
use Rattle.desk_words.proofs.table_values.ListFilterTextToJson.to_json.Given as goal

abbrev pub invariant-filters : goal.invariant-filters
invariant-filters l =
    let name_of = λ (filter : FilterText). filter.name in
    let data_of = λ (filter : FilterText). texts_data filter.values in
    put_named name_of data_of (members_view l.members.entries) (drop l.filter-index l.filter-items)
    ≡ put_named name_of data_of no_members l.filter-items
