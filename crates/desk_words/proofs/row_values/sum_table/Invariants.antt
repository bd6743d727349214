use Rattle.std.proofs.Common.{◌≡◌, map, take}
use Rattle.serde_json.specs.View.{view}
use Rattle.desk_words.specs.RowTexts.{row_data}
use Rattle.desk_words.proofs.row_values.sum_table.Given as goal

abbrev pub invariant-rows : goal.invariant-rows
invariant-rows l =
    map view l.values.items ≡ map (row_data l.scales) (take l.row-index l.rows)
