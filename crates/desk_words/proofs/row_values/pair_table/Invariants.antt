use Rattle.std.proofs.Common.{◌≡◌, map, take}
use Rattle.serde_json.specs.View.{view}
use Rattle.desk_words.specs.RowTexts.{pair_row_data}
use Rattle.desk_words.proofs.row_values.pair_table.Given as goal

abbrev pub invariant-rows : goal.invariant-rows
invariant-rows l =
    map view l.values.items ≡ map (pair_row_data l.scale) (take l.row-index l.rows)
