use Rattle.std.proofs.Common.{◌≡◌, map, take}
use Rattle.serde_json.specs.View.{view}
use Rattle.desk_words.specs.RowTexts.{account_row_data}
use Rattle.desk_words.proofs.row_values.account_table.Given as goal

abbrev pub invariant-rows : goal.invariant-rows
invariant-rows l =
    map view l.values.items ≡ map (account_row_data l.kind l.scale) (take l.row-index l.rows)
