use Rattle.std.proofs.Common.{◌≡◌, ◌++◌, map, take}
use Rattle.serde_json.specs.View.{view}
use Rattle.desk_words.proofs.json_values.push_items.Given as goal

abbrev pub invariant-items : goal.invariant-items
invariant-items g l =
    map view l.values.items ≡ map view l.initial.values.items ++ map g.T.ToJson.json
    (take l.item-index l.items)
