use Rattle.std.proofs.Common.{◌≡◌, drop}
use Rattle.serde_json.specs.View.{items_view}
use Rattle.desk_words.specs.Shapes.{json_each}
use Rattle.desk_words.proofs.Walks.{after}
use Rattle.desk_words.proofs.shapes.json_list.Given as goal

abbrev pub invariant-items : goal.invariant-items
invariant-items g l =
    let shape = g.X.FromJson.reads l.within in
    after l.found (json_each shape (items_view (drop l.item-index l.item-items)))
    ≡ json_each shape (items_view l.item-items)
