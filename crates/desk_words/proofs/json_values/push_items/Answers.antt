use Rattle.std.proofs.Common.{map}
use Rattle.serde_json.specs.View.{view}
use Rattle.desk_words.proofs.Walks.{values-more}
use Rattle.desk_words.proofs.json_values.push_items.Goals as goal

pub items-preserved : goal.items-preserved
items-preserved g c =
    values-more view g.T.ToJson.json (map view c.args.values.now.items) c.items.values.items
    c.push.new.self.items c.in_ok-to_json.field-0 _ _ _
    c.items-test.true c.item-item.is c.in_ok-to_json.ensures c.in_ok-push.ensures.items
    c.items.invariant
