use Rattle.desk_words.proofs.Walks.{after-more}
use Rattle.desk_words.proofs.shapes.json_list.Goals as goal

pub items-preserved : goal.items-preserved
items-preserved g c =
    after-more (g.X.FromJson.reads c.args.within) _ c.items.item-index c.item-item.result
    c.items.found c.push.new.self c.in_ok-next.next _
    c.items-test.true c.item-item.is c.in_ok-next.ensures c.in_ok-push.ensures.ok c.items.invariant
