use Rattle.std.proofs.Common.{◌≡◌, map, take}
use Rattle.post_model.specs.WriteOffs.{holding_of}
use Rattle.post_rules.proofs.lefts.holdings_in.Given as goal

abbrev pub invariant-rows : goal.invariant-rows
invariant-rows l = l.holdings ≡ map (holding_of l.quantity l.amount) (take l.row-index l.rows)
