use Rattle.std.proofs.Common.{◌≡◌, ◌++◌, take, string_bytes}
use Rattle.std.specs.List.{flat_map}
use Rattle.rule_lang.proofs.spelt.text_behind.Given as goal

abbrev pub invariant-items : goal.invariant-items
invariant-items g l =
    string_bytes l.text
    ≡ l.front ++ flat_map (λ y. g.T.Spelt.joint_of y ++ g.T.Spelt.text_of l.context y)
    (take l.item-index l.items)
