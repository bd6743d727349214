use Rattle.std.proofs.Common.{◌≡◌, drop}
use Rattle.toml.specs.View.{items_view}
use Rattle.cfg_model.specs.Walk.{toml_each, toml_text}
use Rattle.cfg_model.proofs.Walks.{with_front}
use Rattle.cfg_model.proofs.element.spelled.Given as goal

abbrev pub invariant-items : goal.invariant-items
invariant-items g l =
    let shape = toml_text g.E.Element.reads in
    with_front l.found.items (toml_each shape (items_view (drop l.item-index l.array.items)))
    ≡ toml_each shape (items_view l.array.items)
