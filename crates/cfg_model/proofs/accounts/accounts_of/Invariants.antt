use Rattle.std.proofs.Common.{◌≡◌, drop}
use Rattle.toml.specs.View.{items_view}
use Rattle.cfg_model.specs.Walk.{toml_each}
use Rattle.cfg_model.specs.Accounts.{toml_account}
use Rattle.cfg_model.proofs.Walks.{with_front}
use Rattle.cfg_model.proofs.accounts.accounts_of.Given as goal

abbrev pub invariant-items : goal.invariant-items
invariant-items l =
    with_front l.found.items (toml_each toml_account (items_view (drop l.item-index l.array.items)))
    ≡ toml_each toml_account (items_view l.array.items)
