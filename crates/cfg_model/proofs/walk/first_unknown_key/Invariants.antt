use Rattle.std.proofs.Common.{◌≡◌}
use Rattle.toml.specs.View.{members_view}
use Rattle.cfg_model.specs.Words.{texts, first_unknown_key}
use Rattle.cfg_model.proofs.walk.first_unknown_key.Given as goal

abbrev pub invariant-keys : goal.invariant-keys
invariant-keys l =
    (goal.iterator-keys).can_next l.key-iterator × (goal.iterator-keys).is_finite l.key-iterator
    × (first_unknown_key (texts l.known) (members_view l.key-iterator)
    ≡ first_unknown_key (texts l.known) (members_view l.table.entries))
