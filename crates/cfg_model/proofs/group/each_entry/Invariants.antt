use Rattle.std.proofs.Common.{◌≡◌, map, ◌++◌}
use Rattle.toml.specs.View.{members_view}
use Rattle.cfg_model.specs.Walk.{each_entry, member_keys}
use Rattle.cfg_model.proofs.ForAbove.{result_front}
use Rattle.cfg_model.proofs.group.each_entry.Given as goal

abbrev pub invariant-entries : goal.invariant-entries
invariant-entries g l =
    let read = g.E.FromEntry.reads l.config in
    (goal.iterator-entries g).can_next l.name-iterator
    × (goal.iterator-entries g).is_finite l.name-iterator
    × (result_front l.found.items (each_entry read (members_view l.name-iterator))
    ≡ each_entry read (members_view l.entries.entries))
    × (map g.E.FromEntry.entry_name l.found.items ++ member_keys (members_view l.name-iterator)
    ≡ member_keys (members_view l.entries.entries))
