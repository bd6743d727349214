-- The entries so far stand before those that are made of what is left.
use Rattle.std.proofs.Common.{◌≡◌, ◌+◌, ◌≤◌, filter, vec_len}
use Rattle.std.specs.Vec.Iter.{into_iter_items}
use Rattle.desk_model.specs.Entries.{is_entry_made, entries_from}
use Rattle.desk_plans.proofs.ReadingLemmas.{following}
use Rattle.desk_plans.proofs.entries.entry_set.Given as goal

abbrev pub invariant-given : goal.invariant-given
invariant-given l =
    (following l.entries.items (entries_from l.chart l.date (vec_len l.entries + 1)
    (filter is_entry_made (into_iter_items l.g-iterator))) ≡ entries_from l.chart l.date 1
    (filter is_entry_made l.fn.given))
    × (vec_len l.entries ≤ 5000)
