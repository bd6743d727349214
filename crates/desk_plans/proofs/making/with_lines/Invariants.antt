-- The records so far stand before those that are made of what is left, and there is room for all.
use Rattle.std.proofs.Common.{◌≡◌, ◌+◌, ◌≤◌, ◌++◌, filter, length, vec_len}
use Rattle.std.specs.Vec.Iter.{into_iter_items}
use Rattle.desk_model.specs.RecordSets.{is_made, with_lines}
use Rattle.desk_plans.proofs.making.with_lines.Given as goal

abbrev pub invariant-given : goal.invariant-given
invariant-given l =
    (l.records.items ++ with_lines (vec_len l.records + 1) l.date
    (filter is_made (into_iter_items l.g-iterator)) ≡ with_lines 1 l.date
    (filter is_made l.fn.given))
    × (vec_len l.records + length (filter is_made (into_iter_items l.g-iterator)) ≤ 5000)
