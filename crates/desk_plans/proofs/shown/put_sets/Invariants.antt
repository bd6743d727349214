-- The sets so far are shown, before those of what is left.
use Rattle.std.proofs.Common.{◌≡◌, ◌++◌}
use Rattle.std.specs.Iterator.Adapters.{zip_first, zip_second}
use Rattle.std.specs.Slice.Iter.{iter_rest}
use Rattle.desk_plans.specs.ShownSets.{shown_spaces}
use Rattle.desk_plans.proofs.shown.put_sets.Given as goal

abbrev pub invariant-spaces : goal.invariant-spaces
invariant-spaces g l =
    let spaces = iter_rest (zip_first l.space-iterator) in
    let sets = iter_rest (zip_second l.space-iterator) in
    l.shown ++ shown_spaces g.S.Shows.name_of g.S.Shows.text_of spaces sets
    ≡ l.initial.shown ++ shown_spaces g.S.Shows.name_of g.S.Shows.text_of l.spaces l.sets
