-- What is made of all is made of what is left, from the sets so far.
use Rattle.std.proofs.Common.{◌≡◌}
use Rattle.std.specs.Vec.Iter.{into_iter_items}
use Rattle.desk_model.specs.RecordSets.{with_given}
use Rattle.desk_plans.proofs.making.with_given.Given as goal

abbrev pub invariant-given : goal.invariant-given
invariant-given l =
    with_given l.config l.date l.sets (into_iter_items l.set-iterator) ≡ with_given l.config l.date
    l.initial.sets l.fn.given
