use Rattle.std.proofs.Common.{◌≡◌}
use Rattle.serde_json.specs.View.{members_view}
use Rattle.desk_words.specs.Shapes.{each_named}
use Rattle.desk_words.proofs.Walks.{after}
use Rattle.desk_words.proofs.shapes.each_named.Given as goal

abbrev pub invariant-members : goal.invariant-members
invariant-members g l =
    let shape = g.X.FromNamed.reads l.within in
    (goal.iterator-members g).can_next l.name-iterator ×
    (goal.iterator-members g).is_finite l.name-iterator ×
    (after l.found (each_named shape (members_view l.name-iterator))
    ≡ each_named shape (members_view l.object.entries))
