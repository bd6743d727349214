use Rattle.std.proofs.Common.{◌≡◌}
use Rattle.serde_json.specs.View.{members_view}
use Rattle.desk_words.specs.Members.{first_unknown_member}
use Rattle.desk_words.proofs.members.first_unknown_member.Given as goal

abbrev pub invariant-entries : goal.invariant-entries
invariant-entries l =
    (goal.iterator-entries).can_next l.name-iterator ×
    (goal.iterator-entries).is_finite l.name-iterator ×
    (first_unknown_member l.operation (members_view l.name-iterator)
    ≡ first_unknown_member l.operation (members_view l.object.entries))
