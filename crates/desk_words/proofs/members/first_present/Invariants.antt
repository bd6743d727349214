use Rattle.std.proofs.Common.{◌≡◌, drop}
use Rattle.serde_json.specs.View.{members_view}
use Rattle.desk_words.specs.Members.{first_present}
use Rattle.desk_words.proofs.members.first_present.Given as goal

abbrev pub invariant-members : goal.invariant-members
invariant-members l =
    first_present (drop l.m-index l.members) (members_view l.object.entries)
    ≡ first_present l.members (members_view l.object.entries)
