use Rattle.std.proofs.Common.{◌≡◌, drop}
use Rattle.serde_json.specs.View.{members_view}
use Rattle.desk_words.specs.Members.{first_missing}
use Rattle.desk_words.proofs.members.first_missing.Given as goal

abbrev pub invariant-members : goal.invariant-members
invariant-members l =
    first_missing (drop l.m-index l.members) (members_view l.object.entries)
    ≡ first_missing l.members (members_view l.object.entries)
