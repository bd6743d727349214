use Rattle.std.proofs.Common.{◌≡◌, drop}
use Rattle.desk_words.specs.Members.{is_name_of}
use Rattle.desk_words.proofs.members.is_name_of.Given as goal

abbrev pub invariant-members : goal.invariant-members
invariant-members l = is_name_of (drop l.m-index l.members) l.name ≡ is_name_of l.members l.name
