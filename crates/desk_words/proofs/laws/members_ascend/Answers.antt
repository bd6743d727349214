use Rattle.desk_words.proofs.OrderLemmas.{members-ascend}
use Rattle.desk_words.proofs.laws.members_ascend.Goals as goal

pub returns : goal.returns
returns c = members-ascend
