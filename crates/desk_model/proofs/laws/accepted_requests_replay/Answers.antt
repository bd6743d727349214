use Rattle.desk_model.proofs.ReplayLemmas.{Replays-always}
use Rattle.desk_model.proofs.laws.accepted_requests_replay.Goals as goal

pub returns : goal.returns
returns c = Replays-always
