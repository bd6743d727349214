use Rattle.desk_history.proofs.ReplayLemmas.{line-replays, step-replays}
use Rattle.desk_history.proofs.laws.accepted_requests_are_replayed.Goals as goal

pub returns-clause-steps : goal.returns-clause-steps
returns-clause-steps c =
    step-replays c.entries_read_back.ensures c.accepted_requests_replay.ensures

pub returns-clause-lines : goal.returns-clause-lines
returns-clause-lines c =
    line-replays c.entries_read_back.ensures c.accepted_requests_replay.ensures
