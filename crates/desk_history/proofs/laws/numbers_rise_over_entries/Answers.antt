use Rattle.desk_history.proofs.OrderLemmas.{replayed-rise}
use Rattle.desk_history.proofs.laws.numbers_rise_over_entries.Goals as goal

pub returns : goal.returns
returns c = replayed-rise
