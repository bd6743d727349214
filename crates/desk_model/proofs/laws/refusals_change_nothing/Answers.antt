use Rattle.desk_model.proofs.LawLemmas.{step-refusal, RefusalKeeps-always}
use Rattle.desk_model.proofs.laws.refusals_change_nothing.Goals as goal

pub returns : goal.returns
returns c = record { requests = step-refusal; lines = RefusalKeeps-always }
