use Rattle.post_model.proofs.SetLemmas.{yield-within}
use Rattle.post_model.proofs.laws.yields_are_within_limits.Goals as goal

pub returns : goal.returns
returns c = yield-within
