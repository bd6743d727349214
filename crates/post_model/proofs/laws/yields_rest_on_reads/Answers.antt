use Rattle.post_model.proofs.ReadLemmas.{yield-same}
use Rattle.post_model.proofs.laws.yields_rest_on_reads.Goals as goal

pub returns : goal.returns
returns c config rules doc books others made = yield-same config doc books others rules made
