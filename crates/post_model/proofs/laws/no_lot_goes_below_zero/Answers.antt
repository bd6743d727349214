use Rattle.post_model.proofs.LotLemmas.{write_off-leaves_none}
use Rattle.post_model.proofs.laws.no_lot_goes_below_zero.Goals as goal

pub returns : goal.returns
returns c = write_off-leaves_none
