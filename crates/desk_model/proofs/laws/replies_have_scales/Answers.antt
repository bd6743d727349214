use Rattle.desk_model.proofs.ScaleLemmas.{HasScales-step}
use Rattle.desk_model.proofs.laws.replies_have_scales.Goals as goal

pub returns : goal.returns
returns c = HasScales-step
