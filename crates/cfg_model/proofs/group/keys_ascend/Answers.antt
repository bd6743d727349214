use Rattle.cfg_model.proofs.Walks.{keys-ascend}
use Rattle.cfg_model.proofs.group.keys_ascend.Goals as goal

pub returns : goal.returns
returns c = keys-ascend _ c.iter.ensures.ordered
