use Rattle.cfg_model.proofs.Walks.{none-ascend}
use Rattle.cfg_model.proofs.group.read_group.Goals as goal

pub returns-in-None-clause-in_order : goal.returns-in-None-clause-in_order
returns-in-None-clause-in_order g c = rw c.new.ensures none-ascend
