use Rattle.reg_base.proofs.UnitLaws.{unit_start-monotone, unit_start-lt}
use Rattle.reg_base.proofs.unit_laws.unit_starts_keep_order.Goals as goal

pub returns-clause-order : goal.returns-clause-order
returns-clause-order c = unit_start-monotone

pub returns-clause-before : goal.returns-clause-before
returns-clause-before c = unit_start-lt
