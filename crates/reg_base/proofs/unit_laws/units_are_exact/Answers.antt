use Rattle.reg_base.proofs.UnitLaws.{unit_start-is, next_unit-is, next_unit-None}
use Rattle.reg_base.proofs.unit_laws.units_are_exact.Goals as goal

pub returns-clause-starts : goal.returns-clause-starts
returns-clause-starts c = unit_start-is

pub returns-clause-next : goal.returns-clause-next
returns-clause-next c = next_unit-is

pub returns-clause-last : goal.returns-clause-last
returns-clause-last c = next_unit-None
