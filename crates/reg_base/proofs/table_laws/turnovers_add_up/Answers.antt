use Rattle.reg_base.proofs.TableSums as tables
use Rattle.reg_base.proofs.table_laws.turnovers_add_up.Goals as goal

pub returns-clause-receipts : goal.returns-clause-receipts
returns-clause-receipts c = tables.receipts_add_up

pub returns-clause-expenses : goal.returns-clause-expenses
returns-clause-expenses c = tables.expenses_add_up

pub returns-clause-turnovers : goal.returns-clause-turnovers
returns-clause-turnovers c = tables.turnovers_add_up
