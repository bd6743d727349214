use Rattle.reg_base.proofs.TableOrder.{turnovers_of-permutation}
use Rattle.reg_base.proofs.TableOrder.{balance_and_turnovers_of-permutation}
use Rattle.reg_base.proofs.TableOrder.{entries_of-permutation}
use Rattle.reg_base.proofs.table_laws.tables_take_records_in_any_order.Goals as goal

pub returns-clause-turnovers : goal.returns-clause-turnovers
returns-clause-turnovers c = turnovers_of-permutation

pub returns-clause-both : goal.returns-clause-both
returns-clause-both c = balance_and_turnovers_of-permutation

pub returns-clause-entries : goal.returns-clause-entries
returns-clause-entries c = entries_of-permutation
