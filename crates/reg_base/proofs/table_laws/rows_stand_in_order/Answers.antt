use Rattle.reg_base.proofs.KeyLemmas as keys
use Rattle.reg_base.proofs.table_laws.rows_stand_in_order.Goals as goal

pub returns-clause-derived : goal.returns-clause-derived
returns-clause-derived c = keys.derived-unit_cmp

pub returns-clause-units : goal.returns-clause-units
returns-clause-units c = keys.unit_cmp_total

pub returns-clause-rows : goal.returns-clause-rows
returns-clause-rows c = keys.key_cmp_total

pub returns-clause-unit : goal.returns-clause-unit
returns-clause-unit c = keys.unit_cmp_exact

pub returns-clause-row : goal.returns-clause-row
returns-clause-row c = keys.key_cmp_exact
