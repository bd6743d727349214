use Rattle.reg_base.proofs.BalanceLemmas.{balance_of-permutation, records_of-permutation}
use Rattle.reg_base.proofs.order_laws.balances_take_records_in_any_order.Goals as goal

pub returns-clause-balances : goal.returns-clause-balances
returns-clause-balances c =
    λ resources xs ys asked by cut. balance_of-permutation resources asked by cut xs ys

pub returns-clause-records : goal.returns-clause-records
returns-clause-records c = records_of-permutation
