use Rattle.reg_base.proofs.OrderLemmas.{point_cmp_total, value_cmp_total, values_cmp_total}
use Rattle.reg_base.proofs.order_laws.orders_are_total.Goals as goal

pub returns-clause-points : goal.returns-clause-points
returns-clause-points c = point_cmp_total

pub returns-clause-values : goal.returns-clause-values
returns-clause-values c = value_cmp_total

pub returns-clause-lists : goal.returns-clause-lists
returns-clause-lists c = values_cmp_total
