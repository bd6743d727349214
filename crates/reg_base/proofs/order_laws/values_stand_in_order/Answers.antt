use Rattle.std.proofs.Common.{refl}
use Rattle.reg_base.proofs.OrderLemmas.{derived-value_cmp}
use Rattle.reg_base.proofs.order_laws.values_stand_in_order.Goals as goal

pub returns-clause-codes : goal.returns-clause-codes
returns-clause-codes c = λ a b. refl

pub returns-clause-names : goal.returns-clause-names
returns-clause-names c = λ a b. refl

pub returns-clause-points : goal.returns-clause-points
returns-clause-points c = λ p q. refl

pub returns-clause-values : goal.returns-clause-values
returns-clause-values c = derived-value_cmp
