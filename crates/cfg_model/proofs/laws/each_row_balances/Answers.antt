use Rattle.cfg_model.proofs.BalanceLemmas.{each_balances}
use Rattle.cfg_model.proofs.laws.each_row_balances.Goals as goal

pub returns : goal.returns
returns c = each_balances
