use Rattle.cfg_model.proofs.LedgerLemmas.{ledger_balances}
use Rattle.cfg_model.proofs.laws.debits_equal_credits.Goals as goal

pub returns : goal.returns
returns c = ledger_balances
