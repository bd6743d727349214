use Rattle.std.proofs.Common.{◌≡◌, drop}
use Rattle.cfg_model.specs.Places.{account_at}
use Rattle.cfg_model.proofs.entry.account_at.Given as goal

abbrev pub invariant-accounts : goal.invariant-accounts
invariant-accounts l =
    account_at l.code (drop l.account-index l.accounts) ≡ account_at l.code l.accounts
