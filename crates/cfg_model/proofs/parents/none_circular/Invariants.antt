use Rattle.std.proofs.Common.{◌≡◌, drop}
use Rattle.cfg_model.specs.Accounts.{each_checked, not_circular}
use Rattle.cfg_model.proofs.parents.none_circular.Given as goal

abbrev pub invariant-accounts : goal.invariant-accounts
invariant-accounts l =
    each_checked (not_circular l.accounts) (drop l.account-index l.accounts)
    ≡ each_checked (not_circular l.accounts) l.accounts
