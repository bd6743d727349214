use Rattle.std.proofs.Common.{◌≡◌, drop}
use Rattle.cfg_model.specs.Accounts.{each_checked, has_known_parent}
use Rattle.cfg_model.proofs.accounts.all_parents_known.Given as goal

abbrev pub invariant-accounts : goal.invariant-accounts
invariant-accounts l =
    each_checked (has_known_parent l.accounts) (drop l.account-index l.accounts)
    ≡ each_checked (has_known_parent l.accounts) l.accounts
