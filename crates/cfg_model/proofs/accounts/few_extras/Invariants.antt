use Rattle.std.proofs.Common.{◌≡◌, drop, codes}
use Rattle.cfg_model.specs.Words.{key_path}
use Rattle.cfg_model.specs.Accounts.{each_checked, few_extras}
use Rattle.cfg_model.proofs.accounts.few_extras.Given as goal

abbrev pub invariant-accounts : goal.invariant-accounts
invariant-accounts l =
    let path = key_path (codes "ledger") l.entry.name.now (codes "accounts") in
    each_checked (few_extras path) (drop l.account-index l.accounts)
    ≡ each_checked (few_extras path) l.accounts
