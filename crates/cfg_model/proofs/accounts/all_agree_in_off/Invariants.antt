use Rattle.std.proofs.Common.{◌≡◌, drop, codes}
use Rattle.cfg_model.specs.Words.{key_path}
use Rattle.cfg_model.specs.Accounts.{each_checked, has_parents_off}
use Rattle.cfg_model.proofs.accounts.all_agree_in_off.Given as goal

abbrev pub invariant-accounts : goal.invariant-accounts
invariant-accounts l =
    let path = key_path (codes "ledger") l.entry.name.now (codes "accounts") in
    each_checked (has_parents_off path l.accounts)
    (drop l.account-index l.accounts)
    ≡ each_checked (has_parents_off path l.accounts) l.accounts
