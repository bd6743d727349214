use Rattle.std.proofs.Common.{◌≡◌}
use Rattle.std.specs.List.{fold}
use Rattle.std.specs.Vec.Iter.{into_iter_items}
use Rattle.cfg_model.specs.Accounts.{put_account, by_code}
use Rattle.cfg_model.specs.AccountMaps.{AreKeyed, values_of}
use Rattle.cfg_model.proofs.accounts.by_code.Given as goal

abbrev pub invariant-accounts : goal.invariant-accounts
invariant-accounts l =
    (fold (λ sorted a. put_account a sorted) (values_of l.by_code.entries)
    (into_iter_items l.account-iterator) ≡ by_code l.fn.accounts)
    × AreKeyed l.by_code.entries
