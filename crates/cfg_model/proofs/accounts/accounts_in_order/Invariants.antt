use Rattle.std.proofs.Common.{◌≡◌}
use Rattle.cfg_model.specs.AccountMaps.{values_of}
use Rattle.cfg_model.proofs.accounts.accounts_in_order.Given as goal

abbrev pub invariant-loop-account : goal.invariant-loop-account
invariant-loop-account l = l.sorted ≡ values_of l.yielded
