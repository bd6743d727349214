use Rattle.std.proofs.Common.{◌≡◌, []}
use Rattle.store_tests.proofs.store_tests.slot_0_alone_sees_what_is_staged.Given as goal

abbrev pub invariant-staged : goal.invariant-staged
invariant-staged g l = l.store.staged ≡ []
