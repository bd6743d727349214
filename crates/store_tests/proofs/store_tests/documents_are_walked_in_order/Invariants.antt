use Rattle.std.proofs.Common.{◌≡◌, []}
use Rattle.store_tests.proofs.store_tests.documents_are_walked_in_order.Given as goal

abbrev pub invariant-numbers : goal.invariant-numbers
invariant-numbers g l = l.store.staged ≡ []
