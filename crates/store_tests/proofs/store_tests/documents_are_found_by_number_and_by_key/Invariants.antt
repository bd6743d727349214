use Rattle.std.proofs.Common.{◌≡◌, []}
use Rattle.store_tests.proofs.store_tests.documents_are_found_by_number_and_by_key.Given as goal

abbrev pub invariant-changes : goal.invariant-changes
invariant-changes g l = l.store.staged ≡ []
