use Rattle.std.proofs.Common.{◌≡◌, ◌+◌, length}
use Rattle.store_tests.proofs.store_tests.walked.Given as goal

abbrev pub invariant-documents : goal.invariant-documents
invariant-documents l = l.count + length l._document-iterator ≡ length l.store.documents
