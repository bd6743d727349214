use Rattle.std.proofs.Common.{◌≡◌, length}
use Rattle.doc_store.specs.Kept.{documents_of}
use Rattle.doc_store.proofs.documents.DocumentsIterator.next.Given as goal

abbrev pub invariant-loop-place : goal.invariant-loop-place
invariant-loop-place l =
    documents_of l.self-inside.places ≡ documents_of l.initial.self-inside.places

abbrev pub decreases-loop-place : goal.decreases-loop-place
decreases-loop-place l = length l.self-inside.places
