-- Where the documents that are left are short, all are.
use Rattle.std.specs.List.{All}
use Rattle.virt_tables.specs.Bounds.{HasShortRecords}
use Rattle.table_tests.proofs.records.are_short.Given as goal

abbrev pub invariant-documents : goal.invariant-documents
invariant-documents l =
    All HasShortRecords l.document-iterator → All HasShortRecords l.store.documents
