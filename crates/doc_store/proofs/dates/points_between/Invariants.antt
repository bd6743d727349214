-- The points of the documents so far are there.
use Rattle.std.proofs.Common.{◌≡◌, length, map, take}
use Rattle.std.specs.List.{filter}
use Rattle.reg_base.specs.Documents.{document_point}
use Rattle.doc_store.specs.Dates.{is_between}
use Rattle.doc_store.proofs.dates.points_between.Given as goal

abbrev pub invariant-loop-document : goal.invariant-loop-document
invariant-loop-document l = l.points.items
    ≡ map document_point (filter (is_between l.from l.to)
    (take (length l.yielded) l.fn.documents))
