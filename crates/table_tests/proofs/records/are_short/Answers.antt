use Rattle.std.proofs.Common.{◌∷◌, sym}
use Rattle.std.proofs.lemmas.List.Elements.{All-same, All-cons}
use Rattle.virt_tables.specs.Bounds.{HasShortRecords}
use Rattle.table_tests.proofs.ShortLemmas.{short-sets}
use Rattle.table_tests.proofs.records.are_short.Goals as goal

pub documents-preserved : goal.documents-preserved
documents-preserved c = λ left.
    let document = c.in-Some.document.now in
    c.documents.invariant
    (All-same HasShortRecords c.documents.document-iterator (document ∷ c.next.new.self)
    c.in-Some.ensures.steps
    (All-cons HasShortRecords document c.next.new.self
    (short-sets document (sym c.if-not-is_short.ensures)) left))
