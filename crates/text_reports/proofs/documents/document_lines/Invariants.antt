use Rattle.std.proofs.Common.{◌≡◌, ◌++◌, ◌∷◌, map, drop}
use Rattle.text_reports.specs.DocumentLists.{list_header, list_line}
use Rattle.text_reports.proofs.documents.document_lines.Given as goal

abbrev pub invariant-docs : goal.invariant-docs
invariant-docs l =
    l.lines ++ map list_line (drop l.doc-index l.docs) ≡ list_header ∷ map list_line l.docs
