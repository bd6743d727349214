use Rattle.std.proofs.Common.{ap, ◌∙◌, sym}
use Rattle.reg_base.specs.Documents.{document_at, with_document}
use Rattle.doc_store.specs.Kept.{documents_in}
use Rattle.doc_store.proofs.SeenLemmas.{at-own, at-other}
use Rattle.doc_store.proofs.committed.Committed.find_with.Goals as goal

pub returns-then-document-number : goal.returns-then-document-number
returns-then-document-number c = sym (ap (λ n. document_at n (with_document c.args.document.now
    (documents_in c.args.self.now)))
    (sym c.if-document-number.true)
    ∙ at-own c.args.document.now (documents_in c.args.self.now))

pub returns-else-document-number : goal.returns-else-document-number
returns-else-document-number c = c.find.ensures
    ∙ sym (at-other c.args.document.now c.args.number
    (λ same. c.if-document-number.false (sym same)) (documents_in c.args.self.now))
