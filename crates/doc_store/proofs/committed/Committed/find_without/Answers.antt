use Rattle.std.proofs.Common.{ap, ◌∙◌, sym}
use Rattle.reg_base.specs.Documents.{document_at, without_document}
use Rattle.doc_store.specs.Kept.{documents_in}
use Rattle.doc_store.proofs.SeenLemmas.{at-removed, at-left, documents-ascend}
use Rattle.doc_store.proofs.committed.Committed.find_without.Goals as goal

pub returns-then-removed-number : goal.returns-then-removed-number
returns-then-removed-number c = sym (ap (λ n. document_at n (without_document c.args.removed
    (documents_in c.args.self.now)))
    (sym c.if-removed-number.true)
    ∙ at-removed c.args.removed (documents_in c.args.self.now)
    (documents-ascend c.args.self.now.places.entries c.requires.ordered c.requires.numbered))

pub returns-else-removed-number : goal.returns-else-removed-number
returns-else-removed-number c = c.find.ensures
    ∙ sym (at-left c.args.removed c.args.number
    (λ same. c.if-removed-number.false (sym same)) (documents_in c.args.self.now)
    (documents-ascend c.args.self.now.places.entries c.requires.ordered c.requires.numbered))
