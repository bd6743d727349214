use Rattle.std.proofs.Common.{ap, ◌∙◌, sym}
use Rattle.std.specs.Option.{option_copied, option_flatten}
use Rattle.doc_store.proofs.PlaceLemmas.{document_at-documents_of}
use Rattle.doc_store.proofs.committed.Committed.find.Goals as goal

pub returns-in_err-get : goal.returns-in_err-get
returns-in_err-get c = ap option_copied c.from_residual.ensures
    ∙ sym (document_at-documents_of c.args.number c.args.self.now.places.entries
    c.requires.ordered c.requires.numbered
    ∙ ap option_flatten (sym c.get.ensures.value ∙ ap option_copied c.in_err-get.was))

pub returns : goal.returns
returns c = c.document.ensures
    ∙ sym (document_at-documents_of c.args.number c.args.self.now.places.entries
    c.requires.ordered c.requires.numbered
    ∙ ap option_flatten (sym c.get.ensures.value ∙ ap option_copied c.in_ok-get.was))
