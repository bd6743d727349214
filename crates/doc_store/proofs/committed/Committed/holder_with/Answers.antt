use Rattle.std.proofs.Common.{ap, ◌∙◌, sym}
use Rattle.doc_store.specs.Holders.{least_of, own_number_of}
use Rattle.doc_store.proofs.HolderLemmas.{holder-with}
use Rattle.doc_store.proofs.SeenLemmas.{documents-ascend}
use Rattle.doc_store.proofs.committed.Committed.holder_with.Goals as goal

pub returns : goal.returns
returns c = c.least.ensures
    ∙ ap (λ own. least_of own c.holder-other.result) c.own_number.ensures
    ∙ ap (least_of (own_number_of c.args.key.now c.args.document.now)) c.holder-other.ensures
    ∙ sym (holder-with c.args.key.now c.args.document.now _
    (documents-ascend c.args.self.now.places.entries c.requires.ordered c.requires.numbered))
