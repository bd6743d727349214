use Rattle.std.proofs.Common.{arith}
use Rattle.doc_store.proofs.PlaceLemmas.{length-documents_of, documents-in-order}
use Rattle.doc_store.proofs.committed.Committed.documents.Goals as goal

pub returns-clause-ordered : goal.returns-clause-ordered
returns-clause-ordered c = documents-in-order c.args.self.now.places.entries
    c.requires.ordered c.requires.numbered

pub returns-clause-fits : goal.returns-clause-fits
returns-clause-fits c =
    let all = length-documents_of c.args.self.now.places.entries in
    let few = c.iter.ensures.fits in
    omega (arith, all, few)
