use Rattle.std.proofs.Common.{arith}
use Rattle.doc_store.proofs.PlaceLemmas.{length-documents_of, documents-in-order}
use Rattle.doc_store.proofs.committed.Committed.count.Goals as goal

pub overflow_sub-result : goal.overflow_sub-result
overflow_sub-result c =
    let all = length-documents_of c.args.self.now.places.entries in
    let spare = c.requires.counted in
    let long = c.len.ensures.len in
    omega (arith, all, spare, long)

pub returns-clause-count : goal.returns-clause-count
returns-clause-count c =
    let all = length-documents_of c.args.self.now.places.entries in
    let spare = c.requires.counted in
    let long = c.len.ensures.len in
    omega (arith, all, spare, long)

pub returns-clause-ordered : goal.returns-clause-ordered
returns-clause-ordered c = documents-in-order c.args.self.now.places.entries
    c.requires.ordered c.requires.numbered
