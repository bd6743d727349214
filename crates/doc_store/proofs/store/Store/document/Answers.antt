use Rattle.doc_store.proofs.SeenLemmas.{found-number}
use Rattle.doc_store.proofs.store.Store.document.Goals as goal

pub returns-clause-numbered : goal.returns-clause-numbered
returns-clause-numbered c = found-number c.args.number _ c.find.result c.find.ensures
