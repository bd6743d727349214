use Rattle.doc_store.specs.Kept.{documents_in}
use Rattle.doc_store.specs.Holders.{AwaitsHolders, all_but}
use Rattle.doc_store.proofs.committed.Committed.holder.Given as goal

abbrev pub invariant-pairs : goal.invariant-pairs
invariant-pairs l = AwaitsHolders l.key (all_but l.but (documents_in l.self)) l.pair-iterator
