-- The entries of the documents so far are added.
use Rattle.std.proofs.Common.{length, take}
use Rattle.std.specs.List.{filter, flat_map}
use Rattle.reg_base.specs.BookedEntries.{entered_by}
use Rattle.ledger_reg.specs.Walks.{Adds, counts}
use Rattle.ledger_reg.proofs.walk.add_documents.Given as goal

abbrev pub invariant-loop-document : goal.invariant-loop-document
invariant-loop-document g l = Adds (g.S.Gathers.holds l.span) g.S.Gathers.size
    (filter (counts l.span)
    (flat_map (entered_by l.ledger) (take (length l.yielded) l.fn.documents)))
    l.initial.sums l.sums
