use Rattle.std.proofs.Common.{map, take}
use Rattle.std.specs.List.{filter}
use Rattle.ledger_reg.specs.Walks.{Adds, booked, counts}
use Rattle.ledger_reg.proofs.walk.add_set.Given as goal

abbrev pub invariant-loop-posting : goal.invariant-loop-posting
invariant-loop-posting g l = Adds (g.S.Gathers.holds l.span) g.S.Gathers.size
    (filter (counts l.span) (map (booked l.number) (take l.posting-index l.set)))
    l.initial.sums l.sums
