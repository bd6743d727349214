use Rattle.std.proofs.Common.{◌≡◌, map, take}
use Rattle.doc_store.proofs.dates.numbers_of.Given as goal

abbrev pub invariant-points : goal.invariant-points
invariant-points l = l.numbers.items ≡ map (λ p. p.doc) (take l.point-index l.points)
