use Rattle.std.proofs.Common.{ap, arith}
use Rattle.std.specs.List.{sum_by}
use Rattle.desk_core.specs.Counts.{active_postings, active_records}
use Rattle.desk_core.proofs.CountLemmas.{active-few}
use Rattle.desk_core.proofs.desk.Desk.counts.Goals as goal

pub overflow_cast-result-2 : goal.overflow_cast-result-2
overflow_cast-result-2 c = omega (
  arith,
  active-few c.self.inside.store.documents,
  c.active_in-active.ensures.records,
  ap (sum_by active_records) c.walk.ensures.walk,
  c.self.invariant.kept.counted,
  c.self.invariant.kept.within,
)

pub overflow_cast-result-3 : goal.overflow_cast-result-3
overflow_cast-result-3 c = omega (
  arith,
  active-few c.self.inside.store.documents,
  c.active_in-active.ensures.postings,
  ap (sum_by active_postings) c.walk.ensures.walk,
  c.self.invariant.kept.counted,
  c.self.invariant.kept.within,
)
