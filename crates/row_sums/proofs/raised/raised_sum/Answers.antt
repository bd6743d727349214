use Rattle.std.proofs.Common.{arith}
use Rattle.std.proofs.lemmas.Int.{ints}
use Rattle.row_sums.proofs.raised.raised_sum.Goals as goal

pub returns-clause-value : goal.returns-clause-value
returns-clause-value c = omega (
  arith,
  ints,
  c.amount_at.ensures.value,
  c.amount_at.ensures.small,
  c.sum_in.ensures,
  c.requires,
)
