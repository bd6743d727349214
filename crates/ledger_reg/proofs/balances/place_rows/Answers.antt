use Rattle.std.proofs.Common.{arith}
use Rattle.ledger_reg.proofs.NetBelowLemmas.{sums-more}
use Rattle.ledger_reg.proofs.balances.place_rows.Goals as goal

pub put_place-requires : goal.put_place-requires
put_place-requires c = omega (
  arith,
  c.requires,
  sums-more c.args.sums.now c.loop-sum.sum-index c.sum-item.result c.loop-sum-test.true
      c.sum-item.is,
)
