use Rattle.std.proofs.Common.{◌+ℤ◌, ap, ◌∙◌, sym, arith, take_all, to_z}
use Rattle.std.specs.Int.{w128}
use Rattle.cfg_model.specs.AccountTables.{is_at_or_below}
use Rattle.ledger_reg.specs.Sizes.{size_of}
use Rattle.ledger_reg.specs.Balances.{counted, net_below}
use Rattle.ledger_reg.proofs.NetBelowLemmas.{sums-more, net-more, net-small, net_below-size}
use Rattle.ledger_reg.proofs.NetBelowLemmas.{plus-fits, plus-value}
use Rattle.ledger_reg.proofs.nets.net_below.Goals as goal

pub part_of-net-requires : goal.part_of-net-requires
part_of-net-requires c = omega (
  arith,
  c.requires,
  sums-more c.args.sums.now c.loop-sum.sum-index c.sum-item.result c.loop-sum-test.true
      c.sum-item.is,
)

pub overflow_add-net : goal.overflow_add-net
overflow_add-net c =
    plus-fits (to_z w128 c.loop-sum.net-bits) c.part_of-net.result
    (net-small c.args.sums.now c.loop-sum.sum-index c.sum-item.result c.args.chart.now
    c.args.top.now c.run_of-run.result.counts (to_z w128 c.loop-sum.net-bits)
    c.part_of-net.result c.loop-sum-test.true c.sum-item.is c.requires
    c.loop-sum.invariant.net c.part_of-net.ensures)

pub loop-sum-preserved : goal.loop-sum-preserved
loop-sum-preserved c =
    let small = net-small c.args.sums.now c.loop-sum.sum-index c.sum-item.result c.args.chart.now
    c.args.top.now c.run_of-run.result.counts (to_z w128 c.loop-sum.net-bits)
    c.part_of-net.result c.loop-sum-test.true c.sum-item.is c.requires
    c.loop-sum.invariant.net c.part_of-net.ensures in
    let part = c.part_of-net.ensures
    ∙ ap (λ b. counted b c.sum-item.result) c.run_of-run.ensures.counts in
    record {
      net = plus-value (to_z w128 c.loop-sum.net-bits) c.part_of-net.result small
          ∙ (λ i. c.loop-sum.invariant.net i +ℤ part i)
          ∙ sym (net-more c.args.sums.now c.loop-sum.sum-index c.sum-item.result
          c.loop-sum-test.true c.sum-item.is c.args.chart.now c.args.top.now);
      run = c.run_of-run.ensures.counts
          ∙ ap (is_at_or_below c.args.chart.now c.args.top.now)
          (sym c.run_of-run.ensures.account);
    }

pub returns-clause-small : goal.returns-clause-small
returns-clause-small c = omega (
  arith,
  c.requires,
  net_below-size c.args.chart.now c.args.top.now c.args.sums.now,
  ap size_of (c.loop-sum.invariant.net
      ∙ ap (net_below c.args.chart.now c.args.top.now)
      (take_all c.loop-sum.sum-index c.args.sums.now c.loop-sum-test.false)),
)
