use Rattle.std.proofs.Common.{ap, arith}
use Rattle.ledger_reg.specs.Sizes.{size_of}
use Rattle.ledger_reg.proofs.SizeLemmas.{net-fits, nets-fit, net-value, net-size}
use Rattle.ledger_reg.proofs.unit_rows.net_after.Goals as goal

pub overflow_add-result : goal.overflow_add-result
overflow_add-result c =
    net-fits c.args.net.now c.args.moved.now.debit c.args.moved.now.credit c.requires

pub overflow_sub-result : goal.overflow_sub-result
overflow_sub-result c =
    nets-fit c.args.net.now c.args.moved.now.debit c.args.moved.now.credit c.requires

pub returns-clause-value : goal.returns-clause-value
returns-clause-value c =
    net-value c.args.net.now c.args.moved.now.debit c.args.moved.now.credit c.requires

pub returns-clause-small : goal.returns-clause-small
returns-clause-small c =
    let is = ap size_of (net-value c.args.net.now c.args.moved.now.debit c.args.moved.now.credit
    c.requires) in
    let size = net-size c.args.net.now c.args.moved.now.debit c.args.moved.now.credit c.requires in
    omega (arith, is, size)
