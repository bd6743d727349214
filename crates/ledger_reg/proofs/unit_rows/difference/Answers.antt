use Rattle.std.proofs.Common.{ap, arith}
use Rattle.ledger_reg.specs.Sizes.{size_of}
use Rattle.ledger_reg.proofs.SizeLemmas.{difference-fits, difference-value, size-minus}
use Rattle.ledger_reg.proofs.unit_rows.difference.Goals as goal

pub overflow_sub-result : goal.overflow_sub-result
overflow_sub-result c =
    difference-fits c.args.sums.now.debit c.args.sums.now.credit (omega (arith, c.requires))
    (omega (arith, c.requires))

pub returns-clause-value : goal.returns-clause-value
returns-clause-value c =
    difference-value c.args.sums.now.debit c.args.sums.now.credit (omega (arith, c.requires))
    (omega (arith, c.requires))

pub returns-clause-small : goal.returns-clause-small
returns-clause-small c =
    let is = ap size_of (difference-value c.args.sums.now.debit c.args.sums.now.credit
    (omega (arith, c.requires)) (omega (arith, c.requires))) in
    omega (arith, is, size-minus c.args.sums.now.debit c.args.sums.now.credit, c.requires)
