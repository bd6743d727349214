use Rattle.std.proofs.Common.{[], ap, arith}
use Rattle.ledger_reg.specs.Sides.{amounts_size}
use Rattle.ledger_reg.specs.Sizes.{total_size}
use Rattle.ledger_reg.specs.Slots.{slots_in}
use Rattle.ledger_reg.specs.Walks.{counts}
use Rattle.ledger_reg.proofs.WalkLemmas.{all-few}
use Rattle.ledger_reg.proofs.unit_tables.span_sums.Goals as goal

pub returns-clause-value : goal.returns-clause-value
returns-clause-value c =
    c.in_ok-add_documents.ensures.sums [] (ap slots_in c.new-sums.ensures)

pub returns-clause-small : goal.returns-clause-small
returns-clause-small c = omega (
  arith,
  c.in_ok-add_documents.ensures.growth,
  ap (total_size amounts_size) c.new-sums.ensures,
  all-few (counts c.args.span.now) c.args.ledger c.args.documents c.requires.short c.requires.few,
)
