use Rattle.std.proofs.Common.{ℕ, ap, arith}
use Rattle.ledger_reg.specs.Sides.{amounts_size}
use Rattle.ledger_reg.specs.Slots.{slot_in}
use Rattle.ledger_reg.specs.UnitRows.{place_of}
use Rattle.ledger_reg.proofs.MovedLemmas.{in_slot-size}
use Rattle.ledger_reg.proofs.unit_rows.amounts_in.Goals as goal

pub returns-clause-small : goal.returns-clause-small
returns-clause-small c = omega (
  arith,
  ap {B = ℕ} amounts_size c.amounts_at.ensures,
  in_slot-size (place_of (slot_in c.args.at.now)) c.args.slot c.args.sums.now.sums.entries,
)
