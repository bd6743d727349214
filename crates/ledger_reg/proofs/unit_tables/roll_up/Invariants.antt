-- What is added and what is left to add come to all sums.
use Rattle.std.proofs.Common.{◌≡◌, ◌+◌, ◌≤◌, []}
use Rattle.std.specs.List.{flat_map}
use Rattle.cfg_model.specs.AccountTables.{is_at_or_below}
use Rattle.ledger_reg.specs.Sides.{amounts_size}
use Rattle.ledger_reg.specs.Sizes.{total_size}
use Rattle.ledger_reg.specs.Slots.{slots_in, slots_size, add_slots}
use Rattle.ledger_reg.specs.UnitRows.{rolled_at}
use Rattle.ledger_reg.proofs.unit_tables.roll_up.Given as goal

abbrev pub invariant-loop-key : goal.invariant-loop-key
invariant-loop-key l = record {
  value : add_slots (slots_in l.rolled.sums.entries)
      (flat_map (rolled_at l.chart l.top) (slots_in l.key-iterator))
      ≡ add_slots [] (flat_map (rolled_at l.chart l.top) (slots_in l.sums.sums.entries));
  last : l.last.counts ≡ is_at_or_below l.chart l.top l.last.account;
  size : slots_size l.rolled + total_size amounts_size l.key-iterator ≤ slots_size l.sums;
}
