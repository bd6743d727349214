-- The rows so far and those that are left are all rows of the place, and its net stays small.
use Rattle.std.proofs.Common.{◌≡◌, ◌+◌, ◌*◌, ◌^◌, ◌≤◌, ◌++◌, length, drop}
use Rattle.reg_base.specs.Turnovers.{row_limit}
use Rattle.ledger_reg.specs.Sizes.{size_of}
use Rattle.ledger_reg.specs.Slots.{slot_in, slots_in}
use Rattle.ledger_reg.specs.UnitRows.{place_of, unit_rows}
use Rattle.ledger_reg.proofs.unit_rows.put_from.Given as goal

abbrev pub invariant-loop-start : goal.invariant-loop-start
invariant-loop-start l = record {
  rows : l.rows ++ unit_rows l.units l.nature (slots_in l.sums.sums.entries)
      (place_of (slot_in l.fn.first)) l.net (drop l.start-index l.units.starts)
      ≡ l.initial.rows ++ unit_rows l.units l.nature (slots_in l.sums.sums.entries)
      (place_of (slot_in l.fn.first)) l.opening l.units.starts;
  few : length l.initial.rows ≤ row_limit → length l.rows ≤ row_limit;
  place : place_of (slot_in l.at) ≡ place_of (slot_in l.fn.first);
  small : size_of l.net ≤ 2 ^ 64 * 2 ^ 46 * (l.start-index + 1);
}
