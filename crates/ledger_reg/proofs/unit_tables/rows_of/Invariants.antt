-- The rows so far and those that are left are all rows.
use Rattle.std.proofs.Common.{◌≡◌, ◌≤◌, ◌++◌, length, map, drop}
use Rattle.std.specs.List.{flat_map}
use Rattle.reg_base.specs.Turnovers.{row_limit}
use Rattle.ledger_reg.specs.Sides.{place_in}
use Rattle.ledger_reg.specs.Slots.{slots_in}
use Rattle.ledger_reg.specs.UnitRows.{asked_rows}
use Rattle.ledger_reg.proofs.unit_tables.rows_of.Given as goal

abbrev pub invariant-loop-place : goal.invariant-loop-place
invariant-loop-place l = record {
  rows : l.rows ++ flat_map (asked_rows l.chart l.ask l.units (slots_in l.sums.sums.entries))
      (map place_in (drop l.place-index l.places))
      ≡ flat_map (asked_rows l.chart l.ask l.units (slots_in l.sums.sums.entries))
      (map place_in l.places);
  few : length l.rows ≤ row_limit;
}
