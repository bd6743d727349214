-- The rows so far and those of the accounts that are left are all rows.
use Rattle.std.proofs.Common.{◌≡◌, ◌≤◌, ◌++◌, length, drop}
use Rattle.std.specs.List.{flat_map}
use Rattle.reg_base.specs.Turnovers.{row_limit}
use Rattle.ledger_reg.specs.Balances.{whole_row}
use Rattle.ledger_reg.proofs.balances.whole_rows.Given as goal

abbrev pub invariant-loop-account : goal.invariant-loop-account
invariant-loop-account l = record {
  rows : l.rows ++ flat_map (whole_row l.chart l.asked l.sums) (drop l.account-index l.accounts)
      ≡ flat_map (whole_row l.chart l.asked l.sums) l.accounts;
  few : length l.rows ≤ row_limit;
}
