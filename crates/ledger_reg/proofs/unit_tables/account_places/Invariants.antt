use Rattle.std.proofs.Common.{◌≡◌, map, take}
use Rattle.ledger_reg.specs.Sides.{place_in}
use Rattle.ledger_reg.specs.UnitRows.{account_place}
use Rattle.ledger_reg.proofs.unit_tables.account_places.Given as goal

abbrev pub invariant-loop-account : goal.invariant-loop-account
invariant-loop-account l =
    map place_in l.places ≡ map account_place (take l.account-index l.chart.accounts)
