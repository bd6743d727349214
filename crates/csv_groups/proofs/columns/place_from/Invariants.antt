use Rattle.std.proofs.Common.{◌≡◌, drop}
use Rattle.csv_groups.specs.Columns.{place_from}
use Rattle.csv_groups.proofs.columns.place_from.Given as goal

abbrev pub invariant-columns : goal.invariant-columns
invariant-columns l =
    place_from l.column l.index (drop l.index l.columns) ≡ place_from l.column 0 l.columns
