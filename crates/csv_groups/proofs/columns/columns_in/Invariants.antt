use Rattle.std.proofs.Common.{◌≡◌, [], drop}
use Rattle.csv.specs.Records.{fields_of}
use Rattle.csv_groups.specs.Columns.{columns_behind}
use Rattle.csv_groups.proofs.columns.columns_in.Given as goal

abbrev pub invariant-cells : goal.invariant-cells
invariant-cells l =
    columns_behind l.config l.columns (drop l.index (fields_of l.header))
    ≡ columns_behind l.config [] (fields_of l.header)
