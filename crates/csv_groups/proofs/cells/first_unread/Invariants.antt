use Rattle.std.proofs.Common.{◌≡◌, drop}
use Rattle.csv.specs.Records.{fields_of}
use Rattle.csv_groups.specs.Cells.{first_unread}
use Rattle.csv_groups.proofs.cells.first_unread.Given as goal

abbrev pub invariant-columns : goal.invariant-columns
invariant-columns l =
    first_unread (fields_of l.cells) l.index (drop l.index l.columns)
    ≡ first_unread (fields_of l.cells) 0 l.columns
