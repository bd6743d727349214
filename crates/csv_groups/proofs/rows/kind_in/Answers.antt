use Rattle.std.proofs.Common.{rules}
use Rattle.csv.specs.Records.{fields_of}
use Rattle.csv_groups.specs.declared.column.Column.TheVariants.{Kind}
use Rattle.csv_groups.proofs.CellLemmas.{reads-at}
use Rattle.csv_groups.proofs.rows.kind_in.Goals as goal

pub unwrap-requires : goal.unwrap-requires
unwrap-requires c =
    let columns = c.args.columns.now in
    let reads = reads-at (fields_of c.args.cells.now) Kind columns.kind columns.all
    c.requires.reads c.requires.places.kind in
    search (rules, reads)
