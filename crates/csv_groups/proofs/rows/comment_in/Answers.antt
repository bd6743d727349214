use Rattle.std.proofs.Common.{rules, ◌∙◌}
use Rattle.csv.specs.Records.{fields_of}
use Rattle.csv_groups.specs.declared.column.Column.TheVariants.{Comment}
use Rattle.csv_groups.proofs.CellLemmas.{reads-at}
use Rattle.csv_groups.proofs.rows.comment_in.Goals as goal

pub filled-requires : goal.filled-requires
filled-requires c =
    let columns = c.args.columns.now in
    let reads = reads-at (fields_of c.args.cells.now) Comment c.in-Some.place columns.all
    c.requires.reads (c.requires.places.comment ∙ c.in-Some.is) in
    search (rules, reads)
