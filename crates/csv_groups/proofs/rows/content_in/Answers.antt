use Rattle.std.proofs.Common.{refl, lit≤}
use Rattle.csv.specs.Records.{fields_of}
use Rattle.csv_groups.specs.declared.column.Column.TheVariants.{Key, Kind}
use Rattle.csv_groups.proofs.CellLemmas.{batch-name, date_in-within, reads-at}
use Rattle.csv_groups.proofs.rows.content_in.Goals as goal

pub returns-clause-formed : goal.returns-clause-formed
returns-clause-formed c =
    let columns = c.args.columns.now in
    let cells = fields_of c.args.cells.now in
    let is_key = reads-at cells Key columns.key columns.all c.requires.reads
    c.requires.places.key in
    let is_kind = reads-at cells Kind columns.kind columns.all c.requires.reads
    c.requires.places.kind in
    record {
      formed = record {
        clerk = rw c.batch.ensures batch-name;
        number = (lit≤ tt, lit≤ tt);
        doc = tt;
        key = rw c.requires.key is_key;
        alone = tt;
        kind = rw c.kind_in-kind.ensures is_kind;
        date = rw c.date_in.ensures (date_in-within _);
        head = c.in_ok-head.ensures.formed;
        lines = rw c.in_ok-lines.ensures (c.in_ok-line.ensures.formed, tt);
        comment = c.in_ok-comment.ensures.formed;
        no_tx = refl;
      };
      clerk = c.batch.ensures;
      number = refl;
      doc = refl;
      key_given = refl;
    }
