use Rattle.std.proofs.Common.{rules, refl}
use Rattle.csv_groups.proofs.CellLemmas.{batch-name}
use Rattle.csv_groups.proofs.rows.batch.Goals as goal

pub unwrap-requires : goal.unwrap-requires
unwrap-requires c = rw (c.parse.ensures, batch-name) refl

pub returns : goal.returns
returns c =
    let told = rw (c.parse.ensures, batch-name) at c.unwrap.ensures in
    search (rules, told)
