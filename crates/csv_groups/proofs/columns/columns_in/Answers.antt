use Rattle.std.proofs.Common.{ap, sym, ◌∙◌, Err, List, Result}
use Rattle.csv_groups.specs.declared.column.Column.{Column}
use Rattle.csv_groups.specs.declared.fault.RowFault.{RowFault}
use Rattle.csv.specs.Records.{fields_of}
use Rattle.csv_groups.proofs.ColumnLemmas.{columns-unknown, columns-twice, columns-more}
use Rattle.csv_groups.proofs.columns.columns_in.Goals as goal

pub returns-in_default : goal.returns-in_default
returns-in_default c = λ other.
    let header = fields_of c.args.header.now in
    let below = rw c.len-index-end.ensures at c.cells-test.true in
    let none = rw c.cell_at-text.ensures at (sym c.named.ensures ∙ c.in_default.is) in
    sym c.cells.invariant
    ∙ columns-unknown c.args.config.now c.cells.columns header c.cells.index below none
    ∙ (rw c.cell_at-text.ensures at
    (ap {B = Result (List Column) RowFault} Err (c.unknown.ensures other)))

pub returns-then-is_among : goal.returns-then-is_among
returns-then-is_among c = λ other.
    let header = fields_of c.args.header.now in
    let below = rw c.len-index-end.ensures at c.cells-test.true in
    let one = rw c.cell_at-text.ensures at (sym c.named.ensures ∙ c.in-Some.is) in
    let twice = rw c.as_slice.ensures at (sym c.is_among.ensures ∙ c.if-is_among.true) in
    sym c.cells.invariant
    ∙ columns-twice c.args.config.now c.cells.columns header c.cells.index below _ one twice
    ∙ (rw c.cell_at-text.ensures at
    (ap {B = Result (List Column) RowFault} Err (c.unknown-then-is_among.ensures other)))

pub cells-preserved : goal.cells-preserved
cells-preserved c =
    let header = fields_of c.args.header.now in
    let below = rw c.len-index-end.ensures at c.cells-test.true in
    let one = rw c.cell_at-text.ensures at (sym c.named.ensures ∙ c.in-Some.is) in
    let new = rw c.as_slice.ensures at (sym c.is_among.ensures ∙ c.if-is_among.false) in
    let more = columns-more c.args.config.now c.cells.columns header c.cells.index below _ one
    new in
    rw c.in_ok-push.ensures.ok (sym more ∙ c.cells.invariant)
