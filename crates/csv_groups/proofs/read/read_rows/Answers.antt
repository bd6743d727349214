use Rattle.std.proofs.Common.{ap, sym, ◌∙◌, Err, Result, arith}
use Rattle.csv.specs.Records.{fields_of}
use Rattle.csv_groups.specs.Groups.{with_row}
use Rattle.csv_groups.specs.declared.fault.RowFault.{RowFault}
use Rattle.csv_groups.proofs.RowLemmas.{rows-fault, row-no_text, rows-refused, rows-more, rows-end}
use Rattle.csv_groups.proofs.RowLemmas.{length-with_row}
use Rattle.csv_groups.proofs.read.read_rows.Goals as goal

pub returns-in_err-cells : goal.returns-in_err-cells
returns-in_err-cells c = λ rows h.
    let columns = c.args.columns.now in
    let fault = c.in_err-cells.field-0.0 in
    let (more, groups, left, stands, on, few) = c.rows.invariant rows h in
    rows-fault columns rows c.from_residual.result fault c.from_residual.ensures (λ other.
    let (cells, behind, are, no_text, is) = c.in_err-cells.ensures more left other in
    sym on ∙ rows-refused columns groups c.rows.row more cells behind fault are
    (row-no_text columns groups c.rows.row cells no_text ∙ ap {B = Result _ RowFault} Err (sym is)))

pub add-requires-clause-texts : goal.add-requires-clause-texts
add-requires-clause-texts c =
    let (rows, h) = c.requires.left in
    let (more, groups, left, stands, on, few) = c.rows.invariant rows h in
    let (behind, are, texts, left_behind) = rw c.in-Some.is at (c.in_ok-cells.ensures more left) in
    texts

pub returns-in_err-add-in-Some : goal.returns-in_err-add-in-Some
returns-in_err-add-in-Some c = λ rows h.
    let columns = c.args.columns.now in
    let fault = c.in_err-add-in-Some.field-0.0 in
    let (more, groups, left, stands, on, few) = c.rows.invariant rows h in
    let (behind, are, texts, left_behind) = rw c.in-Some.is at (c.in_ok-cells.ensures more left) in
    rows-fault columns rows c.from_residual-in_err-add-in-Some.result fault
    c.from_residual-in_err-add-in-Some.ensures (λ other.
    sym on
    ∙ rows-refused columns groups c.rows.row more (fields_of c.in-Some.cells) behind fault are
    (c.in_err-add-in-Some.ensures.read groups stands other))

pub returns-in-None : goal.returns-in-None
returns-in-None c = λ rows h.
    let (more, groups, left, stands, on, few) = c.rows.invariant rows h in
    let none = rw c.in-None.is at (c.in_ok-cells.ensures more left) in (
      groups,
      sym on ∙ rows-end c.args.columns.now groups c.rows.row more none,
      stands,
      omega (arith, few, c.rows-test.true),
    )

pub rows-preserved : goal.rows-preserved
rows-preserved c = λ rows h.
    let columns = c.args.columns.now in
    let cells = fields_of c.in-Some.cells in
    let (more, groups, left, stands, on, few) = c.rows.invariant rows h in
    let (behind, are, texts, left_behind) = rw c.in-Some.is at (c.in_ok-cells.ensures more left) in
    let taken = c.in_ok-add-in-Some.ensures.read groups stands in
    let longer = length-with_row columns cells groups in (
      behind,
      with_row columns cells groups,
      left_behind,
      c.in_ok-add-in-Some.ensures.ok groups stands,
      sym (rows-more columns groups c.rows.row more cells behind are taken) ∙ on,
      omega (arith, few, longer),
    )
