use Rattle.std.proofs.Common.{ap, sym, ◌∙◌, Err, Result}
use Rattle.csv.specs.Records.{fields_of}
use Rattle.csv_groups.specs.declared.columns.Columns.{Columns}
use Rattle.csv_groups.specs.declared.fault.RowFault.{RowFault}
use Rattle.csv_groups.proofs.HeaderLemmas.{header-refused, header-read, header-missing}
use Rattle.csv_groups.proofs.RowLemmas.{gives-fault, left-behind}
use Rattle.csv_groups.proofs.read.read_header.Goals as goal

pub returns-in_err-header-clause-read : goal.returns-in_err-header-clause-read
returns-in_err-header-clause-read c = λ rows h.
    gives-fault c.from_residual.result c.in_err-header.field-0.0 _ c.from_residual.ensures (λ other.
    let (cells, more, are, no_text, is) = c.in_err-header.ensures rows h other in
    header-refused c.args.config.now rows cells more are no_text
    ∙ ap {B = Result Columns RowFault} Err (sym is))

pub returns-in-Some-clause-read : goal.returns-in-Some-clause-read
returns-in-Some-clause-read c = λ rows h.
    let (more, are, texts, left) = rw c.in-Some.is at (c.in_ok-header.ensures rows h) in
    rw (header-read c.args.config.now rows (fields_of c.in-Some.header) more are texts)
    c.of.ensures.read

pub returns-in-Some-clause-left : goal.returns-in-Some-clause-left
returns-in-Some-clause-left c = λ rows h.
    let (more, are, texts, left) = rw c.in-Some.is at (c.in_ok-header.ensures rows h) in
    left-behind c.of.result c.next_row.new.reader rows (fields_of c.in-Some.header) more are left

pub returns-in-None-clause-read : goal.returns-in-None-clause-read
returns-in-None-clause-read c = λ rows h other.
    let none = rw c.in-None.is at (c.in_ok-header.ensures rows h) in
    header-missing c.args.config.now rows none
    ∙ ap {B = Result Columns RowFault} Err (c.missing.ensures other)
