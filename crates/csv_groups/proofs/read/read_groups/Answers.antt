use Rattle.std.proofs.Common.{ap, sym, ◌∙◌, Ok, List, Result, drop}
use Rattle.csv.specs.Reading.{default_config, records, strip_bom}
use Rattle.csv_groups.specs.declared.fault.RowFault.{RowFault}
use Rattle.csv_groups.specs.declared.group.Group.{Group}
use Rattle.csv_groups.proofs.RowLemmas.{gives-fault, file-header, file-rows, file-groups}
use Rattle.csv_groups.proofs.RowLemmas.{few-groups}
use Rattle.csv_groups.proofs.read.read_groups.Goals as goal

pub returns-in_err-columns-clause-read : goal.returns-in_err-columns-clause-read
returns-in_err-columns-clause-read c =
    let fault = c.in_err-columns.field-0.0 in
    let rows = records default_config (strip_bom c.args.bytes.now) in
    gives-fault c.from_residual.result fault _ c.from_residual.ensures (λ other.
    file-header c.args.config.now c.args.bytes.now fault
    (c.in_err-columns.ensures.read rows c.reader_of-reader.ensures other))

pub read_rows-requires-clause-left : goal.read_rows-requires-clause-left
read_rows-requires-clause-left c =
    let rows = records default_config (strip_bom c.args.bytes.now) in
    (drop 1 rows, c.in_ok-columns.ensures.left rows c.reader_of-reader.ensures)

pub returns-in_err-groups-clause-read : goal.returns-in_err-groups-clause-read
returns-in_err-groups-clause-read c =
    let fault = c.in_err-groups.field-0.0 in
    let rows = records default_config (strip_bom c.args.bytes.now) in
    let h = c.reader_of-reader.ensures in
    let left = c.in_ok-columns.ensures.left rows h in
    gives-fault c.from_residual-in_err-groups.result fault _ c.from_residual-in_err-groups.ensures
    (λ other.
    file-rows c.args.config.now c.args.bytes.now c.in_ok-columns.columns fault
    (c.in_ok-columns.ensures.read rows h) (c.in_err-groups.ensures (drop 1 rows) left other))

pub returns-clause-read : goal.returns-clause-read
returns-clause-read c =
    let rows = records default_config (strip_bom c.args.bytes.now) in
    let h = c.reader_of-reader.ensures in
    let left = c.in_ok-columns.ensures.left rows h in
    let (groups, taken, stands, few) = c.in_ok-groups.ensures (drop 1 rows) left in
    file-groups c.args.config.now c.args.bytes.now c.in_ok-columns.columns groups
    (c.in_ok-columns.ensures.read rows h) taken
    ∙ ap {B = Result (List Group) RowFault} Ok (sym (c.in_ok-finish.ensures.value groups stands))

pub returns-clause-posts : goal.returns-clause-posts
returns-clause-posts c =
    let rows = records default_config (strip_bom c.args.bytes.now) in
    let left = c.in_ok-columns.ensures.left rows c.reader_of-reader.ensures in
    let (groups, taken, stands, few) = c.in_ok-groups.ensures (drop 1 rows) left in
    c.in_ok-finish.ensures.posts groups stands

pub returns-clause-few : goal.returns-clause-few
returns-clause-few c =
    let rows = records default_config (strip_bom c.args.bytes.now) in
    let left = c.in_ok-columns.ensures.left rows c.reader_of-reader.ensures in
    let (groups, taken, stands, few) = c.in_ok-groups.ensures (drop 1 rows) left in
    few-groups c.in_ok-columns.columns groups c.in_ok-finish.field-0
    (c.in_ok-finish.ensures.value groups stands) few
