use Rattle.std.proofs.Common.{Some, sym, ap, ◌∙◌}
use Rattle.desk_run.specs.FaultLines.{column_told}
use Rattle.desk_run.proofs.PieceLemmas.{row_written}
use Rattle.desk_run.proofs.complaint.write_row_fault.Goals as goal

pub returns-in-Shape : goal.returns-in-Shape
returns-in-Shape g c = row_written c.args.row c.args.why.now _ _ _ _ _ _ _ _ _
    c.digits-row.ensures c.digits-number.ensures c.number.ensures c.name.ensures
    (sym (ap column_told c.in-Shape.is))
    c.write_row.ensures

pub returns-in-UnknownColumn : goal.returns-in-UnknownColumn
returns-in-UnknownColumn g c = row_written c.args.row c.args.why.now _ _ _ _ _ _ _ _ _
    c.digits-row.ensures c.digits-number.ensures c.number.ensures c.name-in-UnknownColumn.ensures
    (ap Some c.as_str.ensures ∙ sym (ap column_told c.in-UnknownColumn.is))
    c.write_row_column.ensures

pub returns-in-MissingColumn : goal.returns-in-MissingColumn
returns-in-MissingColumn g c = row_written c.args.row c.args.why.now _ _ _ _ _ _ _ _ _
    c.digits-row.ensures c.digits-number.ensures c.number.ensures c.name-in-MissingColumn.ensures
    (ap Some c.as_str-in-MissingColumn.ensures ∙ sym (ap column_told c.in-MissingColumn.is))
    c.write_row_column-in-MissingColumn.ensures

pub returns-in-BadValue : goal.returns-in-BadValue
returns-in-BadValue g c = row_written c.args.row c.args.why.now _ _ _ _ _ _ _ _ _
    c.digits-row.ensures c.digits-number.ensures c.number.ensures c.name-in-BadValue.ensures
    (ap Some c.as_str-in-BadValue.ensures ∙ sym (ap column_told c.in-BadValue.is))
    c.write_row_column-in-BadValue.ensures

pub returns-in-Scattered : goal.returns-in-Scattered
returns-in-Scattered g c = row_written c.args.row c.args.why.now _ _ _ _ _ _ _ _ _
    c.digits-row.ensures c.digits-number.ensures c.number.ensures c.name-in-Scattered.ensures
    (sym (ap column_told c.in-Scattered.is))
    c.write_row-in-Scattered.ensures

pub returns-in-HeadDiffers : goal.returns-in-HeadDiffers
returns-in-HeadDiffers g c = row_written c.args.row c.args.why.now _ _ _ _ _ _ _ _ _
    c.digits-row.ensures c.digits-number.ensures c.number.ensures c.name-in-HeadDiffers.ensures
    (ap Some c.as_str-in-HeadDiffers.ensures ∙ sym (ap column_told c.in-HeadDiffers.is))
    c.write_row_column-in-HeadDiffers.ensures
