mod CellLemmas
mod ColumnLemmas
mod FieldLemmas
mod GroupLemmas
mod HeaderLemmas
mod RecordLemmas
mod RowLemmas
mod WorkedRows
