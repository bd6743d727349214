use Rattle.csv_groups.proofs.CellLemmas.{are_utf8-text}
use Rattle.csv_groups.proofs.RecordLemmas.{record-read, none-read, error-read}
use Rattle.csv_groups.proofs.records.next_row.Goals as goal

pub returns-in-Ok-true : goal.returns-in-Ok-true
returns-in-Ok-true c = λ rows h.
    let read = c.in-Ok-true.ensures in
    let (more, first, left) = record-read c.args.reader.now c.read_record.new.self _ rows h
    (rw c.in-Ok-true.field-0-test at (read.reads h.trim h.ready)) (read.ready h.trim) in
    (more, first, are_utf8-text _ (read.text h.trim), left)

pub returns-in-Ok-false : goal.returns-in-Ok-false
returns-in-Ok-false c = λ rows h.
    none-read c.args.reader.now c.read_record.new.self _ rows h
    (rw c.in-Ok-false.field-0-test at (c.in-Ok-false.ensures.reads h.trim h.ready))

pub returns-in-Err : goal.returns-in-Err
returns-in-Err c = λ rows h.
    error-read c.args.reader.now c.read_record.new.self c.args.row _ _ rows h
    (c.in-Err.ensures.why h.trim h.ready) c.fault_of.ensures
