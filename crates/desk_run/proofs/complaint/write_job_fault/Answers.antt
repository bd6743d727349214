use Rattle.desk_run.proofs.complaint.write_job_fault.Goals as goal

pub returns-in-Row : goal.returns-in-Row
returns-in-Row g c = rw c.in-Row.is (rw c.from.ensures at c.write_row_fault.ensures)

pub returns-in-Refused : goal.returns-in-Refused
returns-in-Refused g c = rw c.in-Refused.is (rw c.as_slice.ensures.value at c.write_refusal.ensures)

pub returns-in-InputTooLong : goal.returns-in-InputTooLong
returns-in-InputTooLong g c = rw c.in-InputTooLong.is c.write_line.ensures

pub returns-in-Read : goal.returns-in-Read
returns-in-Read g c = rw c.in-Read.is c.write_line-in-Read.ensures

pub returns-in-Write : goal.returns-in-Write
returns-in-Write g c = rw c.in-Write.is c.write_line-in-Write.ensures

pub returns-in-Disk : goal.returns-in-Disk
returns-in-Disk g c = rw c.in-Disk.is c.write_line-in-Disk.ensures

pub returns-in-Memory : goal.returns-in-Memory
returns-in-Memory g c = rw c.in-Memory.is c.write_line-in-Memory.ensures
