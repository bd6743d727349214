use Rattle.desk_run.proofs.complaint.write_opening_fault.Goals as goal

pub returns-in-NotAJournal : goal.returns-in-NotAJournal
returns-in-NotAJournal g c = rw c.in-NotAJournal.is c.write_line.ensures

pub returns-in-BadEntry : goal.returns-in-BadEntry
returns-in-BadEntry g c = rw c.in-BadEntry.is c.write_number.ensures

pub returns-in-Entry : goal.returns-in-Entry
returns-in-Entry g c = rw c.in-Entry.is (rw c.from.ensures at c.write_number-in-Entry.ensures)

pub returns-in-Disk : goal.returns-in-Disk
returns-in-Disk g c = rw c.in-Disk.is c.write_line-in-Disk.ensures

pub returns-in-Memory : goal.returns-in-Memory
returns-in-Memory g c = rw c.in-Memory.is c.write_line-in-Memory.ensures
