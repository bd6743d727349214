use Rattle.desk_run.proofs.complaint.write_setup_fault.Goals as goal

pub returns-in-Failed : goal.returns-in-Failed
returns-in-Failed g c = rw c.in-Failed.is (rw c.file_word.ensures at c.write_line.ensures)

pub returns-in-TooLong : goal.returns-in-TooLong
returns-in-TooLong g c = rw c.in-TooLong.is c.write_line-in-TooLong.ensures

pub returns-in-Configuration : goal.returns-in-Configuration
returns-in-Configuration g c = rw c.in-Configuration.is c.write_config_fault.ensures

pub returns-in-Rules : goal.returns-in-Rules
returns-in-Rules g c = rw c.in-Rules.is c.write_rules_fault.ensures

pub returns-in-Memory : goal.returns-in-Memory
returns-in-Memory g c = rw c.in-Memory.is c.write_line-in-Memory.ensures
