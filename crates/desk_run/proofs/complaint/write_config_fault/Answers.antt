use Rattle.cfg_model.specs.FaultTexts.{config_fault_text}
use Rattle.desk_run.proofs.complaint.write_config_fault.Goals as goal

pub returns-in-NotToml : goal.returns-in-NotToml
unfolding config_fault_text
returns-in-NotToml g c = rw c.in-NotToml.is c.write_line.ensures

pub returns-in-Field : goal.returns-in-Field
unfolding config_fault_text
returns-in-Field g c =
    rw c.in-Field.is (rw c.as_str.ensures at c.write_line-in-Field.ensures)

pub returns-in-Twice : goal.returns-in-Twice
unfolding config_fault_text
returns-in-Twice g c =
    rw c.in-Twice.is (rw c.as_str-in-Twice.ensures at c.write_line-in-Twice.ensures)

pub returns-in-Unknown : goal.returns-in-Unknown
unfolding config_fault_text
returns-in-Unknown g c =
    rw c.in-Unknown.is (rw c.as_str-in-Unknown.ensures at c.write_line-in-Unknown.ensures)

pub returns-in-Count : goal.returns-in-Count
unfolding config_fault_text
returns-in-Count g c =
    rw c.in-Count.is (rw c.as_str-in-Count.ensures at c.write_count_fault.ensures)

pub returns-in-Memory : goal.returns-in-Memory
unfolding config_fault_text
returns-in-Memory g c = rw c.in-Memory.is c.write_line-in-Memory.ensures
