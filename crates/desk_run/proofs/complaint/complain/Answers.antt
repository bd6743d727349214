use Rattle.desk_run.proofs.complaint.complain.Goals as goal

pub returns-in-Usage : goal.returns-in-Usage
returns-in-Usage g c = rw c.in-Err.is (rw c.in-Usage.is c.write_line.ensures)

pub returns-in-Setup : goal.returns-in-Setup
returns-in-Setup g c = rw c.in-Err.is (rw c.in-Setup.is c.write_setup_fault.ensures)

pub returns-in-Opening : goal.returns-in-Opening
returns-in-Opening g c = rw c.in-Err.is (rw c.in-Opening.is c.write_opening_fault.ensures)

pub returns-in-Job : goal.returns-in-Job
returns-in-Job g c = rw c.in-Err.is (rw c.in-Job.is c.write_job_fault.ensures)
