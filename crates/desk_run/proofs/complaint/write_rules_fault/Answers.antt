use Rattle.rule_lang.specs.FaultTexts.{rule_fault_text}
use Rattle.desk_run.proofs.complaint.write_rules_fault.Goals as goal

pub returns-in-Wrong : goal.returns-in-Wrong
unfolding rule_fault_text
returns-in-Wrong g c =
    rw c.in-Wrong.is (rw c.number.ensures at
    (rw c.as_str.ensures.value at c.write_wrong_rule.ensures))

pub returns-in-Memory : goal.returns-in-Memory
unfolding rule_fault_text
returns-in-Memory g c = rw c.in-Memory.is c.write_line.ensures
