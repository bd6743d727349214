-- The text of a fault: the document type, the place and the number of the reason.
use Rattle.std.specs.Prelude.{ℕ, codes, List, ◌++◌}
use Rattle.reg_base.specs.Numbers.{number_text}
use Rattle.rule_lang.specs.Least.{why_number}
use Rattle.rule_lang.specs.declared.fault.RuleFault.{RuleFault}
use Rattle.rule_lang.specs.declared.fault.RuleFault.TheVariants.{Wrong, Memory}

-- three words with a space between them
abbrev pub words : List ℕ → ℕ → ℕ → List ℕ
words kind place number =
    kind ++ (codes " " ++ (number_text place ++ (codes " " ++ number_text number)))

-- as `fill 35 1`; where memory ran out, `memory`
unfoldable pub rule_fault_text : RuleFault → List ℕ
rule_fault_text (Wrong kind place why) = words kind place (why_number why)
rule_fault_text Memory = codes "memory"
