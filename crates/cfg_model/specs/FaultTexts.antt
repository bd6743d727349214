-- The text of a fault: its number, its name and its fields, a space before each.
use Rattle.std.specs.Prelude.{ℕ, codes, List, ◌++◌}
use Rattle.reg_base.specs.Numbers.{number_text}
use Rattle.cfg_model.specs.declared.fault.CfgFault.{CfgFault}
use Rattle.cfg_model.specs.declared.fault.CfgFault.TheVariants.{NotToml, Field, Twice, Unknown}
use Rattle.cfg_model.specs.declared.fault.CfgFault.TheVariants.{Count, Memory}

-- as `5 Count register 33`
abbrev pub count_text : List ℕ → ℕ → List ℕ
count_text what number = codes "5 Count " ++ (what ++ (codes " " ++ number_text number))

-- as `2 Field register.stock.kind`; want of memory is told elsewhere and has the number 0
unfoldable pub config_fault_text : CfgFault → List ℕ
config_fault_text NotToml = codes "1 NotToml"
config_fault_text (Field path) = codes "2 Field " ++ path
config_fault_text (Twice name) = codes "3 Twice " ++ name
config_fault_text (Unknown name) = codes "4 Unknown " ++ name
config_fault_text (Count what number) = count_text what number
config_fault_text Memory = codes "0 Memory"
