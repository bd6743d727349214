-- Rows of the definitions, computed.
use Rattle.std.specs.Prelude.{◌≡◌, codes, None, Some, [], ◌∷◌, ◌++◌}
use Rattle.std.proofs.Common.{refl}
use Rattle.cfg_model.specs.FaultTexts.{config_fault_text}
use Rattle.cfg_model.specs.declared.fault.CfgFault.TheVariants.{Unknown}
use Rattle.csv_groups.specs.declared.fault.RowWhy.TheVariants.{BadValue, Scattered}
use Rattle.reg_base.specs.Numbers.{number_text}
use Rattle.desk_run.specs.declared.fault.Fault.TheVariants.{Usage, Setup, Job}
use Rattle.desk_run.specs.declared.fault.JobFault.TheVariants.{Row}
use Rattle.desk_run.specs.declared.fault.NamedFile.TheVariants as NamedFileIs
use Rattle.desk_run.specs.declared.fault.SetupFault.TheVariants.{Failed, Configuration, Memory}
use Rattle.desk_run.specs.FaultLines.{fault_line}
use Rattle.desk_run.specs.Statuses.{status_of}
use Rattle.desk_run.specs.Words.{call_of, import, report}

-- the line of wrong words
usage_row : fault_line [] Usage ≡ codes "regdesk: usage: regdesk COMMAND" ++ 10 ∷ []
usage_row = refl

-- the line of a configuration with a key that is not known
configuration_row : fault_line [] (Setup (Configuration (Unknown (codes "x"))))
    ≡ codes "regdesk: configuration: 4 Unknown x" ++ 10 ∷ []
unfolding config_fault_text
configuration_row = refl

-- the lines of files that were not read
file_row : fault_line (codes "run" ∷ codes "a.toml" ∷ [])
    (Setup (Failed NamedFileIs.Configuration)) ≡ codes "regdesk: file a.toml" ++ 10 ∷ []
file_row = refl

documents_row : fault_line (codes "import" ∷ codes "a.toml" ∷ codes "b.csv" ∷ [])
    (Setup (Failed NamedFileIs.Documents)) ≡ codes "regdesk: file b.csv" ++ 10 ∷ []
documents_row = refl

-- the lines of rows that are refused
value_row : fault_line [] (Job (Row 3 (BadValue (codes "date"))))
    ≡ codes "regdesk: row 3: 4 BadValue date" ++ 10 ∷ []
unfolding number_text
value_row = refl

scattered_row : fault_line [] (Job (Row 12 Scattered))
    ≡ codes "regdesk: row 12: 5 Scattered" ++ 10 ∷ []
unfolding number_text
scattered_row = refl

-- want of memory ends with 4
memory_row : status_of (Setup Memory) ≡ 4
memory_row = refl

-- three words that import, five that report, and four that are no call
import_row : call_of (codes "import" ∷ codes "a" ∷ codes "b" ∷ [])
    ≡ Some (record { config = codes "a"; task = import (codes "b") })
import_row = refl

report_row : call_of (codes "report" ∷ codes "a" ∷ codes "goods" ∷ codes "b" ∷ codes "c" ∷ [])
    ≡ Some (record {
      config = codes "a";
      task = report (record { name = codes "goods"; from = codes "b"; to = codes "c" });
    })
report_row = refl

four_words : call_of (codes "report" ∷ codes "a" ∷ codes "goods" ∷ codes "b" ∷ []) ≡ None
four_words = refl
