-- The line of each fault on the error output.
use Rattle.std.specs.Prelude.{ℕ, codes, Option, Some, None, List, [], ◌∷◌, ◌++◌}
use Rattle.reg_base.specs.Numbers.{number_text}
use Rattle.cfg_model.specs.FaultTexts.{config_fault_text}
use Rattle.rule_lang.specs.FaultTexts.{rule_fault_text}
use Rattle.csv_groups.specs.Faults.{row_why_name, row_why_number}
use Rattle.csv_groups.specs.declared.fault.RowWhy.{RowWhy}
use Rattle.csv_groups.specs.declared.fault.RowWhy.TheVariants.{Shape, UnknownColumn, MissingColumn}
use Rattle.csv_groups.specs.declared.fault.RowWhy.TheVariants.{BadValue, Scattered, HeadDiffers}
use Rattle.desk_run.specs.declared.fault.Fault.{Fault}
use Rattle.desk_run.specs.declared.fault.Fault.TheVariants.{Usage, Setup, Opening, Job}
use Rattle.desk_run.specs.declared.fault.NamedFile.{NamedFile}
use Rattle.desk_run.specs.declared.fault.NamedFile.TheVariants as NamedFileIs
use Rattle.desk_run.specs.declared.fault.SetupFault.{SetupFault}
use Rattle.desk_run.specs.declared.fault.SetupFault.TheVariants.{Failed, TooLong, Configuration}
use Rattle.desk_run.specs.declared.fault.SetupFault.TheVariants.{Rules, Memory as SetupMemory}
use Rattle.desk_run.specs.declared.fault.OpeningFault.{OpeningFault}
use Rattle.desk_run.specs.declared.fault.OpeningFault.TheVariants.{NotAJournal, BadEntry, Entry}
use Rattle.desk_run.specs.declared.fault.OpeningFault.TheVariants.{Disk as OpeningDisk}
use Rattle.desk_run.specs.declared.fault.OpeningFault.TheVariants.{Memory as OpeningMemory}
use Rattle.desk_run.specs.declared.fault.JobFault.{JobFault}
use Rattle.desk_run.specs.declared.fault.JobFault.TheVariants.{Row, Refused, InputTooLong, Read}
use Rattle.desk_run.specs.declared.fault.JobFault.TheVariants.{Write, Disk, Memory}

-- a text as a line of the program
abbrev pub program_line : List ℕ → List ℕ → List ℕ
program_line front text = codes "regdesk: " ++ (front ++ (text ++ 10 ∷ []))

-- the file that the words name in a place: the second word or the third
abbrev pub file_word : NamedFile → List (List ℕ) → List ℕ
file_word file [] = []
file_word file (word ∷ []) = []
file_word NamedFileIs.Configuration (word ∷ config ∷ words) = config
file_word NamedFileIs.Documents (word ∷ config ∷ []) = []
file_word NamedFileIs.Documents (word ∷ config ∷ documents ∷ words) = documents

-- the line of a desk that was not set up
abbrev pub setup_line : List (List ℕ) → SetupFault → List ℕ
setup_line words (Failed file) = program_line (codes "file ") (file_word file words)
setup_line words TooLong = program_line [] (codes "too long")
setup_line words (Configuration fault) =
    program_line (codes "configuration: ") (config_fault_text fault)
setup_line words (Rules fault) = program_line (codes "rules: ") (rule_fault_text fault)
setup_line words SetupMemory = program_line [] (codes "memory")

-- the line of a journal that does not open
abbrev pub opening_line : OpeningFault → List ℕ
opening_line NotAJournal = program_line (codes "journal: ") (codes "not a journal")
opening_line (BadEntry place) =
    program_line (codes "journal: ") (codes "bad entry at " ++ number_text place)
opening_line (Entry index) =
    program_line (codes "journal: ") (codes "entry " ++ number_text index)
opening_line OpeningDisk = program_line [] (codes "disk")
opening_line OpeningMemory = program_line [] (codes "memory")

-- the column of a fault of a row, where it is told
abbrev pub column_told : RowWhy → Option (List ℕ)
column_told Shape = None
column_told (UnknownColumn column) = Some column
column_told (MissingColumn column) = Some column
column_told (BadValue column) = Some column
column_told Scattered = None
column_told (HeadDiffers column) = Some column

-- with a space before it
abbrev pub behind_space : Option (List ℕ) → List ℕ
behind_space None = []
behind_space (Some name) = 32 ∷ name

-- the words of the line of a row, of which the column may be told
abbrev pub row_words : List ℕ → List ℕ → List ℕ → Option (List ℕ) → List ℕ
row_words row number name column = codes "regdesk: row " ++ (row ++ (codes ": " ++ (number
    ++ (codes " " ++ (name ++ (behind_space column ++ 10 ∷ []))))))

-- the line of a row: the number, the name and the column of its fault
abbrev pub row_line : ℕ → RowWhy → List ℕ
row_line row why = row_words (number_text row) (number_text (row_why_number why)) (row_why_name why)
    (column_told why)

-- the line of what was not done to its end
abbrev pub job_line : JobFault → List ℕ
job_line (Row row why) = row_line row why
job_line (Refused line) = codes "regdesk: refused: " ++ line.items
job_line InputTooLong = program_line [] (codes "too long")
job_line Read = program_line [] (codes "read")
job_line Write = program_line [] (codes "write")
job_line Disk = program_line [] (codes "disk")
job_line Memory = program_line [] (codes "memory")

-- the line of a fault
abbrev pub fault_line : List (List ℕ) → Fault → List ℕ
fault_line words Usage = program_line (codes "usage: ") (codes "regdesk COMMAND")
fault_line words (Setup fault) = setup_line words fault
fault_line words (Opening fault) = opening_line fault
fault_line words (Job fault) = job_line fault
