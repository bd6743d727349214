-- The faults of a top call: the status of each, and the fault that each of a part is.
use Rattle.std.specs.Prelude.{ℕ, Result, Ok, Err}
use Rattle.cfg_model.specs.declared.fault.CfgFault.{CfgFault}
use Rattle.cfg_model.specs.declared.fault.CfgFault.TheVariants.{NotToml, Field, Twice, Unknown}
use Rattle.cfg_model.specs.declared.fault.CfgFault.TheVariants.{Count, Memory as ConfigMemory}
use Rattle.rule_lang.specs.declared.fault.RuleFault.{RuleFault}
use Rattle.rule_lang.specs.declared.fault.RuleFault.TheVariants.{Wrong, Memory as RulesMemory}
use Rattle.csv_groups.specs.declared.fault.RowFault.{RowFault}
use Rattle.csv_groups.specs.declared.fault.RowFault.TheVariants.{Refused as RowRefused}
use Rattle.csv_groups.specs.declared.fault.RowFault.TheVariants.{Memory as RowMemory}
use Rattle.post_journal.specs.declared.fault.OpenFault.{OpenFault}
use Rattle.post_journal.specs.declared.fault.OpenFault.TheVariants.{DiskFault}
use Rattle.post_journal.specs.declared.fault.OpenFault.TheVariants.{NotAJournal as OpenNotAJournal}
use Rattle.post_journal.specs.declared.fault.OpenFault.TheVariants.{BadEntry as OpenBadEntry}
use Rattle.post_journal.specs.declared.fault.OpenFault.TheVariants.{Memory as OpenMemory}
use Rattle.desk_core.specs.declared.replay.ReplayFault.{ReplayFault}
use Rattle.desk_core.specs.declared.replay.ReplayFault.TheVariants.{Unreplayable}
use Rattle.desk_core.specs.declared.replay.ReplayFault.TheVariants.{Memory as ReplayMemory}
use Rattle.desk_core.specs.declared.desk.StepEnd.{StepEnd}
use Rattle.desk_core.specs.declared.desk.StepEnd.TheVariants.{Memory as StepMemory}
use Rattle.desk_core.specs.declared.desk.StepEnd.TheVariants.{DiskFault as StepDisk, Closed}
use Rattle.desk_run.specs.declared.run.RunEnd.{RunEnd}
use Rattle.desk_run.specs.declared.run.RunEnd.TheVariants.{Disk as RunDisk}
use Rattle.desk_run.specs.declared.run.RunEnd.TheVariants.{Memory as RunMemory, Read as RunRead}
use Rattle.desk_run.specs.declared.run.RunEnd.TheVariants.{Write as RunWrite}
use Rattle.desk_run.specs.declared.run.RunEnd.TheVariants.{InputTooLong as RunTooLong}
use Rattle.desk_run.specs.declared.fault.Fault.{Fault}
use Rattle.desk_run.specs.declared.fault.Fault.TheVariants.{Usage, Setup, Opening, Job}
use Rattle.desk_run.specs.declared.fault.SetupFault.{SetupFault}
use Rattle.desk_run.specs.declared.fault.SetupFault.TheVariants.{Failed, TooLong, Configuration}
use Rattle.desk_run.specs.declared.fault.SetupFault.TheVariants.{Rules, Memory as SetupMemory}
use Rattle.desk_run.specs.declared.fault.OpeningFault.{OpeningFault}
use Rattle.desk_run.specs.declared.fault.OpeningFault.TheVariants.{NotAJournal, BadEntry, Entry}
use Rattle.desk_run.specs.declared.fault.OpeningFault.TheVariants.{Disk as OpeningDisk}
use Rattle.desk_run.specs.declared.fault.OpeningFault.TheVariants.{Memory as OpeningMemory}
use Rattle.desk_run.specs.declared.fault.JobFault.{JobFault}
use Rattle.desk_run.specs.declared.fault.JobFault.TheVariants.{Row, Refused, InputTooLong, Read}
use Rattle.desk_run.specs.declared.fault.JobFault.TheVariants.{Write, Disk, Memory}
use Rattle.desk_run.specs.declared.fault.TextFault.{TextFault}
use Rattle.desk_run.specs.declared.fault.TextFault.TheVariants.{Write as TextWrite}
use Rattle.desk_run.specs.declared.fault.TextFault.TheVariants.{Memory as TextMemory}

-- ---- statuses

-- of a desk that was not set up
abbrev pub setup_status : SetupFault → ℕ
setup_status (Failed file) = 9
setup_status TooLong = 11
setup_status (Configuration fault) = 3
setup_status (Rules fault) = 3
setup_status SetupMemory = 4

-- of a journal that does not open
abbrev pub opening_status : OpeningFault → ℕ
opening_status NotAJournal = 5
opening_status (BadEntry place) = 5
opening_status (Entry index) = 5
opening_status OpeningDisk = 6
opening_status OpeningMemory = 4

-- of what was not done to its end
abbrev pub job_status : JobFault → ℕ
job_status (Row row why) = 10
job_status (Refused line) = 12
job_status InputTooLong = 11
job_status Read = 7
job_status Write = 8
job_status Disk = 6
job_status Memory = 4

-- of a fault
abbrev pub status_of : Fault → ℕ
status_of Usage = 2
status_of (Setup fault) = setup_status fault
status_of (Opening fault) = opening_status fault
status_of (Job fault) = job_status fault

-- of an end: 0 where there is no fault
abbrev pub end_status : Result (Unit {0}) Fault → ℕ
end_status (Ok done) = 0
end_status (Err fault) = status_of fault

-- ---- which fault it is

-- of a configuration that is refused, or of memory that was
abbrev pub config_fault : CfgFault → SetupFault
config_fault ConfigMemory = SetupMemory
config_fault NotToml = Configuration NotToml
config_fault (Field path) = Configuration (Field path)
config_fault (Twice name) = Configuration (Twice name)
config_fault (Unknown name) = Configuration (Unknown name)
config_fault (Count what number) = Configuration (Count what number)

-- of rules that are refused, or of memory that was
abbrev pub rules_fault : RuleFault → SetupFault
rules_fault RulesMemory = SetupMemory
rules_fault (Wrong kind place why) = Rules (Wrong kind place why)

-- of a journal that was not opened
abbrev pub open_fault : OpenFault → OpeningFault
open_fault OpenNotAJournal = NotAJournal
open_fault (OpenBadEntry place) = BadEntry place
open_fault DiskFault = OpeningDisk
open_fault OpenMemory = OpeningMemory

-- of a desk that was not opened
abbrev pub replay_fault : ReplayFault → OpeningFault
replay_fault (Unreplayable index) = Entry index
replay_fault ReplayMemory = OpeningMemory

-- of a run that ended early
abbrev pub run_fault : RunEnd → JobFault
run_fault RunMemory = Memory
run_fault RunDisk = Disk
run_fault RunRead = Read
run_fault RunWrite = Write
run_fault RunTooLong = InputTooLong

-- of a text that was not written
abbrev pub text_fault : TextFault → JobFault
text_fault TextWrite = Write
text_fault TextMemory = Memory

-- of a file of documents that is refused, or of memory that was
abbrev pub row_fault : RowFault → JobFault
row_fault (RowRefused row why) = Row row why
row_fault RowMemory = Memory

-- of a step that ended early; a desk that is stopped was stopped by the disk
abbrev pub step_fault : StepEnd → JobFault
step_fault StepMemory = Memory
step_fault StepDisk = Disk
step_fault Closed = Disk
