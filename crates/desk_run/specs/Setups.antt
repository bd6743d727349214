-- Private: what reading the files of a call comes to, step by step.
use Rattle.std.specs.Prelude.{ℕ, List, Result, Ok, Err, Vec}
use Rattle.std.specs.declared.alloc.Global.{Global}
use Rattle.cfg_model.specs.declared.config.Config.{Config}
use Rattle.rule_lang.specs.declared.rules.Rules.{Rules as RulesOf}
use Rattle.desk_run.specs.declared.fault.NamedFile.{NamedFile}
use Rattle.desk_run.specs.declared.fault.SetupFault.{SetupFault}
use Rattle.desk_run.specs.declared.files.Job.{Job as HeldJob}
use Rattle.desk_run.specs.Files.{HasBytes, IsAccepted, IsJob, IsJobUnread, IsRefused, IsSetUp}
use Rattle.desk_run.specs.Files.{IsUnread, RefusesSetup, ShelfState}
use Rattle.desk_run.specs.Words.{Call, Task}
use Rattle.desk_run.specs.WordViews.{job_view}

-- a file was read, or why it was not
abbrev pub ReadsNamed : NamedFile → List ℕ → ℕ → ShelfState → ShelfState
    → Result (Vec ℕ Global) SetupFault → Type 0
ReadsNamed place name most before now (Ok bytes) = HasBytes before.files name most bytes.items
ReadsNamed place name most before now (Err fault) = IsUnread place name most before now fault

-- what is asked was read, or why it was not
abbrev pub ReadsJob : Task → ShelfState → ShelfState → Result HeldJob SetupFault → Type 0
ReadsJob task before now (Ok job) = IsJob before.files task (job_view job)
ReadsJob task before now (Err fault) = IsJobUnread task before now fault

-- a configuration was accepted with its rules, or why it was not
abbrev pub Accepts : List ℕ → Result (Config × RulesOf) SetupFault → Type 0
Accepts bytes (Ok found) = IsAccepted bytes (record { config = found.0; rules = found.1 })
Accepts bytes (Err fault) = IsRefused bytes fault

-- a call was set up, or why it was not
abbrev pub SetsUp : Call → ShelfState → ShelfState → Result (HeldJob × Config × RulesOf) SetupFault
    → Type 0
SetsUp call before now (Ok found) =
    IsSetUp call before (job_view found.0) (record { config = found.1; rules = found.2 })
SetsUp call before now (Err fault) = RefusesSetup call before now fault
