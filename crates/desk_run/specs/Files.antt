-- The files that words name: the configuration, and the documents of an import.
use Rattle.std.specs.Prelude.{◌≡◌, ◌⊎◌, ⊤, ℕ, ◌≤◌, List, length, Option}
use Rattle.std.specs.Prelude.{IfSome, Ok, Err}
use Rattle.reg_io.specs.Counts.{Rose}
use Rattle.reg_io.specs.Files.{file_named, file_read}
use Rattle.reg_io.specs.declared.shelf.ShelfFault.TheVariants.{TooLong as TooLongFile}
use Rattle.cfg_model.specs.Reading.{read_config}
use Rattle.cfg_model.specs.declared.config.Config.{Config}
use Rattle.rule_lang.specs.Rules.{rules_of}
use Rattle.rule_lang.specs.declared.fault.RuleFault.{RuleFault}
use Rattle.desk_model.specs.State.{Setting}
use Rattle.desk_reports.specs.Reports.{ReportWords}
use Rattle.desk_run.specs.declared.fault.NamedFile.{NamedFile}
use Rattle.desk_run.specs.declared.fault.NamedFile.TheVariants as NamedFileIs
use Rattle.desk_run.specs.declared.fault.SetupFault.{SetupFault}
use Rattle.desk_run.specs.declared.fault.SetupFault.TheVariants.{Failed, TooLong, Configuration}
use Rattle.desk_run.specs.declared.fault.SetupFault.TheVariants.{Rules, Memory}
use Rattle.desk_run.specs.Words.{Task, Call, check, import, report, run}

-- the bytes of a configuration, and of a file of documents, at the most
abbrev pub most_config_bytes : ℕ
most_config_bytes = 1_048_576

abbrev pub most_import_bytes : ℕ
most_import_bytes = 67_108_864

-- what a shelf shows at one moment: its files by name, and how many calls on it failed
pub record ShelfState : Type 0 where
  pub files : Option (List (List ℕ × List ℕ))
  pub faults : ℕ

-- what a shelf shows, by what it tells of itself
abbrev pub shelf_of : {F : Type 0} → (F → Option (List (List ℕ × List ℕ))) → (F → ℕ) → F
    → ShelfState
shelf_of files faults shelf = record { files = files shelf; faults = faults shelf }

-- ---- a file

-- the file of this name has these bytes, where the files are told, and not more than it may have
pub record HasBytes (files : Option (List (List ℕ × List ℕ))) (name : List ℕ) (most : ℕ)
    (bytes : List ℕ) : Type 0 where
  pub told : IfSome files (λ all. file_read (file_named name all) most ≡ Ok bytes)
  pub within : length bytes ≤ most

-- the file of this name has more bytes than it may have, where the files are told
abbrev pub IsLongFile : Option (List (List ℕ × List ℕ)) → List ℕ → ℕ → Type 0
IsLongFile files name most =
    IfSome files (λ all. file_read (file_named name all) most ≡ Err TooLongFile)

-- the file of this name, which stands in this place among the words, was not read
abbrev pub IsUnread : NamedFile → List ℕ → ℕ → ShelfState → ShelfState → SetupFault → Type 0
IsUnread place name most before now (Failed file) =
    (file ≡ place) × Rose before.faults now.faults
IsUnread place name most before now TooLong = IsLongFile before.files name most
IsUnread place name most before now Memory = ⊤
IsUnread place name most before now (Configuration fault) = ⊥
IsUnread place name most before now (Rules fault) = ⊥

-- ---- what is to be done

-- what a call is asked, with the file that it names read
pub data Job : Type 0 where
  answer_lines : Job
  count_books : Job
  make_report : ReportWords → Job
  post_documents : List ℕ → Job

-- what is asked is this job
abbrev pub IsJob : Option (List (List ℕ × List ℕ)) → Task → Job → Type 0
IsJob files run job = job ≡ answer_lines
IsJob files check job = job ≡ count_books
IsJob files (report words) job = job ≡ make_report words
IsJob files (import name) job =
    (bytes : List ℕ) × HasBytes files name most_import_bytes bytes × (job ≡ post_documents bytes)

-- the file that is asked for was not read
abbrev pub IsJobUnread : Task → ShelfState → ShelfState → SetupFault → Type 0
IsJobUnread run before now fault = ⊥
IsJobUnread check before now fault = ⊥
IsJobUnread (report words) before now fault = ⊥
IsJobUnread (import name) before now fault =
    IsUnread NamedFileIs.Documents name most_import_bytes before now fault

-- ---- the configuration

-- the bytes of a file are accepted as this configuration with these rules: both are read
abbrev pub IsAccepted : List ℕ → Setting → Type 0
IsAccepted bytes setting = (read_config bytes ≡ Ok setting.config)
    × (rules_of setting.config ≡ Ok setting.rules.kinds)

-- the bytes of a file are a configuration whose rules have this fault
abbrev pub RefusesRules : List ℕ → RuleFault → Type 0
RefusesRules bytes fault =
    (config : Config) × (read_config bytes ≡ Ok config) × (rules_of config ≡ Err fault)

-- the bytes of a file are not accepted
abbrev pub IsRefused : List ℕ → SetupFault → Type 0
IsRefused bytes (Configuration fault) = read_config bytes ≡ Err fault
IsRefused bytes (Rules fault) = RefusesRules bytes fault
IsRefused bytes Memory = ⊤
IsRefused bytes (Failed file) = ⊥
IsRefused bytes TooLong = ⊥

-- ---- both

-- the files that a call names have been read: the configuration as these bytes, and what is asked
-- is this job
pub record AreRead (call : Call) (files : Option (List (List ℕ × List ℕ)))
    (bytes : List ℕ) (job : Job) : Type 0 where
  pub has : HasBytes files call.config most_config_bytes bytes
  pub asked : IsJob files call.task job

-- the configuration was read, and the other file was not
pub record IsHalfRead (call : Call) (before now : ShelfState) (fault : SetupFault)
    : Type 0 where
  pub bytes : List ℕ
  pub has : HasBytes before.files call.config most_config_bytes bytes
  pub unread : IsJobUnread call.task before now fault

-- both were read, and the configuration is not accepted
pub record IsTurnedDown (call : Call) (before : ShelfState) (fault : SetupFault)
    : Type 0 where
  pub bytes : List ℕ
  pub job : Job
  pub read : AreRead call before.files bytes job
  pub refused : IsRefused bytes fault

-- why a desk is not set up: the first of the files that is not read, or else the configuration
abbrev pub RefusesSetup : Call → ShelfState → ShelfState → SetupFault → Type 0
RefusesSetup call before now fault =
    IsUnread NamedFileIs.Configuration call.config most_config_bytes before now fault
    ⊎ IsHalfRead call before now fault
    ⊎ IsTurnedDown call before fault

-- both were read, and the configuration is accepted
pub record IsSetUp (call : Call) (before : ShelfState) (job : Job) (setting : Setting)
    : Type 0 where
  pub bytes : List ℕ
  pub read : AreRead call before.files bytes job
  pub accepted : IsAccepted bytes setting
