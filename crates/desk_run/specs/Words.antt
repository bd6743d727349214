-- What the words of a call ask.
use Rattle.std.specs.Prelude.{ℕ, codes, if◌then◌else◌, Option, Some, None, option_map, List}
use Rattle.std.specs.Prelude.{[], ◌∷◌}
use Rattle.std.specs.Str.{bytes_eq}
use Rattle.desk_reports.specs.Reports.{ReportWords}

-- to answer the lines of the input, to count what the journal holds, to report on what words name,
-- or to post the documents in the file of a name
pub data Task : Type 0 where
  run : Task
  check : Task
  report : ReportWords → Task
  import : List ℕ → Task

-- what a call is asked, under the configuration in the file of a name
pub record Call : Type 0 where
  pub config : List ℕ
  pub task : Task

-- what is asked under this configuration
abbrev pub under : List ℕ → Option Task → Option Call
under config asked = option_map (λ task. record { config = config; task = task }) asked

-- what a word asks alone
abbrev pub task_alone : List ℕ → Option Task
task_alone word =
    if bytes_eq word (codes "run") then Some run
    else if bytes_eq word (codes "check") then Some check
    else None

-- what a word asks with a file
abbrev pub task_of_file : List ℕ → List ℕ → Option Task
task_of_file word file = if bytes_eq word (codes "import") then Some (import file) else None

-- what a word asks with a name and two dates
abbrev pub task_of_report : List ℕ → List ℕ → List ℕ → List ℕ → Option Task
task_of_report word name from to =
    if bytes_eq word (codes "report")
    then Some (report (record { name = name; from = from; to = to }))
    else None

-- the call that words are, where they are one of the lists
abbrev pub call_of : List (List ℕ) → Option Call
call_of [] = None
call_of (word ∷ []) = None
call_of (word ∷ config ∷ []) = under config (task_alone word)
call_of (word ∷ config ∷ file ∷ []) = under config (task_of_file word file)
call_of (word ∷ config ∷ name ∷ from ∷ []) = None
call_of (word ∷ config ∷ name ∷ from ∷ to ∷ []) =
    under config (task_of_report word name from to)
call_of (word ∷ config ∷ name ∷ from ∷ to ∷ other ∷ words) = None
