-- What a top call promises of its whole: where nothing stands in its way it is done, and the laws
-- hold among what it answered and over the entries of its journal.
use Rattle.std.specs.Prelude.{◌≡◌, ◌⊎◌, ⊤, ℕ, ◌≤◌, List, length, take, Option, Some, IfSome}
use Rattle.std.specs.Prelude.{Result, Ok, Err}
use Rattle.std.specs.Io.KnownBytes.{Appends}
use Rattle.reg_base.specs.declared.line.Line.{Line}
use Rattle.reg_io.specs.Counts.{Rose}
use Rattle.reg_io.specs.Disks.{DiskState}
use Rattle.reg_io.specs.Files.{file_named, file_read}
use Rattle.post_journal.specs.Images.{entries_held, image_of}
use Rattle.desk_model.specs.State.{Setting, Desk}
use Rattle.desk_model.specs.Answers.{answers_to}
use Rattle.desk_model.specs.Laws.{LawsHold}
use Rattle.desk_history.specs.ClerkOrder.{EntriesRise}
use Rattle.desk_core.specs.Counts.{counts_of}
use Rattle.desk_core.specs.Histories.{opened_desk}
use Rattle.desk_reports.specs.Reports.{report_of}
use Rattle.desk_words.specs.declared.reply.Refusal.{Refusal}
use Rattle.csv_groups.specs.Files.{read_file}
use Rattle.csv_groups.specs.declared.fault.RowFault.{RowFault}
use Rattle.csv_groups.specs.declared.group.Group.{Group}
use Rattle.csv_import.specs.Imports.{import_text}
use Rattle.desk_run.specs.CheckTexts.{check_text}
use Rattle.desk_run.specs.Files.{IsAccepted, IsJob, Job, ShelfState, answer_lines, count_books}
use Rattle.desk_run.specs.Files.{make_report, most_config_bytes, post_documents}
use Rattle.desk_run.specs.Inputs.{OpensAt, answers}
use Rattle.desk_run.specs.Runs.{AreFirstLines, Streams, most_input_bytes}
use Rattle.desk_run.specs.Texts.{KeepsOut}
use Rattle.desk_run.specs.Words.{Call, Task, call_of, check, import, report, run}

-- the words ask for something, and the file that they name first holds this configuration, with
-- rules that are accepted
pub record HoldsConfig (words : List (List ℕ)) (shelf : ShelfState) (call : Call)
    (setting : Setting) : Type 0 where
  pub asked : call_of words ≡ Some call
  pub all : List (List ℕ × List ℕ)
  pub files : shelf.files ≡ Some all
  pub bytes : List ℕ
  pub read : file_read (file_named call.config all) most_config_bytes ≡ Ok bytes
  pub accepted : IsAccepted bytes setting

-- ---- a job is done to its end

-- nothing stands in the way of a job: the files that the words name and the disk are as they should
-- be, and neither has a call that failed, nor has the output
pub record MayDo (words : List (List ℕ)) (shelf shelf_now : ShelfState) (before now : Streams)
    (disk : DiskState) (faults faults_now : ℕ) (call : Call) (job : Job) (setting : Setting)
    (entries : List (List ℕ)) (desk : Desk) : Type 0 where
  pub holds : HoldsConfig words shelf call setting
  pub job_is : IsJob shelf.files call.task job
  pub file : List ℕ
  pub file_is : disk.content ≡ Some file
  pub stand : entries_held (image_of file) ≡ Some entries
  pub opened : opened_desk setting entries ≡ Ok desk
  pub file_calls : ¬ Rose shelf.faults shelf_now.faults
  pub writes : ¬ Rose before.write_faults now.write_faults
  pub disk_calls : ¬ Rose faults faults_now

-- the status is 0 and the output grew by exactly this text, or memory was refused
abbrev pub WritesWhole : List ℕ → Streams → Streams → ℕ → Type 0
WritesWhole text before now status =
    ((status ≡ 0) × Appends before.taken now.taken text) ⊎ (status ≡ 4)

-- a report is written whole, or its refusal has status 12
abbrev pub ReportsWhole : Result (List ℕ) Refusal → Streams → Streams → ℕ → Type 0
ReportsWhole (Ok text) before now status = WritesWhole text before now status
ReportsWhole (Err refusal) before now status = (status ≡ 12) ⊎ (status ≡ 4)

-- all groups of a file are posted, or its fault has status 10
abbrev pub ImportsWhole : Result (List Group) RowFault → Desk → Streams → Streams → ℕ → Type 0
ImportsWhole (Ok groups) desk before now status =
    WritesWhole (import_text desk groups) before now status
ImportsWhole (Err fault) desk before now status = (status ≡ 10) ⊎ (status ≡ 4)

-- what a job that may be done has done: an input whose bytes are told and within their limit is
-- answered, where no read failed; counts, a report or the lines of an import are written
abbrev pub HasDone : Job → List (List ℕ) → Desk → Streams → Streams → ℕ → Type 0
HasDone answer_lines entries desk before now status =
    (input : List ℕ) → before.left ≡ Some input → length input ≤ most_input_bytes
    → ¬ Rose before.read_faults now.read_faults
    → WritesWhole (answers desk input) before now status
HasDone count_books entries desk before now status =
    WritesWhole (check_text (counts_of desk.serial.documents) (length entries)) before now status
HasDone (make_report words) entries desk before now status =
    ReportsWhole (report_of desk words) before now status
HasDone (post_documents bytes) entries desk before now status =
    ImportsWhole (read_file desk.setting.config bytes) desk before now status

-- a job that may be done is done
abbrev pub IsComplete : List (List ℕ) → ShelfState → ShelfState → Streams → Streams → DiskState
    → ℕ → ℕ → ℕ → Type 0
IsComplete words shelf shelf_now before now disk faults faults_now status =
    (call : Call) (job : Job) (setting : Setting) (entries : List (List ℕ)) (desk : Desk)
    → MayDo words shelf shelf_now before now disk faults faults_now call job setting entries desk
    → HasDone job entries desk before now status

-- ---- laws

-- first lines of the input were answered at the desk that the entries of a file open, the last of
-- them perhaps in part, and the laws hold among them
pub record AnswersByLaws (setting : Setting) (content : Option (List ℕ)) (before now : Streams)
    : Type 0 where
  pub desk : Desk
  pub opens : OpensAt setting content desk
  pub lines : List Line
  pub first : AreFirstLines lines before.left
  pub count : ℕ
  pub out : Appends before.taken now.taken (take count (answers_to desk lines))
  pub laws : LawsHold desk lines

-- of a call that runs lines nothing was written, or the laws hold among what was answered
abbrev pub KeepsLaws : Task → Setting → Option (List ℕ) → Streams → Streams → Type 0
KeepsLaws run setting content before now =
    KeepsOut before now ⊎ AnswersByLaws setting content before now
KeepsLaws check setting content before now = ⊤
KeepsLaws (report words) setting content before now = ⊤
KeepsLaws (import name) setting content before now = ⊤

-- over the entries that a file holds, where its bytes are told, the numbers of each clerk rise
abbrev pub HistoryRises : Setting → Option (List ℕ) → Type 0
HistoryRises setting content = IfSome content (λ bytes. IfSome (entries_held (image_of bytes))
    (EntriesRise setting))

-- where the entries that the disk had open a desk, so it is for those that it has then
abbrev pub KeepsOrder : Setting → DiskState → DiskState → Type 0
KeepsOrder setting disk disk_now =
    (desk : Desk) → OpensAt setting disk.content desk → HistoryRises setting disk_now.content
