-- Where nothing stands in the way a job is done, unless memory is refused.
use Rattle.std.proofs.Common.{◌≡◌, ℕ, List, Option, None, Some, refl, sym, subst, ap, ◌∙◌, inl, inr}
use Rattle.std.proofs.Common.{arith, ◌⊎◌}
use Rattle.std.specs.Prelude.{Result, Ok, Err, ◌≤◌, length, []}
use Rattle.std.specs.Io.KnownBytes.{Appends}
use Rattle.std.proofs.lemmas.Bool.{false≢true}
use Rattle.reg_io.specs.Counts.{AppendsPrefix, Rose}
use Rattle.reg_io.specs.Disks.{DiskState}
use Rattle.reg_io.specs.Files.{file_named, file_read}
use Rattle.reg_io.specs.declared.shelf.ShelfFault.TheVariants.{TooLong as TooLongFile}
use Rattle.post_journal.specs.Images.{entries_held, image_of}
use Rattle.cfg_model.specs.Reading.{read_config}
use Rattle.rule_lang.specs.Rules.{rules_of}
use Rattle.csv_groups.specs.Files.{read_file}
use Rattle.csv_groups.specs.declared.fault.RowFault.{RowFault}
use Rattle.csv_groups.specs.declared.fault.RowFault.TheVariants as RowFaultIs
use Rattle.csv_groups.specs.declared.group.Group.{Group}
use Rattle.csv_import.specs.ImportEnds.{ImportEnds}
use Rattle.csv_import.specs.Imports.{import_text}
use Rattle.desk_words.specs.declared.reply.Refusal.{Refusal}
use Rattle.desk_model.specs.State.{Setting, Desk}
use Rattle.desk_core.specs.DeskViews.{DeskView}
use Rattle.desk_core.specs.declared.desk.StepEnd.{StepEnd}
use Rattle.desk_core.specs.declared.desk.StepEnd.TheVariants.{Memory as StepMemory, DiskFault}
use Rattle.desk_core.specs.declared.desk.StepEnd.TheVariants.{Closed}
use Rattle.desk_core.specs.Histories.{opened_desk}
use Rattle.desk_reports.specs.Reports.{report_of}
use Rattle.desk_run.specs.declared.run.RunEnd.{RunEnd}
use Rattle.desk_run.specs.declared.run.RunEnd.TheVariants.{Memory as RunMemory, Read as RunRead}
use Rattle.desk_run.specs.declared.run.RunEnd.TheVariants.{Disk as RunDisk}
use Rattle.desk_run.specs.declared.run.RunEnd.TheVariants.{Write as RunWrite}
use Rattle.desk_run.specs.declared.run.RunEnd.TheVariants.{InputTooLong as RunTooLong}
use Rattle.desk_run.specs.declared.fault.Fault.{Fault}
use Rattle.desk_run.specs.declared.fault.Fault.TheVariants.{Setup, Opening}
use Rattle.desk_run.specs.declared.fault.NamedFile.{NamedFile}
use Rattle.desk_run.specs.declared.fault.SetupFault.{SetupFault}
use Rattle.desk_run.specs.declared.fault.SetupFault.TheVariants.{Failed, TooLong, Configuration}
use Rattle.desk_run.specs.declared.fault.SetupFault.TheVariants.{Rules, Memory}
use Rattle.desk_run.specs.declared.fault.OpeningFault.{OpeningFault}
use Rattle.desk_run.specs.declared.fault.OpeningFault.TheVariants.{NotAJournal, BadEntry, Entry}
use Rattle.desk_run.specs.declared.fault.OpeningFault.TheVariants.{Disk as OpeningDisk}
use Rattle.desk_run.specs.declared.fault.OpeningFault.TheVariants.{Memory as OpeningMemory}
use Rattle.desk_run.specs.declared.fault.JobFault.{JobFault}
use Rattle.desk_run.specs.declared.fault.JobFault.TheVariants.{Write}
use Rattle.desk_run.specs.declared.fault.TextFault.{TextFault}
use Rattle.desk_run.specs.declared.fault.TextFault.TheVariants.{Write as TextWrite}
use Rattle.desk_run.specs.declared.fault.TextFault.TheVariants.{Memory as TextMemory}
use Rattle.desk_run.specs.Ends.{Does, Ends, EndsAs, EndsUnder, IsDone, RefusesJournal, end_of_job}
use Rattle.desk_run.specs.Ends.{end_of_run}
use Rattle.desk_run.specs.Files.{HasBytes, IsAccepted, IsJob, IsJobUnread, IsRefused}
use Rattle.desk_run.specs.Files.{IsUnread, Job, RefusesSetup, ShelfState, answer_lines, count_books}
use Rattle.desk_run.specs.Files.{make_report, most_config_bytes, most_import_bytes, post_documents}
use Rattle.desk_run.specs.Imports.{Imports, end_of_posting, going_desk}
use Rattle.desk_run.specs.Inputs.{answers}
use Rattle.desk_run.specs.Promises.{HasDone, HoldsConfig, ImportsWhole, IsComplete, MayDo}
use Rattle.desk_run.specs.Promises.{ReportsWhole, WritesWhole}
use Rattle.desk_run.specs.Runs.{Runs, Streams, most_input_bytes}
use Rattle.desk_run.specs.Statuses.{end_status}
use Rattle.desk_run.specs.Texts.{Tells, TellsReport, WritesText, end_of_text}
use Rattle.desk_run.specs.Words.{Call, Task, check, import, report, run}

-- ---- one answer

-- two answers that are the same value
ok_same : {T E : Type 0} (read : Result T E) (a b : T) → read ≡ Ok a → read ≡ Ok b → a ≡ b
ok_same (Ok x) a b p q = cc
ok_same (Err e) a b p q = absurd cc

-- an answer is no value and fault at once
not_both : {T E : Type 0} (read : Result T E) (value : T) (fault : E) → read ≡ Ok value →
    read ≡ Err fault → ⊥
not_both (Ok x) value fault p q = cc
not_both (Err e) value fault p q = cc

-- two options that are the same value
some_same : {T : Type 0} (o : Option T) (a b : T) → o ≡ Some a → o ≡ Some b → a ≡ b
some_same None a b p q = absurd cc
some_same (Some x) a b p q = cc

-- bytes are accepted as one configuration with its rules
same_setting : (bytes : List ℕ) (a b : Setting) → IsAccepted bytes a → IsAccepted bytes b → a ≡ b
same_setting bytes a b first second =
    let config = ok_same (read_config bytes) a.config b.config first.0 second.0 in
    let kinds = ok_same (rules_of b.config) a.rules.kinds b.rules.kinds
    (sym (ap rules_of config) ∙ first.1) second.1 in
    λ i. record { config = config i; rules = record { kinds = kinds i } }

-- ---- the files that the words name

-- a file whose bytes are told is not another one
same_file : (all : List (List ℕ × List ℕ)) (files : Option (List (List ℕ × List ℕ)))
    (name : List ℕ) (most : ℕ) (bytes other : List ℕ) → files ≡ Some all
    → file_read (file_named name all) most ≡ Ok bytes → HasBytes files name most other
    → bytes ≡ other
same_file all files name most bytes other told read has =
    ok_same (file_read (file_named name all) most) bytes other read (rw told at has.told)

-- and it is read, unless memory was refused
file_is_read : (all : List (List ℕ × List ℕ)) (before now : ShelfState) (place : NamedFile)
    (name : List ℕ) (most : ℕ) (bytes : List ℕ) (fault : SetupFault) → before.files ≡ Some all
    → file_read (file_named name all) most ≡ Ok bytes → ¬ Rose before.faults now.faults
    → IsUnread place name most before now fault → fault ≡ Memory
file_is_read all before now place name most bytes Memory told read calls unread = refl
file_is_read all before now place name most bytes (Failed file) told read calls unread =
    absurd (calls unread.1)
file_is_read all before now place name most bytes TooLong told read calls unread =
    absurd (not_both (file_read (file_named name all) most) bytes TooLongFile read
    (rw told at unread))
file_is_read all before now place name most bytes (Configuration fault) told read calls unread =
    absurd unread
file_is_read all before now place name most bytes (Rules fault) told read calls unread =
    absurd unread

-- so it is with what is asked
job_is_read : (all : List (List ℕ × List ℕ)) (before now : ShelfState) (task : Task) (job : Job)
    (fault : SetupFault) → before.files ≡ Some all → IsJob before.files task job
    → ¬ Rose before.faults now.faults → IsJobUnread task before now fault → fault ≡ Memory
job_is_read all before now run job fault told is calls unread = absurd unread
job_is_read all before now check job fault told is calls unread = absurd unread
job_is_read all before now (report words) job fault told is calls unread = absurd unread
job_is_read all before now (import name) job fault told is calls unread =
    file_is_read all before now _ name most_import_bytes is.0 fault told (rw told at is.1.told)
    calls unread

-- what is asked is one job
same_job : (all : List (List ℕ × List ℕ)) (files : Option (List (List ℕ × List ℕ))) (task : Task)
    (a b : Job) → files ≡ Some all → IsJob files task a → IsJob files task b → a ≡ b
same_job all files run a b told p q = p ∙ sym q
same_job all files check a b told p q = p ∙ sym q
same_job all files (report words) a b told p q = p ∙ sym q
same_job all files (import name) a b told p q =
    p.2 ∙ ap post_documents (same_file all files name most_import_bytes p.0 q.0 told
    (rw told at p.1.told) q.1) ∙ sym q.2

-- a configuration that is accepted is not refused
not_refused : (bytes : List ℕ) (setting : Setting) (fault : SetupFault)
    → IsAccepted bytes setting → IsRefused bytes fault → fault ≡ Memory
not_refused bytes setting Memory accepted refused = refl
not_refused bytes setting (Configuration fault) accepted refused =
    absurd (not_both (read_config bytes) setting.config fault accepted.0 refused)
not_refused bytes setting (Rules fault) accepted refused =
    let same : refused.0 ≡ setting.config =
    ok_same (read_config bytes) refused.0 setting.config refused.1 accepted.0 in
    absurd (not_both (rules_of setting.config) setting.rules.kinds fault accepted.1
    (rw same at refused.2))
not_refused bytes setting (Failed file) accepted refused = absurd refused
not_refused bytes setting TooLong accepted refused = absurd refused

module _ (words : List (List ℕ)) (shelf : ShelfState) (call : Call) (setting : Setting)
    (holds : HoldsConfig words shelf call setting) where
  -- the bytes that are read are those that the file holds
  same_bytes : (bytes : List ℕ) → HasBytes shelf.files call.config most_config_bytes bytes
      → holds.bytes ≡ bytes
  same_bytes bytes has = same_file holds.all shelf.files call.config most_config_bytes holds.bytes
      bytes holds.files holds.read has

  -- and the configuration that they are accepted as is the one that it holds
  pub held_config : (other : Setting) (bytes : List ℕ)
      → HasBytes shelf.files call.config most_config_bytes bytes → IsAccepted bytes other
      → other ≡ setting
  held_config other bytes has accepted = same_setting bytes other setting accepted
      (subst (λ b. IsAccepted b setting) (same_bytes bytes has) holds.accepted)

  -- where no call on the shelf failed, the call is set up, unless memory was refused
  is_set_up : (shelf_now : ShelfState) (job : Job) (fault : SetupFault)
      → IsJob shelf.files call.task job → ¬ Rose shelf.faults shelf_now.faults
      → RefusesSetup call shelf shelf_now fault → fault ≡ Memory
  is_set_up shelf_now job fault is calls (inl unread) =
      file_is_read holds.all shelf shelf_now _ call.config most_config_bytes holds.bytes fault
      holds.files holds.read calls unread
  is_set_up shelf_now job fault is calls (inr (inl half)) =
      job_is_read holds.all shelf shelf_now call.task job fault holds.files is calls half.unread
  is_set_up shelf_now job fault is calls (inr (inr down)) = not_refused down.bytes setting fault
      (subst (λ b. IsAccepted b setting) (same_bytes down.bytes down.read.has) holds.accepted)
      down.refused

-- ---- the journal opens

module _ (words : List (List ℕ)) (shelf shelf_now : ShelfState) (before now : Streams)
    (disk disk_now : DiskState) (f f_now : ℕ) (call : Call) (job : Job) (setting : Setting)
    (entries : List (List ℕ)) (desk : Desk)
    (may : MayDo words shelf shelf_now before now disk f f_now call job setting entries desk) where
  -- where no call on the disk failed, it opens, unless memory was refused
  opens : (fault : OpeningFault) → RefusesJournal setting disk disk_now f f_now fault
      → fault ≡ OpeningMemory
  opens OpeningMemory refuses = refl
  opens NotAJournal refuses =
      absurd (let none = sym (ap entries_held (rw may.file_is at refuses.1)) ∙ may.stand in cc)
  opens (BadEntry place) refuses =
      absurd (let none = sym (ap entries_held (rw may.file_is at refuses.1)) ∙ may.stand in cc)
  opens (Entry index) refuses =
      let same = some_same (entries_held (image_of may.file)) entries refuses.entries may.stand
      (rw may.file_is at refuses.stand) in
      absurd (not_both (opened_desk setting entries) desk index may.opened
      (ap (opened_desk setting) same ∙ refuses.refused))
  opens OpeningDisk refuses = absurd (may.disk_calls refuses)

  -- an end at which memory was refused, or the job was done
  abbrev IsOver : Result (Unit {0}) Fault → Type 0
  IsOver end = (end_status end ≡ 4) ⊎ ((job_end : Result (Unit {0}) JobFault)
      × (end ≡ end_of_job job_end)
      × Does job entries desk before now disk disk_now f f_now job_end)

  -- the job is done at the desk that it opens
  done_at : (end : Result (Unit {0}) Fault)
      → IsDone job setting before now disk disk_now f f_now end → IsOver end
  done_at end done =
      let same = some_same (entries_held (image_of may.file)) done.entries entries
      (rw may.file_is at done.stand) may.stand in
      let same_desk = ok_same (opened_desk setting entries) done.desk desk
      (rw same at done.opened) may.opened in
      inr (done.job_end, done.end_is, rw (same, same_desk) at done.does)

  over_under : (end : Result (Unit {0}) Fault)
      → EndsUnder job setting before now disk disk_now f f_now end → IsOver end
  over_under end (inl stops) =
      inl (ap end_status (stops.end_is ∙ ap (λ x. Err (Opening x)) (opens stops.fault
      stops.refuses)))
  over_under end (inr done) = done_at end done

  -- memory was refused, or the job is done
  pub is_over : (end : Result (Unit {0}) Fault)
      → EndsAs (Some call) shelf shelf_now before now disk disk_now f f_now end → IsOver end
  is_over end (inl stops) = inl (ap end_status (stops.end_is ∙ ap (λ x. Err (Setup x))
      (is_set_up words shelf call setting may.holds shelf_now job stops.fault may.job_is
      may.file_calls stops.refuses)))
  is_over end (inr under) =
      let same = held_config words shelf call setting may.holds under.setting under.set_up.bytes
      under.set_up.read.has under.set_up.accepted in
      let same_task = same_job may.holds.all shelf.files call.task under.job job may.holds.files
      under.set_up.read.asked may.job_is in
      over_under end (rw (same, same_task) at under.ends)

-- ---- what is done

-- all of the input is answered
run_answers : (desk after : Desk) (before now : Streams) (disk disk_now : DiskState) (f f_now : ℕ)
    (input : List ℕ) (end : Result (Unit {0}) RunEnd) (status : ℕ) → before.left ≡ Some input
    → length input ≤ most_input_bytes → ¬ Rose before.read_faults now.read_faults
    → ¬ Rose before.write_faults now.write_faults → ¬ Rose f f_now
    → status ≡ end_status (end_of_job (end_of_run end))
    → Runs desk after before now disk disk_now f f_now end
    → WritesWhole (answers desk input) before now status
run_answers desk after before now disk disk_now f f_now input (Ok u) status left within reads writes
    calls is runs =
    let all = rw left at runs.all in inl (is, rw all.0 runs.answered.out)
run_answers desk after before now disk disk_now f f_now input (Err RunMemory) status left within
    reads writes calls is runs = inr is
run_answers desk after before now disk disk_now f f_now input (Err RunDisk) status left within reads
    writes calls is runs = absurd (calls runs.cause)
run_answers desk after before now disk disk_now f f_now input (Err RunRead) status left within reads
    writes calls is runs = absurd (reads runs.cause)
run_answers desk after before now disk disk_now f f_now input (Err RunWrite) status left within
    reads writes calls is runs = absurd (writes runs.cause)
run_answers desk after before now disk disk_now f f_now input (Err RunTooLong) status left within
    reads writes calls is runs =
    let beyond = rw left at runs.beyond in absurd (omega (arith, beyond.0, within))

-- a text is written whole
text_written : (text : List ℕ) (before now : Streams) (end : Result (Unit {0}) TextFault)
    (status : ℕ) → ¬ Rose before.write_faults now.write_faults
    → status ≡ end_status (end_of_job (end_of_text end))
    → WritesText text before.taken now.taken before.write_faults now.write_faults end
    → WritesWhole text before now status
text_written text before now (Ok u) status calls is writes = inl (is, writes)
text_written text before now (Err TextWrite) status calls is writes = absurd (calls writes.1)
text_written text before now (Err TextMemory) status calls is writes = inr is

text_told : (text : List ℕ) (before now : Streams) (end : Result (Unit {0}) JobFault)
    (status : ℕ) → ¬ Rose before.write_faults now.write_faults → status ≡ end_status (end_of_job end)
    → Tells text before.taken now.taken before.write_faults now.write_faults end
    → WritesWhole text before now status
text_told text before now end status calls is tells = text_written text before now tells.text_end
    status calls (is ∙ ap (λ e. end_status (end_of_job e)) tells.end_is) tells.writes

-- a report is, or it is refused
report_told : (told : Result (List ℕ) Refusal) (before now : Streams)
    (end : Result (Unit {0}) JobFault) (status : ℕ)
    → ¬ Rose before.write_faults now.write_faults → status ≡ end_status (end_of_job end)
    → TellsReport told before.taken now.taken before.write_faults now.write_faults end
    → ReportsWhole told before now status
report_told (Ok text) before now end status calls is tells =
    text_told text before now end status calls is tells
report_told (Err refusal) before now end status calls is (out, inl refused) =
    inl (is ∙ ap (λ e. end_status (end_of_job e)) refused.1)
report_told (Err refusal) before now end status calls is (out, inr memory) =
    inr (is ∙ ap (λ e. end_status (end_of_job e)) memory)

-- all groups of a file are posted
groups_posted : (desk : Desk) (groups : List Group) (before now : Streams)
    (disk disk_now : DiskState) (f f_now : ℕ) (end : Result (Unit {0}) JobFault) (status : ℕ)
    (after : DeskView) (text : List ℕ) (posting_end : Result (Unit {0}) StepEnd)
    → ¬ Rose f f_now → status ≡ end_status (end_of_job (end_of_posting posting_end))
    → Appends before.taken now.taken text
    → ImportEnds (going_desk desk) after groups [] text disk disk_now f f_now posting_end
    → WritesWhole (import_text desk groups) before now status
groups_posted desk groups before now disk disk_now f f_now end status after text (Ok done) calls is
    out posts = inl (is, rw posts.text at out)
groups_posted desk groups before now disk disk_now f f_now end status after text (Err StepMemory)
    calls is out posts = inr is
groups_posted desk groups before now disk disk_now f f_now end status after text (Err DiskFault)
    calls is out posts = absurd (calls posts.cause)
groups_posted desk groups before now disk disk_now f f_now end status after text (Err Closed) calls
    is out posts = absurd (false≢true posts.0)

import_told : (read : Result (List Group) RowFault) (desk : Desk) (before now : Streams)
    (disk disk_now : DiskState) (f f_now : ℕ) (end : Result (Unit {0}) JobFault) (status : ℕ)
    → ¬ Rose before.write_faults now.write_faults → ¬ Rose f f_now
    → status ≡ end_status (end_of_job end)
    → Imports read desk before.taken now.taken before.write_faults now.write_faults disk disk_now
    f f_now end
    → ImportsWhole read desk before now status
import_told (Ok groups) desk before now disk disk_now f f_now end status writes calls is
    (inl posts) = at posts.written
  where
    at : (Appends before.taken now.taken posts.text × (end ≡ end_of_posting posts.posting_end))
        ⊎ (AppendsPrefix before.taken now.taken posts.text
        × Rose before.write_faults now.write_faults × (end ≡ Err Write))
        → WritesWhole (import_text desk groups) before now status
    at (inl whole) = groups_posted desk groups before now disk disk_now f f_now end status
        posts.after posts.text posts.posting_end calls
        (is ∙ ap (λ e. end_status (end_of_job e)) whole.1) whole.0 posts.posts
    at (inr part) = absurd (writes part.1)
import_told (Ok groups) desk before now disk disk_now f f_now end status writes calls is
    (inr stops) = inr (is ∙ ap (λ e. end_status (end_of_job e)) stops.end_is)
import_told (Err (RowFaultIs.Refused row why)) desk before now disk disk_now f f_now end status
    writes calls is (inl stops) =
    inl (is ∙ ap (λ e. end_status (end_of_job e)) stops.end_is)
import_told (Err RowFaultIs.Memory) desk before now disk disk_now f f_now end status writes calls
    is (inl stops) = inr (is ∙ ap (λ e. end_status (end_of_job e)) stops.end_is)
import_told (Err fault) desk before now disk disk_now f f_now end status writes calls is
    (inr stops) = inr (is ∙ ap (λ e. end_status (end_of_job e)) stops.end_is)

-- memory was refused
memory_refused : (job : Job) (entries : List (List ℕ)) (desk : Desk) (before now : Streams)
    (status : ℕ) → status ≡ 4 → HasDone job entries desk before now status
memory_refused answer_lines entries desk before now status is = λ input left within reads. inr is
memory_refused count_books entries desk before now status is = inr is
memory_refused (make_report words) entries desk before now status is =
    at (report_of desk words)
  where
    at : (told : Result (List ℕ) Refusal) → ReportsWhole told before now status
    at (Ok text) = inr is
    at (Err refusal) = inr is
memory_refused (post_documents bytes) entries desk before now status is =
    at (read_file desk.setting.config bytes)
  where
    at : (read : Result (List Group) RowFault) → ImportsWhole read desk before now status
    at (Ok groups) = inr is
    at (Err fault) = inr is

-- what a job comes to where no write and no call of the disk failed
does_done : (job : Job) (entries : List (List ℕ)) (desk : Desk) (before now : Streams)
    (disk disk_now : DiskState) (f f_now : ℕ) (end : Result (Unit {0}) JobFault) (status : ℕ)
    → ¬ Rose before.write_faults now.write_faults → ¬ Rose f f_now
    → status ≡ end_status (end_of_job end)
    → Does job entries desk before now disk disk_now f f_now end
    → HasDone job entries desk before now status
does_done answer_lines entries desk before now disk disk_now f f_now end status writes calls is
    does = λ input left within reads. run_answers desk does.after before now disk disk_now f f_now
    input does.run_end status left within reads writes calls
    (is ∙ ap (λ e. end_status (end_of_job e)) does.end_is) does.runs
does_done count_books entries desk before now disk disk_now f f_now end status writes calls is
    does = text_told _ before now end status writes is does.tells
does_done (make_report words) entries desk before now disk disk_now f f_now end status writes calls
    is does = report_told (report_of desk words) before now end status writes is does.tells
does_done (post_documents bytes) entries desk before now disk disk_now f f_now end status writes
    calls is does = import_told (read_file desk.setting.config bytes) desk before now disk disk_now
    f f_now end status writes calls is does

-- a job that may be done is done, unless memory is refused
pub call_completes : (words : List (List ℕ)) (shelf shelf_now : ShelfState) (before now : Streams)
    (disk disk_now : DiskState) (f f_now : ℕ) (end : Result (Unit {0}) Fault) (status : ℕ)
    → status ≡ end_status end → Ends words shelf shelf_now before now disk disk_now f f_now end
    → IsComplete words shelf shelf_now before now disk f f_now status
call_completes words shelf shelf_now before now disk disk_now f f_now end status is ends call job
    setting entries desk may =
    elim (is_over words shelf shelf_now before now disk disk_now f f_now call job setting entries
    desk may end (rw may.holds.asked at ends)) [
      | inl memory ↦ memory_refused job entries desk before now status (is ∙ memory)
      | inr over ↦ does_done job entries desk before now disk disk_now f f_now over.0 status
          may.writes may.disk_calls (is ∙ ap end_status over.1) over.2
    ]
