-- The laws hold among the lines that a call answered, at each of its ends, and over the entries of
-- the journal that it leaves.
use Rattle.std.proofs.Common.{◌≡◌, ℕ, ◌+◌, List, [], ◌∷◌, ◌++◌, length, take, ap, ◌∙◌, inl}
use Rattle.std.proofs.Common.{inr, arith, take_all, Option, None, Some, IfSome, append_assoc}
use Rattle.std.specs.Prelude.{Result, Ok, Err}
use Rattle.std.specs.Io.KnownBytes.{Appends}
use Rattle.std.specs.Option.{option_map}
use Rattle.std.proofs.Math.Seq.{take-append-add}
use Rattle.std.proofs.lemmas.Option.{same_Some}
use Rattle.reg_base.specs.declared.line.Line.{Line}
use Rattle.reg_io.specs.Disks.{DiskState}
use Rattle.post_journal.specs.Images.{entries_held, image_of}
use Rattle.post_journal.specs.Journals.{Keeps}
use Rattle.desk_model.specs.State.{Setting, State, Desk}
use Rattle.desk_model.specs.Answers.{line_answer, answers_to, desk_after}
use Rattle.desk_model.specs.Laws.{LawsHold}
use Rattle.desk_history.specs.ClerkOrder.{EntriesRise}
use Rattle.desk_history.specs.Replays.{replayed}
use Rattle.desk_run.specs.declared.run.RunEnd.{RunEnd}
use Rattle.desk_run.specs.declared.run.RunEnd.TheVariants.{Memory as RunMemory, Read as RunRead}
use Rattle.desk_run.specs.declared.run.RunEnd.TheVariants.{Write as RunWrite, Disk as RunDisk}
use Rattle.desk_run.specs.declared.run.RunEnd.TheVariants.{InputTooLong as RunTooLong}
use Rattle.desk_run.specs.declared.fault.Fault.{Fault}
use Rattle.desk_run.specs.Ends.{Ends, EndsAs, EndsUnder, IsDone}
use Rattle.desk_run.specs.Files.{IsJob, Job, ShelfState, answer_lines}
use Rattle.desk_run.specs.Inputs.{OpensAt, ReplaysUnder}
use Rattle.desk_run.specs.Promises.{AnswersByLaws, HistoryRises, HoldsConfig, KeepsLaws, KeepsOrder}
use Rattle.desk_run.specs.Runs.{AreFirstLines, Runs, Streams, StopsAtWrite}
use Rattle.desk_run.specs.Texts.{KeepsOut}
use Rattle.desk_run.specs.Words.{Call, Task, check, import, report, run}
use Rattle.desk_run.proofs.Completeness.{held_config}
use Rattle.desk_run.proofs.Opened.{again_opened}
use Rattle.desk_run.proofs.RunLemmas.{answers_to-more}

-- lines were answered whole
laws_lines : (setting : Setting) (content : Option (List ℕ)) (desk : Desk) (lines : List Line)
    (before now : Streams) → OpensAt setting content desk → AreFirstLines lines before.left
    → Appends before.taken now.taken (answers_to desk lines) → LawsHold desk lines
    → AnswersByLaws setting content before now
laws_lines setting content desk lines before now opens first out laws = record {
  desk = desk;
  opens = opens;
  lines = lines;
  first = first;
  count = length (answers_to desk lines);
  out = rw (take_all (length (answers_to desk lines)) (answers_to desk lines)
      (omega arith)) out;
  laws = laws;
}

-- the last line was answered in part
laws_part : (setting : Setting) (content : Option (List ℕ)) (desk after : Desk)
    (before now : Streams) (disk disk_now : DiskState) → OpensAt setting content desk
    → StopsAtWrite desk after before now disk disk_now → AnswersByLaws setting content before now
laws_part setting content desk after before now disk disk_now opens stops =
    let whole = answers_to desk stops.lines in
    let part = line_answer (desk_after desk stops.lines) stops.line in
    let same : take (length whole + stops.count) (answers_to desk (stops.lines ++ stops.line ∷ []))
    ≡ whole ++ take stops.count part =
    ap (λ l. take (length whole + stops.count) l)
    (answers_to-more desk stops.lines stops.line)
    ∙ take-append-add whole part stops.count in record {
      desk = desk;
      opens = opens;
      lines = stops.lines ++ stops.line ∷ [];
      first = stops.first;
      count = length whole + stops.count;
      out = rw same stops.out;
      laws = stops.laws;
    }

-- one line less is among the first lines
first_less : (lines : List Line) (line : Line) (input : Option (List ℕ))
    → AreFirstLines (lines ++ line ∷ []) input → AreFirstLines lines input
first_less lines line None first = tt
first_less lines line (Some bytes) first =
    (line ∷ first.0, first.1 ∙ append_assoc lines (line ∷ []) first.0)

-- the laws at each end of a run
run_laws : (setting : Setting) (content : Option (List ℕ)) (desk after : Desk)
    (before now : Streams) (disk disk_now : DiskState) (f f_now : ℕ)
    (end : Result (Unit {0}) RunEnd) → OpensAt setting content desk
    → Runs desk after before now disk disk_now f f_now end
    → AnswersByLaws setting content before now
run_laws setting content desk after before now disk disk_now f f_now (Ok done) opens runs =
    laws_lines setting content desk runs.lines before now opens runs.answered.first
    runs.answered.out runs.answered.laws
run_laws setting content desk after before now disk disk_now f f_now (Err RunMemory) opens runs =
    laws_lines setting content desk runs.lines before now opens runs.answered.first
    runs.answered.out runs.answered.laws
run_laws setting content desk after before now disk disk_now f f_now (Err RunRead) opens runs =
    laws_lines setting content desk runs.lines before now opens runs.answered.first
    runs.answered.out runs.answered.laws
run_laws setting content desk after before now disk disk_now f f_now (Err RunTooLong) opens runs =
    laws_lines setting content desk runs.lines before now opens runs.answered.first
    runs.answered.out runs.answered.laws
run_laws setting content desk after before now disk disk_now f f_now (Err RunDisk) opens runs =
    laws_lines setting content desk runs.lines before now opens
    (first_less runs.lines runs.line before.left runs.first) runs.out runs.laws
run_laws setting content desk after before now disk disk_now f f_now (Err RunWrite) opens runs =
    laws_part setting content desk after before now disk disk_now opens runs

-- the entries of a file that replay rise
order_of : ((setting : Setting) (entries : List (List ℕ)) (state : State)
    → replayed setting entries ≡ Ok state → EntriesRise setting entries)
    → (setting : Setting) (content : Option (List ℕ)) → ReplaysUnder setting content
    → HistoryRises setting content
order_of rises setting None so = tt
order_of rises setting (Some bytes) so = at (entries_held (image_of bytes)) so.1
  where
    at : (held : Option (List (List ℕ))) → option_map (replayed setting) held ≡ Some (Ok so.0)
        → IfSome held (EntriesRise setting)
    at None e = tt
    at (Some entries) e = rises setting entries so.0 (same_Some _ _ e)

-- so do those of a file that opens a desk, where no entry came and none went
kept_order : ((setting : Setting) (entries : List (List ℕ)) (state : State)
    → replayed setting entries ≡ Ok state → EntriesRise setting entries)
    → (setting : Setting) (disk disk_now : DiskState) (desk : Desk)
    → OpensAt setting disk.content desk → Keeps disk disk_now
    → HistoryRises setting disk_now.content
kept_order rises setting disk disk_now desk opens keeps = order_of rises setting disk_now.content
    (again_opened setting opens.entries desk disk disk_now opens.stand keeps opens.opened)

module _ (setting : Setting) (before now : Streams) (disk disk_now : DiskState) (f f_now : ℕ)
    (end : Result (Unit {0}) Fault) where
  -- lines at the desk that the journal opens
  lines_laws : IsDone answer_lines setting before now disk disk_now f f_now end
      → AnswersByLaws setting disk.content before now
  lines_laws done = run_laws setting disk.content done.desk done.does.after before now disk disk_now
      f f_now done.does.run_end
      (record { entries = done.entries; stand = done.stand; opened = done.opened })
      done.does.runs

  -- where nothing was written
  silent_laws : (task : Task) → KeepsOut before now
      → KeepsLaws task setting disk.content before now
  silent_laws run out = inl out
  silent_laws check out = tt
  silent_laws (report words) out = tt
  silent_laws (import name) out = tt

  -- at the desk that the journal opens
  done_laws : (files : Option (List (List ℕ × List ℕ))) (task : Task) (job : Job)
      → IsJob files task job → IsDone job setting before now disk disk_now f f_now end
      → KeepsLaws task setting disk.content before now
  done_laws files run job is done = inr (lines_laws (rw is at done))
  done_laws files check job is done = tt
  done_laws files (report words) job is done = tt
  done_laws files (import name) job is done = tt

  under_laws : (files : Option (List (List ℕ × List ℕ))) (task : Task) (job : Job)
      → IsJob files task job → EndsUnder job setting before now disk disk_now f f_now end
      → KeepsLaws task setting disk.content before now
  under_laws files task job is (inl stops) = silent_laws task stops.nothing.out
  under_laws files task job is (inr done) = done_laws files task job is done

  -- what a call leaves of the journal's order
  under_order : (rises : (setting : Setting) (entries : List (List ℕ)) (state : State)
      → replayed setting entries ≡ Ok state → EntriesRise setting entries) (job : Job)
      → EndsUnder job setting before now disk disk_now f f_now end
      → KeepsOrder setting disk disk_now
  under_order rises job (inl stops) desk opens =
      kept_order rises setting disk disk_now desk opens stops.nothing.keeps
  under_order rises job (inr done) desk opens =
      order_of rises setting disk_now.content done.again

-- what a call answered under the configuration that its file holds
pub call_laws : (words : List (List ℕ)) (shelf shelf_now : ShelfState) (before now : Streams)
    (disk disk_now : DiskState) (f f_now : ℕ) (end : Result (Unit {0}) Fault)
    → Ends words shelf shelf_now before now disk disk_now f f_now end
    → (call : Call) (setting : Setting) → HoldsConfig words shelf call setting
    → KeepsLaws call.task setting disk.content before now
call_laws words shelf shelf_now before now disk disk_now f f_now end ends call setting holds =
    at (rw holds.asked at ends)
  where
    at : EndsAs (Some call) shelf shelf_now before now disk disk_now f f_now end
        → KeepsLaws call.task setting disk.content before now
    at (inl stops) = silent_laws setting before now disk disk_now f f_now end call.task
        stops.nothing.out
    at (inr under) = under_laws setting before now disk disk_now f f_now end shelf.files call.task
        under.job under.set_up.read.asked
        (rw (held_config words shelf call setting holds under.setting under.set_up.bytes
        under.set_up.read.has under.set_up.accepted) at under.ends)

-- and what it leaves of the journal's order
pub call_order : ((setting : Setting) (entries : List (List ℕ)) (state : State)
    → replayed setting entries ≡ Ok state → EntriesRise setting entries)
    → (words : List (List ℕ)) (shelf shelf_now : ShelfState) (before now : Streams)
    (disk disk_now : DiskState) (f f_now : ℕ) (end : Result (Unit {0}) Fault)
    → Ends words shelf shelf_now before now disk disk_now f f_now end
    → (call : Call) (setting : Setting) → HoldsConfig words shelf call setting
    → KeepsOrder setting disk disk_now
call_order rises words shelf shelf_now before now disk disk_now f f_now end ends call setting holds
    desk opens = at (rw holds.asked at ends)
  where
    at : EndsAs (Some call) shelf shelf_now before now disk disk_now f f_now end
        → HistoryRises setting disk_now.content
    at (inl stops) = kept_order rises setting disk disk_now desk opens stops.nothing.keeps
    at (inr under) = under_order setting before now disk disk_now f f_now end rises under.job
        (rw (held_config words shelf call setting holds under.setting under.set_up.bytes
        under.set_up.read.has under.set_up.accepted) at under.ends) desk opens
