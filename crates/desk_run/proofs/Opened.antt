-- The desk that a journal's entries open, and a run from before the opening.
use Rattle.std.proofs.Common.{◌≡◌, ℕ, ◌+◌, ◌≤◌, false, List, [], ◌∷◌, ◌++◌, Option, None, Some}
use Rattle.std.proofs.Common.{IfSome, refl, sym, ap, ◌∙◌, arith, append-nil, inl, inr, subst}
use Rattle.std.specs.Prelude.{Result, Ok, Err}
use Rattle.std.specs.Option.{is_some, option_map}
use Rattle.std.proofs.lemmas.Bool.{false≢true}
use Rattle.reg_base.specs.Results.{◌>>=◌}
use Rattle.reg_base.specs.declared.line.Line.{Line}
use Rattle.reg_io.specs.Disks.{DiskState}
use Rattle.post_journal.specs.Images.{entries_held, image_of, journal_length}
use Rattle.post_journal.specs.Journals.{Grows, HasAll, JournalState, Keeps, Stands}
use Rattle.post_journal.proofs.ForAbove.{all_same, grows_more}
use Rattle.desk_model.specs.State.{Setting, State, Desk}
use Rattle.desk_model.specs.Answers.{desk_after, line_desk}
use Rattle.desk_model.proofs.ForAbove.{desk_after-setting}
use Rattle.desk_history.specs.Replays.{replayed}
use Rattle.desk_core.specs.Histories.{Holds, ReplaysTo, ReplaysToEither, opened_desk}
use Rattle.desk_run.specs.declared.run.RunEnd.{RunEnd}
use Rattle.desk_run.specs.declared.run.RunEnd.TheVariants.{Memory, Disk, Read, Write, InputTooLong}
use Rattle.desk_run.specs.Inputs.{HasEntries, ReplaysUnder}
use Rattle.desk_run.specs.Runs.{AnswersLines, CommitsLines, Runs, Streams}

-- ---- what an opened desk is

-- what the desk that entries open is made of
pub record IsOpened (setting : Setting) (entries : List (List ℕ)) (desk : Desk) : Type 0 where
  pub replays : replayed setting entries ≡ Ok desk.serial
  pub setting_is : desk.setting ≡ setting
  pub long : desk.journal ≡ journal_length entries

opened_by : (replay : Result State ℕ) (setting : Setting) (journal : ℕ) (desk : Desk)
    → (replay >>= λ state. Ok (record { setting = setting; serial = state; journal = journal }))
    ≡ Ok desk
    → (replay ≡ Ok desk.serial) × (desk.setting ≡ setting) × (desk.journal ≡ journal)
opened_by (Err index) setting journal desk e = absurd cc
opened_by (Ok state) setting journal desk e =
    let same : record { setting = setting; serial = state; journal = journal } ≡ desk = cc in (
      ap (λ (d : Desk). Ok d.serial) same,
      sym (ap (λ (d : Desk). d.setting) same),
      sym (ap (λ (d : Desk). d.journal) same),
    )

pub opened_parts : (setting : Setting) (entries : List (List ℕ)) (desk : Desk)
    → opened_desk setting entries ≡ Ok desk → IsOpened setting entries desk
opened_parts setting entries desk e =
    let parts = opened_by (replayed setting entries) setting (journal_length entries) desk e in
    record { replays = parts.0; setting_is = parts.1; long = parts.2 }

replays_opened : (first mid : Option (List ℕ)) (entries : List (List ℕ)) (desk : Desk)
    → is_some mid ≡ is_some first → IfSome mid (HasAll first []) → HasEntries first entries
    → replayed desk.setting entries ≡ Ok desk.serial → ReplaysTo desk mid
replays_opened first None entries desk told shown has replays = tt
replays_opened None (Some bytes) entries desk told shown has replays =
    absurd (false≢true (sym told))
replays_opened (Some file) (Some bytes) entries desk told shown has replays =
    ap (option_map (replayed desk.setting)) (shown ∙ ap (option_map (λ es. es ++ [])) has
    ∙ ap Some (append-nil entries)) ∙ ap Some replays

-- what replays to a desk of this setting replays under it
pub replays_under : (setting : Setting) (desk : Desk) (content : Option (List ℕ))
    → desk.setting ≡ setting → ReplaysTo desk content → ReplaysUnder setting content
replays_under setting desk None is so = tt
replays_under setting desk (Some bytes) is so = (
  desk.serial,
  subst (λ s. option_map (replayed s) (entries_held (image_of bytes)) ≡ Some (Ok desk.serial)) is
      so,
)

-- the entries that opened a desk do so again, where none came and none went
pub again_opened : (setting : Setting) (entries : List (List ℕ)) (desk : Desk)
    (first mid : DiskState) → HasEntries first.content entries → Keeps first mid
    → opened_desk setting entries ≡ Ok desk → ReplaysUnder setting mid.content
again_opened setting entries desk first mid has keeps opened =
    let parts = opened_parts setting entries desk opened in
    replays_under setting desk mid.content parts.setting_is
    (replays_opened first.content mid.content entries desk keeps.told keeps.shown has
    (ap (λ s. replayed s entries) parts.setting_is ∙ parts.replays))

-- the journal that was opened is that of the desk
pub holds_opened : (setting : Setting) (entries : List (List ℕ)) (desk : Desk)
    (journal : JournalState) (first mid : DiskState)
    → journal.failed ≡ false → Stands journal.end mid
    → journal.end + 1 ≡ journal_length entries → HasEntries first.content entries
    → Keeps first mid → opened_desk setting entries ≡ Ok desk → Holds desk journal mid
holds_opened setting entries desk journal first mid usable stands long has keeps opened =
    let parts = opened_parts setting entries desk opened in record {
      stands = record { usable = usable; stands = stands; long = parts.long ∙ sym long };
      replays = replays_opened first.content mid.content entries desk keeps.told keeps.shown has
          (ap (λ s. replayed s entries) parts.setting_is ∙ parts.replays);
    }

-- ---- a run from before the opening

commits_from : (desk after : Desk) (lines : List Line) (first mid disk_now : DiskState)
    → Grows first mid [] [] → CommitsLines desk after lines mid disk_now
    → CommitsLines desk after lines first disk_now
commits_from desk after lines first mid disk_now so run = record {
  grows = grows_more first mid disk_now [] _ [] so run.grows;
  replays = run.replays;
}

lines_from : (desk after : Desk) (lines : List Line) (before now : Streams)
    (first mid disk_now : DiskState)
    → Grows first mid [] [] → AnswersLines desk after lines before now mid disk_now
    → AnswersLines desk after lines before now first disk_now
lines_from desk after lines before now first mid disk_now so run = record {
  first = run.first;
  out = run.out;
  laws = run.laws;
  desk_is = run.desk_is;
  commits = commits_from desk after lines first mid disk_now so run.commits;
}

-- a run behind an opening is one from before it
pub Runs-from : (desk after : Desk) (before now : Streams) (first mid disk_now : DiskState)
    (f f_mid f_now : ℕ) (end : Result (Unit {0}) RunEnd)
    → Grows first mid [] [] → f ≤ f_mid
    → Runs desk after before now mid disk_now f_mid f_now end
    → Runs desk after before now first disk_now f f_now end
Runs-from desk after before now first mid disk_now f f_mid f_now (Ok done) so later run = record {
  lines = run.lines;
  all = run.all;
  at_end = run.at_end;
  answered = lines_from desk after run.lines before now first mid disk_now so run.answered;
}
Runs-from desk after before now first mid disk_now f f_mid f_now (Err Memory) so later run =
    record {
      lines = run.lines;
      answered = lines_from desk after run.lines before now first mid disk_now so run.answered;
    }
Runs-from desk after before now first mid disk_now f f_mid f_now (Err Disk) so later run =
    record {
      lines = run.lines;
      line = run.line;
      first = run.first;
      out = run.out;
      laws = run.laws;
      desk_is = run.desk_is;
      grows = grows_more first mid disk_now [] _ _ so run.grows;
      replays = run.replays;
      cause = omega (arith, later, run.cause);
    }
Runs-from desk after before now first mid disk_now f f_mid f_now (Err Read) so later run =
    record {
      bytes = run.bytes;
      lines = run.lines;
      taken = run.taken;
      within = run.within;
      whole = run.whole;
      answered = lines_from desk after run.lines before now first mid disk_now so run.answered;
      cause = run.cause;
    }
Runs-from desk after before now first mid disk_now f f_mid f_now (Err Write) so later run =
    record {
      lines = run.lines;
      line = run.line;
      first = run.first;
      count = run.count;
      part = run.part;
      out = run.out;
      laws = run.laws;
      desk_is = run.desk_is;
      commits = commits_from desk after _ first mid disk_now so run.commits;
      cause = run.cause;
    }
Runs-from desk after before now first mid disk_now f f_mid f_now (Err InputTooLong) so later run =
    record {
      lines = run.lines;
      beyond = run.beyond;
      answered = lines_from desk after run.lines before now first mid disk_now so run.answered;
    }

-- lines leave the setting
after_setting : (setting : Setting) (entries : List (List ℕ)) (desk after : Desk)
    (lines : List Line) → opened_desk setting entries ≡ Ok desk → after ≡ desk_after desk lines
    → after.setting ≡ setting
after_setting setting entries desk after lines opened is =
    ap (λ (d : Desk). d.setting) is ∙ desk_after-setting desk lines
    ∙ (opened_parts setting entries desk opened).setting_is

-- behind a fault of the disk one of two desks is replayed to
either_again : (setting : Setting) (entries : List (List ℕ)) (desk after : Desk)
    (lines : List Line) (line : Line) (content : Option (List ℕ))
    → opened_desk setting entries ≡ Ok desk → after ≡ desk_after desk lines
    → ReplaysToEither after (line_desk after line) content → ReplaysUnder setting content
either_again setting entries desk after lines line content opened is (inl so) =
    replays_under setting after content (after_setting setting entries desk after lines opened is)
    so
either_again setting entries desk after lines line content opened is (inr so) =
    replays_under setting (line_desk after line) content
    (desk_after-setting after (line ∷ []) ∙ after_setting setting entries desk after lines opened is)
    so

-- what a run leaves on the disk opens again
pub run_again : (setting : Setting) (entries : List (List ℕ)) (desk after : Desk)
    (before now : Streams) (disk disk_now : DiskState) (f f_now : ℕ)
    (end : Result (Unit {0}) RunEnd) → opened_desk setting entries ≡ Ok desk
    → Runs desk after before now disk disk_now f f_now end → ReplaysUnder setting disk_now.content
run_again setting entries desk after before now disk disk_now f f_now (Ok u) opened runs =
    replays_under setting after disk_now.content
    (after_setting setting entries desk after runs.lines opened runs.answered.desk_is)
    runs.answered.commits.replays
run_again setting entries desk after before now disk disk_now f f_now (Err Memory) opened runs =
    replays_under setting after disk_now.content
    (after_setting setting entries desk after runs.lines opened runs.answered.desk_is)
    runs.answered.commits.replays
run_again setting entries desk after before now disk disk_now f f_now (Err Disk) opened runs =
    either_again setting entries desk after runs.lines runs.line disk_now.content opened
    runs.desk_is runs.replays
run_again setting entries desk after before now disk disk_now f f_now (Err Read) opened runs =
    replays_under setting after disk_now.content
    (after_setting setting entries desk after runs.lines opened runs.answered.desk_is)
    runs.answered.commits.replays
run_again setting entries desk after before now disk disk_now f f_now (Err Write) opened runs =
    replays_under setting after disk_now.content
    (after_setting setting entries desk after (runs.lines ++ runs.line ∷ []) opened runs.desk_is)
    runs.commits.replays
run_again setting entries desk after before now disk disk_now f f_now (Err InputTooLong) opened
    runs = replays_under setting after disk_now.content
    (after_setting setting entries desk after runs.lines opened runs.answered.desk_is)
    runs.answered.commits.replays

shown_all : (content : Option (List ℕ)) → IfSome content (HasAll content [])
shown_all None = tt
shown_all (Some bytes) = all_same (Some bytes) bytes refl

-- a disk that is not touched keeps its entries
pub keeps_none : (disk : DiskState) → Keeps disk disk
keeps_none disk = record {
  moments = λ k image left. inl left;
  shown = shown_all disk.content;
  told = refl;
  later = omega arith;
}
