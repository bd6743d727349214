-- What a top call comes to, from its parts; and that wrong words alone have their status.
use Rattle.std.proofs.Common.{◌≡◌, ℕ, List, [], Option, None, Some, refl, sym, ap, ◌∙◌, inl, inr}
use Rattle.std.proofs.Common.{arith, subst}
use Rattle.std.specs.Prelude.{IfSome, Result, Ok, Err, ◌↔◌, ◌≤◌, length}
use Rattle.reg_io.specs.Disks.{DiskState}
use Rattle.post_journal.specs.Images.{image_of}
use Rattle.post_journal.specs.Journals.{Grows, Keeps}
use Rattle.post_journal.specs.Openings.{HasDiskCause, KeepsRefused, OpensAs}
use Rattle.post_journal.specs.declared.journal.Payload.{Payload}
use Rattle.post_journal.specs.declared.fault.OpenFault.{OpenFault}
use Rattle.post_journal.specs.declared.fault.OpenFault.TheVariants.{DiskFault}
use Rattle.post_journal.specs.declared.fault.OpenFault.TheVariants.{NotAJournal as OpenNotAJournal}
use Rattle.post_journal.specs.declared.fault.OpenFault.TheVariants.{BadEntry as OpenBadEntry}
use Rattle.post_journal.specs.declared.fault.OpenFault.TheVariants.{Memory as OpenMemory}
use Rattle.csv_groups.specs.Files.{read_file}
use Rattle.desk_model.specs.State.{Setting, Desk}
use Rattle.desk_core.specs.declared.replay.ReplayFault.{ReplayFault}
use Rattle.desk_core.specs.declared.replay.ReplayFault.TheVariants.{Unreplayable}
use Rattle.desk_core.specs.declared.replay.ReplayFault.TheVariants.{Memory as ReplayMemory}
use Rattle.desk_core.specs.Counts.{counts_of}
use Rattle.desk_core.specs.Histories.{OpensDesk, opened_desk}
use Rattle.desk_reports.specs.Reports.{ReportWords, report_of}
use Rattle.desk_run.specs.declared.run.RunEnd.{RunEnd}
use Rattle.desk_run.specs.declared.fault.Fault.{Fault}
use Rattle.desk_run.specs.declared.fault.Fault.TheVariants.{Setup, Opening}
use Rattle.desk_run.specs.declared.fault.SetupFault.{SetupFault}
use Rattle.desk_run.specs.declared.fault.SetupFault.TheVariants.{Failed, TooLong, Configuration}
use Rattle.desk_run.specs.declared.fault.SetupFault.TheVariants.{Rules, Memory as SetupMemory}
use Rattle.desk_run.specs.declared.fault.OpeningFault.{OpeningFault}
use Rattle.desk_run.specs.declared.fault.OpeningFault.TheVariants.{NotAJournal, BadEntry, Entry}
use Rattle.desk_run.specs.declared.fault.OpeningFault.TheVariants.{Disk as OpeningDisk}
use Rattle.desk_run.specs.declared.fault.OpeningFault.TheVariants.{Memory as OpeningMemory}
use Rattle.desk_run.specs.declared.fault.JobFault.{JobFault}
use Rattle.desk_run.specs.declared.fault.JobFault.TheVariants.{Row, Refused, InputTooLong, Read}
use Rattle.desk_run.specs.declared.fault.JobFault.TheVariants.{Write, Disk, Memory}
use Rattle.desk_run.specs.declared.fault.TextFault.{TextFault}
use Rattle.desk_run.specs.CheckTexts.{check_text}
use Rattle.desk_run.specs.Ends.{Ends, EndsAs, EndsUnder, LeavesDisk, StopsBefore, StopsOpening}
use Rattle.desk_run.specs.Ends.{end_of_job, end_of_run}
use Rattle.desk_run.specs.Files.{Job, RefusesSetup, ShelfState, answer_lines, count_books}
use Rattle.desk_run.specs.Files.{make_report, post_documents}
use Rattle.desk_run.specs.Inputs.{HasEntries}
use Rattle.desk_run.specs.Runs.{Runs, Streams}
use Rattle.desk_run.specs.Statuses.{end_status, open_fault, replay_fault, status_of}
use Rattle.desk_run.specs.Steps.{ImportsAt}
use Rattle.desk_run.specs.Texts.{TellsReport, WritesText, end_of_text}
use Rattle.desk_run.specs.Words.{Call, call_of}
use Rattle.desk_run.proofs.ImportLemmas.{import_again, imports-from}
use Rattle.desk_run.proofs.Opened.{Runs-from, again_opened, keeps_none, run_again}

-- ---- ends of the parts

-- a call that was not set up
pub setup-stops : (call : Call) (shelf shelf_now : ShelfState) (before : Streams)
    (disk : DiskState) (fault : SetupFault) → RefusesSetup call shelf shelf_now fault
    → StopsBefore call shelf shelf_now before before disk disk (Err (Setup fault))
setup-stops call shelf shelf_now before disk fault refuses = record {
  fault = fault;
  end_is = refl;
  refuses = refuses;
  nothing = record { out = refl; keeps = keeps_none disk };
}

-- a journal that was not opened
opening-stops : {A : Type 0} (setting : Setting) (before : Streams)
    (disk disk_now : DiskState) (f f_now : ℕ) (fault : OpenFault)
    → IfSome disk.content (λ bytes. OpensAs {A = A} (image_of bytes) (Err fault))
    → KeepsRefused {T = A × List Payload} disk disk_now (Err fault) → Keeps disk disk_now
    → HasDiskCause {T = A × List Payload} f f_now (Err fault)
    → StopsOpening setting before before disk disk_now f f_now (Err (Opening (open_fault fault)))
opening-stops setting before disk disk_now f f_now OpenNotAJournal opens refused keeps cause =
    record {
      fault = NotAJournal;
      end_is = refl;
      refuses = (refused, opens);
      nothing = record { out = refl; keeps = keeps };
    }
opening-stops setting before disk disk_now f f_now (OpenBadEntry place) opens refused keeps cause =
    record {
      fault = BadEntry place;
      end_is = refl;
      refuses = (refused, opens);
      nothing = record { out = refl; keeps = keeps };
    }
opening-stops setting before disk disk_now f f_now DiskFault opens refused keeps cause = record {
  fault = OpeningDisk;
  end_is = refl;
  refuses = cause.failed refl;
  nothing = record { out = refl; keeps = keeps };
}
opening-stops setting before disk disk_now f f_now OpenMemory opens refused keeps cause = record {
  fault = OpeningMemory;
  end_is = refl;
  refuses = tt;
  nothing = record { out = refl; keeps = keeps };
}

-- an entry that does not replay
replay-stops : (setting : Setting) (before : Streams) (disk disk_now : DiskState)
    (f f_now : ℕ) (entries : List (List ℕ)) (fault : ReplayFault)
    → HasEntries disk.content entries → OpensDesk setting entries (Err fault)
    → Keeps disk disk_now
    → StopsOpening setting before before disk disk_now f f_now (Err (Opening (replay_fault fault)))
replay-stops setting before disk disk_now f f_now entries (Unreplayable index) stand opens keeps =
    record {
      fault = Entry index;
      end_is = refl;
      refuses = record { entries = entries; stand = stand; refused = opens };
      nothing = record { out = refl; keeps = keeps };
    }
replay-stops setting before disk disk_now f f_now entries ReplayMemory stand opens keeps = record {
  fault = OpeningMemory;
  end_is = refl;
  refuses = tt;
  nothing = record { out = refl; keeps = keeps };
}

-- ---- ends of a job under a configuration

pub EndsUnder-opening : {A : Type 0} (job : Job) (setting : Setting) (before : Streams)
    (disk disk_now : DiskState) (f f_now : ℕ) (fault : OpenFault)
    → IfSome disk.content (λ bytes. OpensAs {A = A} (image_of bytes) (Err fault))
    → KeepsRefused {T = A × List Payload} disk disk_now (Err fault) → Keeps disk disk_now
    → HasDiskCause {T = A × List Payload} f f_now (Err fault)
    → EndsUnder job setting before before disk disk_now f f_now (Err (Opening (open_fault fault)))
EndsUnder-opening job setting before disk disk_now f f_now fault opens refused keeps cause =
    inl (opening-stops setting before disk disk_now f f_now fault opens refused keeps cause)

pub EndsUnder-replay : (job : Job) (setting : Setting) (before : Streams)
    (disk disk_now : DiskState) (f f_now : ℕ) (entries : List (List ℕ)) (fault : ReplayFault)
    → HasEntries disk.content entries → OpensDesk setting entries (Err fault)
    → Keeps disk disk_now
    → EndsUnder job setting before before disk disk_now f f_now
    (Err (Opening (replay_fault fault)))
EndsUnder-replay job setting before disk disk_now f f_now entries fault stand opens keeps =
    inl (replay-stops setting before disk disk_now f f_now entries fault stand opens keeps)

-- lines that were run behind an opening
pub EndsUnder-run : (setting : Setting) (entries : List (List ℕ))
    (desk after : Desk) (before now : Streams) (disk mid disk_now : DiskState)
    (f f_mid f_now : ℕ) (end : Result (Unit {0}) RunEnd)
    → HasEntries disk.content entries → opened_desk setting entries ≡ Ok desk
    → Grows disk mid [] [] → f ≤ f_mid
    → Runs desk after before now mid disk_now f_mid f_now end
    → EndsUnder answer_lines setting before now disk disk_now f f_now
    (end_of_job (end_of_run end))
EndsUnder-run setting entries desk after before now disk mid disk_now f f_mid f_now end stand
    opened grows later runs =
    let whole = Runs-from desk after before now disk mid disk_now f f_mid f_now end grows later runs
    in inr (record {
      entries = entries;
      stand = stand;
      desk = desk;
      opened = opened;
      job_end = end_of_run end;
      end_is = refl;
      does = record { after = after; run_end = end; end_is = refl; runs = whole };
      again = run_again setting entries desk after before now disk disk_now f f_now end opened
          whole;
    })

module _ (setting : Setting) (entries : List (List ℕ)) (desk : Desk) (before now : Streams)
    (disk disk_now : DiskState) (f f_now : ℕ) (stand : HasEntries disk.content entries)
    (opened : opened_desk setting entries ≡ Ok desk) where
  -- counts that were written, or not
  pub EndsUnder-check : (count : ℕ) (end : Result (Unit {0}) TextFault) → count ≡ length entries
      → Keeps disk disk_now
      → WritesText (check_text (counts_of desk.serial.documents) count) before.taken
      now.taken before.write_faults now.write_faults end
      → EndsUnder count_books setting before now disk disk_now f f_now
      (end_of_job (end_of_text end))
  EndsUnder-check count end is keeps writes = inr (record {
    entries = entries;
    stand = stand;
    desk = desk;
    opened = opened;
    job_end = end_of_text end;
    end_is = refl;
    does = record {
      tells = record {
        text_end = end;
        end_is = refl;
        writes = subst (λ n. WritesText (check_text (counts_of desk.serial.documents) n) before.taken
            now.taken before.write_faults now.write_faults end) is writes;
      };
      keeps = keeps;
    };
    again = again_opened setting entries desk disk disk_now stand keeps opened;
  })

  -- a report that was written, or not
  pub EndsUnder-report : (words : ReportWords) (end : Result (Unit {0}) JobFault)
      → Keeps disk disk_now
      → TellsReport (report_of desk words) before.taken now.taken before.write_faults
      now.write_faults end
      → EndsUnder (make_report words) setting before now disk disk_now f f_now (end_of_job end)
  EndsUnder-report words end keeps tells = inr (record {
    entries = entries;
    stand = stand;
    desk = desk;
    opened = opened;
    job_end = end;
    end_is = refl;
    does = record { tells = tells; keeps = keeps };
    again = again_opened setting entries desk disk disk_now stand keeps opened;
  })

  -- documents that were posted behind an opening, or not
  pub EndsUnder-import : (bytes : List ℕ) (mid : DiskState) (f_mid : ℕ)
      (end : Result (Unit {0}) JobFault) → Grows disk mid [] [] → f ≤ f_mid
      → ImportsAt (read_file desk.setting.config bytes) desk before.taken now.taken
      before.write_faults now.write_faults mid disk_now f_mid f_now end
      → EndsUnder (post_documents bytes) setting before now disk disk_now f f_now (end_of_job end)
  EndsUnder-import bytes mid f_mid end grows later imports =
      let whole = imports-from (read_file desk.setting.config bytes) desk before.taken now.taken
      before.write_faults now.write_faults disk mid disk_now f f_mid f_now end grows later imports
      in inr (record {
        entries = entries;
        stand = stand;
        desk = desk;
        opened = opened;
        job_end = end;
        end_is = refl;
        does = whole;
        again = import_again setting entries desk (read_file desk.setting.config bytes)
            before.taken now.taken before.write_faults now.write_faults mid disk_now f_mid f_now
            end opened imports;
      })

-- ---- what comes behind the setup says nothing of a disk that is not touched

end-leaves : {D : Type 0} (a b : D) (end : Result (Unit {0}) JobFault)
    → LeavesDisk (end_of_job end) a b
end-leaves a b (Ok done) = tt
end-leaves a b (Err fault) = tt

pub under-leaves : {D : Type 0} (a b : D) (before now : Streams) (disk disk_now : DiskState)
    (f f_now : ℕ) (end : Result (Unit {0}) Fault) (job : Job) (setting : Setting)
    → EndsUnder job setting before now disk disk_now f f_now end → LeavesDisk end a b
under-leaves a b before now disk disk_now f f_now end job setting (inl stops) =
    rw stops.end_is tt
under-leaves a b before now disk disk_now f f_now end job setting (inr done) =
    rw done.end_is (end-leaves a b done.job_end)

-- ---- the status of wrong words

setup-not : (fault : SetupFault) → status_of (Setup fault) ≡ 2 → ⊥
setup-not (Failed file) e = absurd (omega (arith, e))
setup-not TooLong e = absurd (omega (arith, e))
setup-not (Configuration fault) e = absurd (omega (arith, e))
setup-not (Rules fault) e = absurd (omega (arith, e))
setup-not SetupMemory e = absurd (omega (arith, e))

opening-not : (fault : OpeningFault) → status_of (Opening fault) ≡ 2 → ⊥
opening-not NotAJournal e = absurd (omega (arith, e))
opening-not (BadEntry place) e = absurd (omega (arith, e))
opening-not (Entry index) e = absurd (omega (arith, e))
opening-not OpeningDisk e = absurd (omega (arith, e))
opening-not OpeningMemory e = absurd (omega (arith, e))

job-not : (end : Result (Unit {0}) JobFault) → end_status (end_of_job end) ≡ 2 → ⊥
job-not (Ok done) e = absurd (omega (arith, e))
job-not (Err (Row row why)) e = absurd (omega (arith, e))
job-not (Err (Refused line)) e = absurd (omega (arith, e))
job-not (Err InputTooLong) e = absurd (omega (arith, e))
job-not (Err Read) e = absurd (omega (arith, e))
job-not (Err Write) e = absurd (omega (arith, e))
job-not (Err Disk) e = absurd (omega (arith, e))
job-not (Err Memory) e = absurd (omega (arith, e))

module _ (shelf shelf_now : ShelfState) (before now : Streams) (disk disk_now : DiskState)
    (f f_now : ℕ) (end : Result (Unit {0}) Fault) where
  under-not : (job : Job) (setting : Setting)
      → EndsUnder job setting before now disk disk_now f f_now end → end_status end ≡ 2 → ⊥
  under-not job setting (inl stops) e =
      opening-not stops.fault (ap end_status (sym stops.end_is) ∙ e)
  under-not job setting (inr done) e = job-not done.job_end (ap end_status (sym done.end_is) ∙ e)

  -- a call has another status
  call-not : (call : Call)
      → EndsAs (Some call) shelf shelf_now before now disk disk_now f f_now end
      → end_status end ≡ 2 → ⊥
  call-not call (inl stops) e = setup-not stops.fault (ap end_status (sym stops.end_is) ∙ e)
  call-not call (inr under) e = under-not under.job under.setting under.ends e

-- the status is 2 exactly where the words are none of the lists
pub status-usage : (words : List (List ℕ)) (shelf shelf_now : ShelfState) (before now : Streams)
    (disk disk_now : DiskState) (f f_now : ℕ) (end : Result (Unit {0}) Fault) (status : ℕ)
    → status ≡ end_status end → Ends words shelf shelf_now before now disk disk_now f f_now end
    → (status ≡ 2) ↔ (call_of words ≡ None)
status-usage words shelf shelf_now before now disk disk_now f f_now end status status_is ends =
    at (call_of words) refl ends
  where
    at : (asked : Option Call) → call_of words ≡ asked
        → EndsAs asked shelf shelf_now before now disk disk_now f f_now end
        → (status ≡ 2) ↔ (call_of words ≡ None)
    at None is usage = (λ _. is, λ _. status_is ∙ ap end_status usage.0)
    at (Some call) is ended = (
      λ two. absurd (call-not shelf shelf_now before now disk disk_now f f_now end call ended
          (sym status_is ∙ two)),
      λ none. absurd (let clash = sym is ∙ none in cc),
    )
