-- How a run goes on by a line, and what it comes to at each of its ends.
use Rattle.std.proofs.Common.{◌≡◌, ℕ, ◌≤◌, ◌<◌, Bool, false, List, [], ◌∷◌, ◌++◌, length, Option}
use Rattle.std.proofs.Common.{None, Some, IfSome, refl, sym, ◌∙◌, arith, append-nil, ap}
use Rattle.std.specs.Prelude.{Result, Err, OnSome, take}
use Rattle.std.specs.Io.KnownBytes.{Appends, Consumes, IsAtEnd, prepend_known}
use Rattle.std.proofs.KnownBytes.{Appends-nil, Appends-trans, prepend_known-nil}
use Rattle.reg_io.specs.Counts.{Rose}
use Rattle.reg_io.specs.Lines.{lines_of, whole_lines_of}
use Rattle.reg_io.specs.LineStates.{LinesState, ahead, OnTold, IsFirstLine, HasNoWholeLine}
use Rattle.reg_io.specs.LineStates.{IsBeyondRoom, GivesLine, NextLine, IsEnd}
use Rattle.reg_base.specs.declared.line.Line.{Line}
use Rattle.reg_io.specs.declared.line.LineFault.{LineFault}
use Rattle.reg_io.specs.declared.line.LineFault.TheVariants.{Read as ReadFault}
use Rattle.reg_io.specs.declared.line.LineFault.TheVariants.{InputTooLong as InputFault}
use Rattle.reg_io.specs.declared.line.LineFault.TheVariants.{Memory as MemoryFault}
use Rattle.desk_model.specs.State.{Desk}
use Rattle.desk_model.proofs.ForAbove.{LawsHold-always}
use Rattle.desk_model.specs.Answers.{line_answer, desk_after, line_desk}
use Rattle.desk_run.specs.declared.run.RunEnd.{RunEnd}
use Rattle.desk_run.specs.declared.run.RunEnd.TheVariants.{Memory, Disk, Read, Write, InputTooLong}
use Rattle.desk_run.specs.Runs.{most_input_bytes, CommitsLines, Streams, Runs, AnswersLines}
use Rattle.desk_run.specs.Runs.{AnswersAll}
use Rattle.desk_run.specs.Runs.{AreFirstLines, answerable_lines}
use Rattle.reg_io.specs.Disks.{DiskState}
use Rattle.post_journal.specs.Journals.{Grows, JournalState}
use Rattle.post_journal.proofs.ForAbove.{grows_more, grows_none}
use Rattle.desk_history.specs.Histories.{entries_to, line_entries}
use Rattle.desk_core.specs.DeskViews.{DeskView}
use Rattle.desk_core.specs.Histories.{Holds, IsReady, ReplaysTo}
use Rattle.desk_run.specs.AnsweredLines.{Answered, AreGiven, IsRunning, RunsLine, end_of}
use Rattle.desk_run.proofs.RunLemmas.{answers_to-more, desk_after-more, entries_to-more}
use Rattle.desk_run.proofs.RunLemmas.{AreGiven-none}
use Rattle.desk_run.proofs.RunLemmas.{AreGiven-more, AreGiven-end, AreGiven-first, AreGiven-read}
use Rattle.desk_run.proofs.RunLemmas.{AreGiven-beyond}

-- a count that rose later rose from before, too
Rose-later : (before mid now : ℕ) → before ≤ mid → Rose mid now → Rose before now
Rose-later before mid now later rose = omega (arith, later, rose)

-- where nothing is ahead, nothing is left
IsAtEnd-left : (pending : List ℕ) (left : Option (List ℕ)) → IsAtEnd (prepend_known pending left)
    → IsAtEnd left
IsAtEnd-left pending None end = tt
IsAtEnd-left [] (Some bytes) end = end
IsAtEnd-left (byte ∷ pending) (Some bytes) end = absurd cc

-- the desk after lines and then one more
desk_is-more : (desk now next : Desk) (lines : List Line) (line : Line)
    → now ≡ desk_after desk lines → next ≡ line_desk now line
    → next ≡ desk_after desk (lines ++ line ∷ [])
desk_is-more desk now next lines line now_is next_is =
    (rw now_is at next_is) ∙ sym (desk_after-more desk lines line)

-- at first no line was given
given_none : (first : Option (List ℕ)) (ended : Bool)
    → OnTold first first (AreGiven most_input_bytes ended [])
given_none None ended = tt
given_none (Some bytes) ended = AreGiven-none ended bytes

given_more : (first mid now : Option (List ℕ)) (room room_next : ℕ) (ended_now ended : Bool)
    (lines : List Line) (line : Line)
    → OnTold first mid (AreGiven room ended_now lines)
    → OnTold mid now (IsFirstLine room room_next ended line)
    → OnTold first now (AreGiven room_next ended (lines ++ line ∷ []))
given_more None mid now room room_next ended_now ended lines line given next = tt
given_more (Some first) None now room room_next ended_now ended lines line given next = absurd given
given_more (Some first) (Some mid) None room room_next ended_now ended lines line given next =
    absurd next
given_more (Some first) (Some mid) (Some now) room room_next ended_now ended lines line given next =
    AreGiven-more room room_next ended_now ended lines line first mid now given next

given_end : (first now : Option (List ℕ)) (room : ℕ) (ended : Bool) (lines : List Line)
    → OnTold first now (AreGiven room ended lines) → IsAtEnd now
    → IfSome first (λ all. (lines_of all ≡ lines) × (length all ≤ most_input_bytes))
given_end None now room ended lines given end = tt
given_end (Some first) None room ended lines given end = absurd given
given_end (Some first) (Some now) room ended lines given end =
    AreGiven-end room ended lines first now given end

given_first : (first now : Option (List ℕ)) (room : ℕ) (ended : Bool) (lines : List Line)
    → OnTold first now (AreGiven room ended lines) → AreFirstLines lines first
given_first None now room ended lines given = tt
given_first (Some first) None room ended lines given = absurd given
given_first (Some first) (Some now) room ended lines given =
    AreGiven-first room ended lines first now given

given_read : (first now left : Option (List ℕ)) (room : ℕ) (ended : Bool) (lines : List Line)
    → OnTold first now (AreGiven room ended lines) → OnTold now left (HasNoWholeLine room)
    → ended ≡ false
    → (bytes : List ℕ) × Consumes first left bytes × (length bytes ≤ most_input_bytes)
    × OnSome first (whole_lines_of bytes ≡ lines)
given_read None now left room ended lines given stop e = ([], tt, omega arith, tt)
given_read (Some first) None left room ended lines given stop e = absurd given
given_read (Some first) (Some now) None room ended lines given stop e = absurd stop
given_read (Some first) (Some now) (Some left) room ended lines given stop e =
    AreGiven-read room ended lines first now left given stop e

given_beyond : (first now left : Option (List ℕ)) (room : ℕ) (ended : Bool) (lines : List Line)
    → OnTold first now (AreGiven room ended lines) → OnTold now left (IsBeyondRoom room)
    → IfSome first (λ all. (most_input_bytes < length all)
    × (whole_lines_of (take most_input_bytes all) ≡ lines))
given_beyond None now left room ended lines given stop = tt
given_beyond (Some first) None left room ended lines given stop = absurd given
given_beyond (Some first) (Some now) None room ended lines given stop = absurd stop
given_beyond (Some first) (Some now) (Some left) room ended lines given stop =
    AreGiven-beyond room ended lines first now left given stop

-- no lines are first lines
pub first_none : (first : Option (List ℕ)) → AreFirstLines [] first
first_none None = tt
first_none (Some bytes) = (answerable_lines bytes, refl)

-- what the disk has at first
pub CommitsLines-none : (desk : Desk) (journal : JournalState) (disk : DiskState)
    → Holds desk journal disk → CommitsLines desk desk [] disk disk
CommitsLines-none desk journal disk holds = record {
  grows = grows_none disk holds.stands.stands.sure;
  replays = holds.replays;
}

-- what one more line commits
CommitsLines-more : (desk now next : Desk) (lines : List Line) (line : Line)
    (disk disk_now disk_next : DiskState)
    → now ≡ desk_after desk lines → CommitsLines desk now lines disk disk_now
    → Grows disk_now disk_next (line_entries now line) [] → ReplaysTo next disk_next.content
    → CommitsLines desk next (lines ++ line ∷ []) disk disk_next
CommitsLines-more desk now next lines line disk disk_now disk_next now_is so grows replays = record {
  grows = rw (entries_to-more desk lines line)
      (grows_more disk disk_now disk_next (entries_to desk lines)
      (line_entries (desk_after desk lines) line) [] so.grows (rw now_is at grows));
  replays = replays;
}

-- what is committed stays where nothing more is
CommitsLines-same : (desk now next : Desk) (lines : List Line) (disk disk_now disk_next : DiskState)
    → CommitsLines desk now lines disk disk_now → Grows disk_now disk_next [] []
    → ReplaysTo next disk_next.content → CommitsLines desk next lines disk disk_next
CommitsLines-same desk now next lines disk disk_now disk_next so grows replays = record {
  grows = rw (append-nil (entries_to desk lines)) at
      (grows_more disk disk_now disk_next (entries_to desk lines) [] [] so.grows grows);
  replays = replays;
}

-- behind what is committed, what a fault cut off
grows_cut_off : (desk now : Desk) (lines : List Line) (line : Line)
    (disk disk_now disk_next : DiskState)
    → now ≡ desk_after desk lines → CommitsLines desk now lines disk disk_now
    → Grows disk_now disk_next [] (line_entries now line)
    → Grows disk disk_next (entries_to desk lines) (line_entries (desk_after desk lines) line)
grows_cut_off desk now lines line disk disk_now disk_next now_is so grows =
    rw (append-nil (entries_to desk lines)) at
    (grows_more disk disk_now disk_next (entries_to desk lines) []
    (line_entries (desk_after desk lines) line) so.grows (rw now_is at grows))

-- memory was refused before the first line
pub Runs-none : (desk : Desk) (left left_now taken : Option (List ℕ))
    (reads reads_now writes writes_now : ℕ) (journal : JournalState) (disk : DiskState)
    (faults faults_now : ℕ) → Holds desk journal disk
    → Runs desk desk
    (record { left = left; read_faults = reads; taken = taken; write_faults = writes })
    (record { left = left_now; read_faults = reads_now; taken = taken; write_faults = writes_now })
    disk disk faults faults_now (Err Memory)
Runs-none desk left left_now taken reads reads_now writes writes_now journal disk faults faults_now
    holds = record {
      lines = [];
      answered = record {
        first = first_none left;
        out = Appends-nil taken;
        laws = LawsHold-always desk [];
        desk_is = refl;
        commits = CommitsLines-none desk journal disk holds;
      };
    }

-- at first nothing but what the source has left is ahead
pub Runs-first : (desk after : Desk) (left taken : Option (List ℕ)) (reads writes : ℕ)
    (now : Streams) (disk disk_now : DiskState) (faults faults_now : ℕ)
    (end : Result (Unit {0}) RunEnd)
    → Runs desk after (record {
      left = prepend_known [] left;
      read_faults = reads;
      taken = taken;
      write_faults = writes;
    }) now disk disk_now faults faults_now end
    → Runs desk after
    (record { left = left; read_faults = reads; taken = taken; write_faults = writes }) now
    disk disk_now faults faults_now end
Runs-first desk after left taken reads writes now disk disk_now faults faults_now end runs =
    rw (prepend_known-nil left) at runs

-- the run at its start
pub IsRunning-none : (desk : Desk) (first : Option (List ℕ)) (room : ℕ) (ended : Bool)
    (out : Option (List ℕ)) (journal : JournalState) (disk : DiskState)
    → room ≡ most_input_bytes → Holds desk journal disk
    → IsRunning desk desk first first room ended out out disk disk
IsRunning-none desk first room ended out journal disk e holds = record {
  lines = [];
  given = rw e (given_none first ended);
  out = Appends-nil out;
  desk_is = refl;
  commits = CommitsLines-none desk journal disk holds;
}

-- one more line was given and answered
pub IsRunning-more : (desk : Desk) (now next : DeskView)
    (first ahead_now ahead_next : Option (List ℕ)) (room_now room_next : ℕ)
    (ended_now ended : Bool) (out_first out_now out_next : Option (List ℕ)) (line : Line)
    (journal : JournalState) (disk disk_now disk_next : DiskState)
    → IsRunning desk now.desk first ahead_now room_now ended_now out_first out_now disk disk_now
    → GivesLine ahead_now ahead_next room_now room_next ended line
    → Appends out_now out_next (line_answer now.desk line)
    → RunsLine now next line disk_now disk_next → Holds next.desk journal disk_next
    → IsRunning desk next.desk first ahead_next room_next ended out_first out_next disk disk_next
IsRunning-more desk now next first ahead_now ahead_next room_now room_next ended_now ended
    out_first out_now out_next line journal disk disk_now disk_next running gives out ran holds =
    record {
      lines = running.lines ++ line ∷ [];
      given = given_more first ahead_now ahead_next room_now room_next ended_now ended _ line
          running.given gives.first;
      out = rw (answers_to-more desk running.lines line)
          (Appends-trans out_first out_now out_next _ _ running.out (rw running.desk_is at out));
      desk_is = desk_is-more desk now.desk next.desk running.lines line running.desk_is ran.desk_is;
      commits = CommitsLines-more desk now.desk next.desk running.lines line disk disk_now disk_next
          running.desk_is running.commits ran.grows holds.replays;
    }

-- the lines of the run so far were answered whole
answered_lines : (desk now : Desk) (first ahead_now left_now : Option (List ℕ)) (room : ℕ)
    (ended : Bool) (out_first out_now : Option (List ℕ)) (reads reads_now writes writes_now : ℕ)
    (disk disk_now : DiskState)
    → (running : IsRunning desk now first ahead_now room ended out_first out_now disk disk_now)
    → AnswersLines desk now running.lines
    (record { left = first; read_faults = reads; taken = out_first; write_faults = writes })
    (record {
      left = left_now;
      read_faults = reads_now;
      taken = out_now;
      write_faults = writes_now;
    }) disk disk_now
answered_lines desk now first ahead_now left_now room ended out_first out_now reads reads_now
    writes writes_now disk disk_now running = record {
      first = given_first first ahead_now room ended running.lines running.given;
      out = running.out;
      laws = LawsHold-always desk running.lines;
      desk_is = running.desk_is;
      commits = running.commits;
    }

-- a fault of the input ends the run
pub Runs-fault : {S : Type 0} (left : S → Option (List ℕ)) (faults : S → ℕ) (desk now : Desk)
    (first : Option (List ℕ)) (old new : LinesState S) (out_first out_now : Option (List ℕ))
    (reads writes writes_now : ℕ) (fault : LineFault) (disk disk_now : DiskState)
    (disk_faults disk_faults_now : ℕ)
    → IsRunning desk now first (ahead left old) old.room old.ended out_first out_now disk disk_now
    → reads ≤ faults old.source → NextLine left faults old new (Err fault)
    → Runs desk now
    (record { left = first; read_faults = reads; taken = out_first; write_faults = writes })
    (record {
      left = left new.source;
      read_faults = faults new.source;
      taken = out_now;
      write_faults = writes_now;
    })
    disk disk_now disk_faults disk_faults_now (Err (end_of fault))
Runs-fault left faults desk now first old new out_first out_now reads writes writes_now ReadFault
    disk disk_now disk_faults disk_faults_now running later next =
    let t = given_read first (ahead left old) (left new.source) old.room old.ended running.lines
    running.given next.left next.not_ended in record {
      bytes = t.0;
      lines = running.lines;
      taken = t.1;
      within = t.2;
      whole = t.3;
      answered = answered_lines desk now first (ahead left old) _ old.room old.ended out_first
          out_now _ _ _ _ disk disk_now running;
      cause = Rose-later reads (faults old.source) (faults new.source) later next.cause;
    }
Runs-fault left faults desk now first old new out_first out_now reads writes writes_now InputFault
    disk disk_now disk_faults disk_faults_now running later next = record {
      lines = running.lines;
      beyond = given_beyond first (ahead left old) (left new.source) old.room old.ended
          running.lines running.given next;
      answered = answered_lines desk now first (ahead left old) _ old.room old.ended out_first
          out_now _ _ _ _ disk disk_now running;
    }
Runs-fault left faults desk now first old new out_first out_now reads writes writes_now
    MemoryFault disk disk_now disk_faults disk_faults_now running later next = record {
      lines = running.lines;
      answered = answered_lines desk now first (ahead left old) _ old.room old.ended out_first
          out_now _ _ _ _ disk disk_now running;
    }

-- a fault in answering a line ends the run
pub Runs-answer : (desk : Desk) (now next : DeskView)
    (first ahead_now ahead_next left_now : Option (List ℕ)) (room_now room_next : ℕ)
    (ended_now ended : Bool) (out_first out_now out_next : Option (List ℕ))
    (reads reads_now writes writes_now writes_next : ℕ) (line : Line) (end : RunEnd)
    (journal : JournalState) (disk disk_now disk_next : DiskState)
    (faults faults_now faults_next : ℕ)
    → IsRunning desk now.desk first ahead_now room_now ended_now out_first out_now disk disk_now
    → GivesLine ahead_now ahead_next room_now room_next ended line
    → writes ≤ writes_now → faults ≤ faults_now → now.stopped ≡ false
    → IsReady next journal disk_next
    → Answered now next line out_now out_next writes_now writes_next disk_now disk_next
    faults_now faults_next (Err end)
    → Runs desk next.desk
    (record { left = first; read_faults = reads; taken = out_first; write_faults = writes })
    (record {
      left = left_now;
      read_faults = reads_now;
      taken = out_next;
      write_faults = writes_next;
    })
    disk disk_next faults faults_next (Err end)
Runs-answer desk now next first ahead_now ahead_next left_now room_now room_next ended_now ended
    out_first out_now out_next reads reads_now writes writes_now writes_next line Memory journal
    disk disk_now disk_next faults faults_now faults_next running gives later
    disk_later going ready answered = record {
      lines = running.lines;
      answered = record {
        first = given_first first ahead_now room_now ended_now running.lines running.given;
        out = rw answered.0 running.out;
        laws = LawsHold-always desk running.lines;
        desk_is = ap (λ v. v.desk) answered.1 ∙ running.desk_is;
        commits = CommitsLines-same desk now.desk next.desk running.lines disk disk_now disk_next
            running.commits answered.2 (ready (ap (λ v. v.stopped) answered.1 ∙ going)).replays;
      };
    }
Runs-answer desk now next first ahead_now ahead_next left_now room_now room_next ended_now ended
    out_first out_now out_next reads reads_now writes writes_now writes_next line Disk journal
    disk disk_now disk_next faults faults_now faults_next running gives later
    disk_later going ready answered = record {
      lines = running.lines;
      line = line;
      first = given_first first ahead_next room_next ended _
          (given_more first ahead_now ahead_next room_now room_next ended_now ended _ line
          running.given gives.first);
      out = rw answered.0 running.out;
      laws = LawsHold-always desk running.lines;
      desk_is = answered.1 ∙ running.desk_is;
      grows = grows_cut_off desk now.desk running.lines line disk disk_now disk_next
          running.desk_is running.commits answered.2;
      replays = rw answered.1 answered.3;
      cause = Rose-later faults faults_now faults_next disk_later answered.4;
    }
Runs-answer desk now next first ahead_now ahead_next left_now room_now room_next ended_now ended
    out_first out_now out_next reads reads_now writes writes_now writes_next line Read journal
    disk disk_now disk_next faults faults_now faults_next running gives later
    disk_later going ready answered = absurd answered
Runs-answer desk now next first ahead_now ahead_next left_now room_now room_next ended_now ended
    out_first out_now out_next reads reads_now writes writes_now writes_next line Write journal
    disk disk_now disk_next faults faults_now faults_next running gives later
    disk_later going ready answered =
    let front = rw running.desk_is at answered.0 in record {
      lines = running.lines;
      line = line;
      first = given_first first ahead_next room_next ended _
          (given_more first ahead_now ahead_next room_now room_next ended_now ended _ line
          running.given gives.first);
      count = front.0;
      part = front.1;
      out = Appends-trans out_first out_now out_next _ _ running.out front.2;
      laws = LawsHold-always desk (running.lines ++ line ∷ []);
      desk_is = desk_is-more desk now.desk next.desk running.lines line running.desk_is
          answered.1.desk_is;
      commits = CommitsLines-more desk now.desk next.desk running.lines line disk disk_now disk_next
          running.desk_is running.commits answered.1.grows (ready answered.1.going).replays;
      cause = Rose-later writes writes_now writes_next later answered.2;
    }
Runs-answer desk now next first ahead_now ahead_next left_now room_now room_next ended_now ended
    out_first out_now out_next reads reads_now writes writes_now writes_next line InputTooLong
    journal
    disk disk_now disk_next faults faults_now faults_next running gives later
    disk_later going ready answered = absurd answered

-- the end of the input ends the run
pub Runs-end : {S : Type 0} (left : S → Option (List ℕ)) (desk now : Desk)
    (first : Option (List ℕ)) (old new : LinesState S) (out_first out_now : Option (List ℕ))
    (reads reads_now writes writes_now : ℕ) (disk disk_now : DiskState)
    → IsRunning desk now first (ahead left old) old.room old.ended out_first out_now disk disk_now
    → IsEnd left old new
    → AnswersAll desk now
    (record { left = first; read_faults = reads; taken = out_first; write_faults = writes })
    (record {
      left = left new.source;
      read_faults = reads_now;
      taken = out_now;
      write_faults = writes_now;
    })
    disk disk_now
Runs-end left desk now first old new out_first out_now reads reads_now writes writes_now disk
    disk_now running end = record {
      lines = running.lines;
      all = given_end first (ahead left old) old.room old.ended running.lines running.given
          end.before;
      at_end = IsAtEnd-left new.pending (left new.source) end.now;
      answered = answered_lines desk now first (ahead left old) _ old.room old.ended out_first
          out_now _ _ _ _ disk disk_now running;
    }
