-- The groups so far: at first, with one more, and at each end.
use Rattle.std.proofs.Common.{◌≡◌, ℕ, ◌+◌, ◌<◌, ◌≤◌, ◌^◌, true, false, List, [], ◌∷◌, ◌++◌, length}
use Rattle.std.proofs.Common.{length-append, append_assoc, append-nil}
use Rattle.std.proofs.Common.{ap, ◌∙◌, sym, subst, arith}
use Rattle.std.specs.Prelude.{Err}
use Rattle.reg_io.specs.Disks.{DiskState}
use Rattle.post_journal.specs.Journals.{Grows, JournalState}
use Rattle.post_journal.proofs.ForAbove.{grows_more, grows_none}
use Rattle.desk_model.specs.State.{Desk}
use Rattle.desk_core.specs.DeskViews.{DeskView}
use Rattle.desk_core.specs.Histories.{Fails, Holds, IsReady, Makes}
use Rattle.desk_core.specs.declared.desk.StepEnd.{StepEnd}
use Rattle.desk_core.specs.declared.desk.StepEnd.TheVariants.{Memory, DiskFault, Closed}
use Rattle.csv_groups.specs.declared.group.Group.{Group}
use Rattle.csv_import.specs.Imports.{posting_of, desk_behind, group_line, group_lines}
use Rattle.csv_import.specs.Imports.{group_entries, outcomes, import_text}
use Rattle.csv_import.specs.ImportEnds.{BreaksOff, ImportEnds, PostsAll, PostsFirst}
use Rattle.csv_import.specs.Posting.{AreCounts, ArePosted, GroupEnds, counted, counts_text}
use Rattle.csv_import.specs.declared.counts.Counts.{Counts}
use Rattle.csv_import.specs.declared.outcome.Outcome.{Outcome}
use Rattle.csv_import.proofs.CountLemmas.{AreCounts-more, AreCounts-sum, counts_text-are}
use Rattle.csv_import.proofs.GroupLemmas.{desk_behind-more, group_lines-more, group_entries-more}
use Rattle.csv_import.proofs.GroupLemmas.{outcomes-more, length-outcomes}

-- at first no group was posted
pub ArePosted-none : (desk : DeskView) (groups left : List Group) (out : List ℕ)
    (counts : Counts) (journal : JournalState) (disk : DiskState)
    → left ≡ groups → desk.stopped ≡ false → Holds desk.desk journal disk → AreCounts counts []
    → ArePosted desk desk groups left out out counts disk disk
ArePosted-none desk groups left out counts journal disk all going holds are = record {
  going = going;
  first = [];
  split = sym all;
  text = sym (append-nil out);
  counts_are = are;
  now_is = λ i. record { desk = desk.desk; stopped = going i };
  grows = grows_none disk holds.stands.stands.sure;
}

-- the lines so far with that of one more
text_more : (desk now : Desk) (first : List Group) (group : Group) (out out_now out_next : List ℕ)
    → now ≡ desk_behind desk first → out_now ≡ out ++ group_lines desk first
    → out_next ≡ out_now ++ group_line now group
    → out_next ≡ out ++ group_lines desk (first ++ group ∷ [])
text_more desk now first group out out_now out_next now_is so line =
    line ∙ ap (λ t. t ++ group_line now group) so
    ∙ append_assoc out (group_lines desk first) (group_line now group)
    ∙ ap (λ d. out ++ (group_lines desk first ++ group_line d group)) now_is
    ∙ ap (λ l. out ++ l) (sym (group_lines-more desk first group))

-- the counts so far with one more
counts_more : (desk now : Desk) (first : List Group) (group : Group) (counts : Counts)
    (outcome : Outcome) → now ≡ desk_behind desk first
    → AreCounts counts (outcomes desk first) → outcome ≡ (posting_of now group).outcome
    → AreCounts (counted counts outcome) (outcomes desk (first ++ group ∷ []))
counts_more desk now first group counts outcome now_is are outcome_is =
    subst (AreCounts (counted counts outcome))
    (ap (λ o. outcomes desk first ++ o ∷ [])
    (outcome_is ∙ ap (λ d. (posting_of d group).outcome) now_is)
    ∙ sym (outcomes-more desk first group))
    (AreCounts-more counts (outcomes desk first) outcome are)

-- one more group was posted, and its line is written
pub ArePosted-more : (old now next : DeskView) (groups left : List Group) (group : Group)
    (out out_now out_next : List ℕ) (counts : Counts) (outcome : Outcome)
    (disk disk_now disk_next : DiskState)
    → ArePosted old now groups (group ∷ left) out out_now counts disk disk_now
    → out_next ≡ out_now ++ group_line now.desk group
    → outcome ≡ (posting_of now.desk group).outcome
    → Makes (posting_of now.desk group).entries (posting_of now.desk group).desk now next
    disk_now disk_next
    → ArePosted old next groups left out out_next (counted counts outcome) disk disk_next
ArePosted-more old now next groups left group out out_now out_next counts outcome disk disk_now
    disk_next so line outcome_is made =
    let desk_is = ap (λ v. v.desk) so.now_is in record {
      going = so.going;
      first = so.first ++ group ∷ [];
      split = so.split ∙ sym (append_assoc so.first (group ∷ []) left);
      text = text_more old.desk now.desk so.first group out out_now out_next desk_is so.text line;
      counts_are = counts_more old.desk now.desk so.first group counts outcome desk_is
          so.counts_are outcome_is;
      now_is = made.new_is ∙ ap (λ d. record { desk = d; stopped = false })
          (ap (λ d. (posting_of d group).desk) desk_is
          ∙ sym (desk_behind-more old.desk so.first group));
      grows = rw (group_entries-more old.desk so.first group)
          (grows_more disk disk_now disk_next (group_entries old.desk so.first)
          (posting_of (desk_behind old.desk so.first) group).entries [] so.grows
          (rw desk_is at made.grows));
    }

-- with one more, all counts have room
pub counts_fit : (old now : DeskView) (groups left : List Group) (group : Group)
    (out out_now : List ℕ) (counts : Counts) (disk disk_now : DiskState)
    → ArePosted old now groups (group ∷ left) out out_now counts disk disk_now
    → length groups < 2 ^ 32
    → counts.posted + counts.there + counts.refused < 4294967295
counts_fit old now groups left group out out_now counts disk disk_now so few = omega (
  arith,
  AreCounts-sum counts (outcomes old.desk so.first) so.counts_are,
  length-outcomes old.desk so.first,
  ap length so.split,
  length-append so.first (group ∷ left),
  few,
)

-- nothing was appended behind the groups so far
ArePosted-same : (old now next : DeskView) (groups left : List Group)
    (out out_now out_next : List ℕ) (counts : Counts) (disk disk_now disk_next : DiskState)
    → ArePosted old now groups left out out_now counts disk disk_now
    → out_next ≡ out_now → next ≡ now → Grows disk_now disk_next [] []
    → ArePosted old next groups left out out_next counts disk disk_next
ArePosted-same old now next groups left out out_now out_next counts disk disk_now disk_next so same
    next_is grows = record {
      going = so.going;
      first = so.first;
      split = so.split;
      text = same ∙ so.text;
      counts_are = so.counts_are;
      now_is = next_is ∙ so.now_is;
      grows = rw (append-nil (group_entries old.desk so.first)) at
          (grows_more disk disk_now disk_next (group_entries old.desk so.first) [] [] so.grows
          grows);
    }

-- memory was refused behind the groups so far
pub PostsFirst-so : (old now : DeskView) (groups left : List Group) (out out_now : List ℕ)
    (counts : Counts) (journal : JournalState) (disk disk_now : DiskState)
    → ArePosted old now groups left out out_now counts disk disk_now
    → IsReady now journal disk_now → PostsFirst old now groups out out_now disk disk_now
PostsFirst-so old now groups left out out_now counts journal disk disk_now so ready = record {
  going = so.going;
  first = so.first;
  rest = left;
  split = so.split;
  text = so.text;
  new_is = so.now_is;
  grows = so.grows;
  replays = (ready (ap (λ v. v.stopped) so.now_is)).replays;
}

-- the disk failed behind the groups so far
BreaksOff-so : (old now next : DeskView) (groups left : List Group) (group : Group)
    (out out_now : List ℕ) (counts : Counts) (disk disk_now disk_next : DiskState)
    (faults faults_now faults_next : ℕ)
    → ArePosted old now groups (group ∷ left) out out_now counts disk disk_now
    → faults ≤ faults_now
    → Fails (posting_of now.desk group).entries (posting_of now.desk group).desk now next
    disk_now disk_next faults_now faults_next
    → BreaksOff old next groups out out_now disk disk_next faults faults_next
BreaksOff-so old now next groups left group out out_now counts disk disk_now disk_next faults
    faults_now faults_next so later failed =
    let desk_is = ap (λ v. v.desk) so.now_is in record {
      going = so.going;
      first = so.first;
      group = group;
      rest = left;
      split = so.split;
      text = so.text;
      new_is = failed.new_is ∙ ap (λ d. record { desk = d; stopped = true }) desk_is;
      grows = rw (append-nil (group_entries old.desk so.first)) at
          (grows_more disk disk_now disk_next (group_entries old.desk so.first) []
          (posting_of (desk_behind old.desk so.first) group).entries so.grows
          (rw desk_is at failed.grows));
      replays = rw (ap (λ v. v.desk) failed.new_is) failed.replays;
      cause = omega (arith, later, failed.cause);
    }

-- a group that was not posted ends all
pub ImportEnds-at : (old now next : DeskView) (groups left : List Group) (group : Group)
    (out out_now out_next : List ℕ) (counts : Counts) (journal : JournalState)
    (disk disk_now disk_next : DiskState) (faults faults_now faults_next : ℕ) (end : StepEnd)
    → ArePosted old now groups (group ∷ left) out out_now counts disk disk_now
    → out_next ≡ out_now → faults ≤ faults_now → IsReady next journal disk_next
    → GroupEnds (posting_of now.desk group) now next disk_now disk_next faults_now faults_next
    (Err end)
    → ImportEnds old next groups out out_next disk disk_next faults faults_next (Err end)
ImportEnds-at old now next groups left group out out_now out_next counts journal disk disk_now
    disk_next faults faults_now faults_next Memory so same later ready ends =
    PostsFirst-so old next groups (group ∷ left) out out_next counts journal disk disk_next
    (ArePosted-same old now next groups (group ∷ left) out out_now out_next counts disk disk_now
    disk_next so same ends.0 ends.1) ready
ImportEnds-at old now next groups left group out out_now out_next counts journal disk disk_now
    disk_next faults faults_now faults_next DiskFault so same later ready ends =
    BreaksOff-so old now next groups left group out out_next counts disk disk_now disk_next faults
    faults_now faults_next (rw same so) later ends
ImportEnds-at old now next groups left group out out_now out_next counts journal disk disk_now
    disk_next faults faults_now faults_next Closed so same later ready ends = absurd ends

-- all groups were posted, and the last line is written
pub PostsAll-so : (old now : DeskView) (groups : List Group) (out out_now out_next : List ℕ)
    (counts : Counts) (journal : JournalState) (disk disk_now : DiskState)
    → ArePosted old now groups [] out out_now counts disk disk_now
    → out_next ≡ out_now ++ counts_text counts
    → IsReady now journal disk_now → PostsAll old now groups out out_next disk disk_now
PostsAll-so old now groups out out_now out_next counts journal disk disk_now so last ready =
    let all : so.first ≡ groups = sym (append-nil so.first) ∙ sym so.split in record {
      going = so.going;
      text = last ∙ ap (λ t. t ++ counts_text counts) so.text
          ∙ append_assoc out (group_lines old.desk so.first) (counts_text counts)
          ∙ ap (λ l. out ++ (group_lines old.desk so.first ++ l))
          (counts_text-are counts (outcomes old.desk so.first) so.counts_are)
          ∙ ap (λ gs. out ++ import_text old.desk gs) all;
      new_is = so.now_is
          ∙ ap (λ gs. record { desk = desk_behind old.desk gs; stopped = false }) all;
      grows = subst (λ gs. Grows disk disk_now (group_entries old.desk gs) []) all so.grows;
      replays = (ready (ap (λ v. v.stopped) so.now_is)).replays;
    }
