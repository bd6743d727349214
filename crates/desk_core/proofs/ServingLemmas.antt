-- What serving a request leaves: the desk over a journal that replays to it.
use Rattle.std.proofs.Common.{◌≡◌, ℕ, zero, suc, true, false, Option, Some, None, IfSome, List, []}
use Rattle.std.proofs.Common.{◌∷◌, ◌++◌, take, Result, Ok, Err, refl, ap, ◌∙◌, sym, subst, arith}
use Rattle.std.proofs.Common.{inl, inr}
use Rattle.std.specs.Option.{ForSome, is_some, option_map}
use Rattle.std.proofs.lemmas.Bool.{false≢true}
use Rattle.std.proofs.lemmas.Option.{same_Some}
use Rattle.reg_io.specs.Disks.{DiskState}
use Rattle.post_journal.specs.Images.{entries_held, image_of}
use Rattle.std.specs.Prelude.{IsErr, IsErrAnd, OnErr, is_err}
use Rattle.reg_io.specs.Counts.{Rose}
use Rattle.post_journal.specs.Journals.{Grows, GrowsBy, HasSome, JournalState}
use Rattle.desk_words.specs.declared.request.Request.{Request}
use Rattle.desk_core.specs.declared.desk.StepEnd.{StepEnd}
use Rattle.desk_core.specs.declared.desk.StepEnd.TheVariants.{Memory, DiskFault, Closed}
use Rattle.desk_core.specs.declared.outcome.Entry.{Entry}
use Rattle.desk_core.specs.declared.outcome.Change.{Change}
use Rattle.desk_core.specs.declared.outcome.Change.TheVariants.{Put, Remove, Close}
use Rattle.desk_core.specs.DeskViews.{DeskView, MayChange, MayEnter, changed, desk_with}
use Rattle.desk_core.specs.Outcomes.{entry_texts}
use Rattle.desk_core.specs.Serving.{CommitEnds, ServeEnds}
use Rattle.desk_core.proofs.DocumentLists.{records-without}
use Rattle.post_journal.proofs.ForAbove.{all_of_some, none_more}
use Rattle.desk_model.specs.State.{Desk}
use Rattle.desk_model.specs.Desk.{Event}
use Rattle.desk_history.specs.Histories.{AreFew, EventReplays, event_entries}
use Rattle.desk_history.specs.Replays.{replayed}
use Rattle.desk_core.specs.Histories.{Holds, IsReady, ReplaysTo, ReplaysToEither, StandsFor}

-- entries that replay to a desk's state, with those of an event behind them
more-replays : (desk : Desk) (event : Event) (held now : Option (List (List ℕ))) →
    event.desk.setting ≡ desk.setting → EventReplays desk event →
    option_map (replayed desk.setting) held ≡ Some (Ok desk.serial) →
    now ≡ option_map (λ entries. entries ++ event_entries event) held →
    option_map (replayed event.desk.setting) now ≡ Some (Ok event.desk.serial)
more-replays desk event None now setting replays h is = absurd (cc)
more-replays desk event (Some entries) now setting replays h is =
    let so : replayed desk.setting entries ≡ Ok desk.serial = same_Some _ _ h in
    ap (option_map (replayed event.desk.setting)) is
    ∙ ap (λ s. Some (replayed s (entries ++ event_entries event))) setting
    ∙ ap Some (replays entries so)

-- the bytes of a disk that grew by what an event commits replay to its state
pub ReplaysTo-event : (desk : Desk) (event : Event) (disk now : DiskState) →
    event.desk.setting ≡ desk.setting → EventReplays desk event → ReplaysTo desk disk.content →
    Grows disk now (event_entries event) [] → ReplaysTo event.desk now.content
ReplaysTo-event desk event disk now setting replays holds grows =
    at disk.content now.content holds grows.told grows.shown
  where
    at : (before after : Option (List ℕ)) → ReplaysTo desk before →
        is_some after ≡ is_some before →
        IfSome after (HasSome before (event_entries event) []) → ReplaysTo event.desk after
    at before None h told shown = tt
    at None (Some bytes) h told shown = absurd (false≢true (sym told))
    at (Some old) (Some bytes) h told shown =
        more-replays desk event (entries_held (image_of old)) (entries_held (image_of bytes))
        setting replays h (all_of_some (Some old) (event_entries event) bytes shown)

-- the bytes of a disk on which what an event commits was cut off replay to the state before it, or
-- to its own
pub ReplaysTo-failed : (desk : Desk) (event : Event) (entry : Option Entry) (disk now : DiskState) →
    event.desk.setting ≡ desk.setting → EventReplays desk event → ReplaysTo desk disk.content →
    event_entries event ≡ entry_texts entry → Grows disk now [] (entry_texts entry) →
    ReplaysToEither desk event.desk now.content
ReplaysTo-failed desk event entry disk now setting replays holds entries grows =
    at disk.content now.content holds grows.told grows.shown
  where
    -- of one entry or none, none or all is there
    some : (held : Option (List (List ℕ))) (bytes : List ℕ) (entry : Option Entry) (n : ℕ) →
        option_map (replayed desk.setting) held ≡ Some (Ok desk.serial) →
        event_entries event ≡ entry_texts entry →
        entries_held (image_of bytes)
        ≡ option_map (λ entries. entries ++ take n (entry_texts entry)) held →
        ReplaysToEither desk event.desk (Some bytes)
    some held bytes None zero h entries is =
        inl (ap (option_map (replayed desk.setting)) (is ∙ sym (none_more held)) ∙ h)
    some held bytes None (suc n) h entries is =
        inl (ap (option_map (replayed desk.setting)) (is ∙ sym (none_more held)) ∙ h)
    some held bytes (Some e) zero h entries is =
        inl (ap (option_map (replayed desk.setting)) (is ∙ sym (none_more held)) ∙ h)
    some held bytes (Some e) (suc zero) h entries is =
        inr (more-replays desk event held (entries_held (image_of bytes)) setting replays h
        (is ∙ ap (λ es. option_map (λ entries. entries ++ es) held) (sym entries)))
    some held bytes (Some e) (suc (suc n)) h entries is =
        inr (more-replays desk event held (entries_held (image_of bytes)) setting replays h
        (is ∙ ap (λ es. option_map (λ entries. entries ++ es) held) (sym entries)))

    at : (before after : Option (List ℕ)) → ReplaysTo desk before →
        is_some after ≡ is_some before →
        IfSome after (HasSome before [] (entry_texts entry)) →
        ReplaysToEither desk event.desk after
    at before None h told shown = inl tt
    at None (Some bytes) h told shown = absurd (false≢true (sym told))
    at (Some old) (Some bytes) h told shown =
        some (entries_held (image_of old)) bytes entry shown.0 h entries shown.2

-- a desk over its journal, behind an event
pub Holds-event : (desk : Desk) (event : Event) (journal : JournalState) (disk now : DiskState) →
    event.desk.setting ≡ desk.setting → EventReplays desk event → ReplaysTo desk disk.content →
    StandsFor event.desk journal now → Grows disk now (event_entries event) [] →
    Holds event.desk journal now
Holds-event desk event journal disk now setting replays holds stands grows = record {
  stands = stands;
  replays = ReplaysTo-event desk event disk now setting replays holds grows;
}

-- ---- an append

pub failed-to-grow : {E : Type 0} (old now : DiskState) (payload : List ℕ)
    (result : Result (Unit {0}) E) → is_err result ≡ true → GrowsBy old now payload result →
    Grows old now [] (payload ∷ [])
failed-to-grow old now payload (Ok u) err grows = absurd (false≢true err)
failed-to-grow old now payload (Err fault) err grows = grows

pub has_risen : {E : Type 0} (before now : ℕ) (result : Result (Unit {0}) E) →
    is_err result ≡ true → OnErr result (Rose before now) → Rose before now
has_risen before now (Ok u) err rose = absurd (false≢true err)
has_risen before now (Err fault) err rose = rose

-- ---- how serving ends

-- the desk is ready for the next request, or stopped
pub ready-done : (event : Event) (request : Request) (entry : Option Entry) (old new : DeskView)
    (journal_now : JournalState) (disk disk_now : DiskState) (faults faults_now : ℕ) →
    event.desk ≡ desk_with old.desk request entry → event_entries event ≡ entry_texts entry →
    event.desk.setting ≡ old.desk.setting → EventReplays old.desk event →
    ReplaysTo old.desk disk.content →
    CommitEnds request entry old new journal_now disk disk_now faults faults_now (Ok tt) →
    IsReady new journal_now disk_now
ready-done event request entry old new journal_now disk disk_now faults faults_now desk_is entries
    setting replays holds commits = λ going.
    let here : event.desk ≡ new.desk = desk_is ∙ sym (ap (λ (v : DeskView). v.desk) commits.0) in
    subst (λ (d : Desk). Holds d journal_now disk_now) here
    (Holds-event old.desk event journal_now disk disk_now setting replays holds
    (subst (λ (d : Desk). StandsFor d journal_now disk_now) (sym desk_is) commits.1)
    (subst (λ (es : List (List ℕ)). Grows disk disk_now es []) (sym entries) commits.2))

-- an answer that is a fault, and that one
pub is_fault : {T E : Type 0} (result : Result T E) (fault : E)
    → IsErr result × IsErrAnd result (λ e. e ≡ fault) → result ≡ Err fault
is_fault (Ok value) fault told = absurd told.1
is_fault (Err e) fault told = ap Err told.1

-- what an entry's commit comes to where it fails is what its event comes to
pub serve-failed : (event : Event) (request : Request) (entry : Option Entry) (old new : DeskView)
    (journal_now : JournalState) (disk disk_now : DiskState) (faults faults_now : ℕ)
    (end : StepEnd) → old.stopped ≡ false → event_entries event ≡ entry_texts entry →
    event.desk.setting ≡ old.desk.setting → EventReplays old.desk event →
    ReplaysTo old.desk disk.content →
    CommitEnds request entry old new journal_now disk disk_now faults faults_now (Err end) →
    ServeEnds event old new disk disk_now faults faults_now (Err end)
serve-failed event request entry old new journal_now disk disk_now faults faults_now Memory going
    entries setting replays holds commits = commits.0
serve-failed event request entry old new journal_now disk disk_now faults faults_now DiskFault going
    entries setting replays holds commits = record {
      going = going;
      new_is = commits.0;
      grows = subst (λ (es : List (List ℕ)). Grows disk disk_now [] es) (sym entries) commits.1;
      replays = ReplaysTo-failed old.desk event entry disk disk_now setting replays holds entries
          commits.1;
      cause = commits.2;
    }
serve-failed event request entry old new journal_now disk disk_now faults faults_now Closed going
    entries setting replays holds commits = absurd commits

-- ---- few records

-- what a desk may enter leaves no more records than a replay takes
pub few-entered : (desk : Desk) (request : Request) (entry : Option Entry) → AreFew desk.serial →
    ForSome entry (MayEnter desk) → AreFew (desk_with desk request entry).serial
few-entered desk request None few may = few
few-entered desk request (Some entry) few may = at entry.change (may entry refl).may
  where
    at : (change : Change) → MayChange desk change → AreFew (changed desk change).serial
    at (Put document) fits = fits.within
    at (Remove number) u =
        let less = records-without number desk.serial.documents in omega (arith, less, few)
    at (Close date) u = few
