-- What replaying entries comes to, one after another.
use Rattle.std.proofs.Common.{◌≡◌, ℕ, ◌+◌, ◌*◌, ◌≤◌, ◌<◌, ◌^◌, ◌&&◌, Bool, true, false, cond}
use Rattle.std.proofs.Common.{nat_le}
use Rattle.std.proofs.Common.{Option, Some, None, List, [], ◌∷◌, length, Result, Ok, Err, IfOk}
use Rattle.std.proofs.Common.{refl, ap, ◌∙◌, sym, subst, arith}
use Rattle.std.specs.Prelude.{option_and_then}
use Rattle.std.specs.Result.{result_ok}
use Rattle.std.proofs.lemmas.Bool.{false≢true}
use Rattle.std.proofs.Common.{add-one, drop, get_or, suc}
use Rattle.std.proofs.Math.Seq.{drop-cons}
use Rattle.std.proofs.lemmas.Bool.Decides.{nat_tests}
use Rattle.reg_base.specs.Results.{◌>>=◌, some_or, unless}
use Rattle.reg_base.specs.declared.records.Document.{Document}
use Rattle.post_journal.specs.Images.{journal_length}
use Rattle.post_journal.specs.Openings.{payloads}
use Rattle.post_journal.specs.declared.journal.Payload.{Payload}
use Rattle.desk_words.specs.declared.reply.Answer.TheVariants.{Acknowledged}
use Rattle.desk_model.specs.Journals.{longer}
use Rattle.desk_words.specs.declared.request.Request.{Request}
use Rattle.desk_words.specs.declared.reply.Acknowledgement.{Acknowledgement}
use Rattle.desk_words.specs.declared.reply.Refusal.{Refusal}
use Rattle.desk_words.specs.declared.reply.Refusal.TheVariants.{UnknownClerk, NotAllowed}
use Rattle.desk_words.specs.declared.reply.Reply.{Reply}
use Rattle.desk_model.specs.declared.last.Last.{Last}
use Rattle.desk_model.specs.State.{Setting, State, Desk, Command, first_desk}
use Rattle.desk_model.specs.Plans.{Deed, Meaning, changes, closes, asks}
use Rattle.desk_model.specs.LastRequests.{lasts_with}
use Rattle.desk_model.specs.Limits.{records_in}
use Rattle.desk_model.specs.Effects.{Effect, no_tests}
use Rattle.desk_model.specs.Stops.{Stop, or_stop, refuses}
use Rattle.desk_model.specs.Serial.{bad_number, deed_effect, effect_of, is_drawn}
use Rattle.desk_model.specs.Serial.{or_fault, serial, state_kept}
use Rattle.desk_model.specs.Clerks.{is_allowed, is_clerk}
use Rattle.desk_model.specs.Desk.{commits_of, meaning_at}
use Rattle.desk_model.proofs.ForAbove.{HasNumber, meaning-HasNumber}
use Rattle.desk_history.specs.Replays.{if_few, is_next, most_replayed_records, replay_command}
use Rattle.desk_history.specs.Entries.{command_of}
use Rattle.desk_history.specs.Replays.{replay_entry, replay_from}
use Rattle.desk_core.specs.declared.outcome.Change.{Change}
use Rattle.desk_core.specs.declared.outcome.Outcome.TheVariants.{Replies, Changes}
use Rattle.desk_core.specs.declared.way.Way.TheVariants.{Replayed}
use Rattle.desk_core.specs.declared.changes.Left.{Left}
use Rattle.desk_core.specs.Changes.{IsLeft, documents_changed}
use Rattle.desk_core.specs.DeskViews.{DeskView, IsShortChange, changed, with_request}
use Rattle.desk_core.specs.Histories.{opened_desk}
use Rattle.desk_core.specs.Outcomes.{Comes, IsReplied}
use Rattle.desk_core.specs.Replaying.{IsReplaying, ReplaysCommand, ReplaysText, TakesOver}
use Rattle.desk_core.specs.Replaying.{is_next_at, replay_tests}
use Rattle.desk_core.specs.Ways.{deed_in}
use Rattle.desk_core.proofs.KeptLemmas.{changed-count, changed-documents, kept-state, view_of}
use Rattle.desk_core.proofs.RequestLemmas.{answered-commits}

-- ---- how long a journal is

-- each entry has five bytes at the least
long-entries : (texts : List (List ℕ)) → 23 + 5 * length texts ≤ journal_length texts
long-entries [] = omega arith
long-entries (text ∷ texts) = let rest = long-entries texts in omega (arith, rest)

-- ---- one entry after another

pub replaying-first : (setting : Setting) (all : List (List ℕ)) →
    IsReplaying setting all all 0 (record { desk = first_desk setting; stopped = false })
replaying-first setting all = record {
  setting_is = refl;
  going = refl;
  goes_on = refl;
  long = omega arith;
  count = omega arith;
  few = omega arith;
}

module _ (setting : Setting) (all : List (List ℕ)) where
  pub replaying-next : (text : List ℕ) (rest : List (List ℕ)) (index : ℕ) (old new : DeskView) →
      IsReplaying setting all (text ∷ rest) index old → ReplaysText text old new true →
      IsReplaying setting all rest (index + 1) new
  replaying-next text rest index old new so replays =
      let state = replays.0 in
      let advances = replays.2 in
      let one : replay_entry setting old.desk.serial text ≡ Some state =
      subst (λ (s : Setting). replay_entry s old.desk.serial text ≡ Some state) so.setting_is
      replays.1 in
      record {
        setting_is = advances.setting ∙ so.setting_is;
        going = advances.stopped ∙ so.going;
        goes_on =
            ap (λ (s : State). replay_from setting s (index + 1 + 1) rest) advances.serial
            ∙ ap (λ (o : Option State). some_or o (index + 1)
            >>= λ next. replay_from setting next (index + 1 + 1) rest) (sym one) ∙ so.goes_on;
        long = omega (arith, so.long, advances.journal);
        count = omega (arith, so.count);
        few = omega (arith, so.few, advances.few);
      }

  pub replaying-stop : (text : List ℕ) (rest : List (List ℕ)) (index : ℕ) (old new : DeskView) →
      IsReplaying setting all (text ∷ rest) index old → ReplaysText text old new false →
      opened_desk setting all ≡ Err (index + 1)
  replaying-stop text rest index old new so none =
      let one : replay_entry setting old.desk.serial text ≡ None =
      subst (λ (s : Setting). replay_entry s old.desk.serial text ≡ None) so.setting_is none in
      ap (λ (r : Result State ℕ). r >>= λ state. Ok (record {
        setting = setting;
        serial = state;
        journal = journal_length all;
      })) (sym so.goes_on ∙ ap (λ (o : Option State). some_or o (index + 1)
      >>= λ next. replay_from setting next (index + 1 + 1) rest) one)

  pub replaying-end : (index : ℕ) (view : DeskView) → IsReplaying setting all [] index view →
      opened_desk setting all ≡ Ok view.desk
  replaying-end index view so =
      let long : journal_length all ≡ view.desk.journal = omega (arith, so.long) in
      ap (λ (r : Result State ℕ). r >>= λ state. Ok (record {
        setting = setting;
        serial = state;
        journal = journal_length all;
      })) (sym so.goes_on)
      ∙ (λ i. Ok (record {
        setting = sym so.setting_is i;
        serial = view.desk.serial;
        journal = long i;
      }))

  -- what may be asked of the next entry
  pub replaying-bounds : (text : List ℕ) (rest : List (List ℕ)) (index : ℕ) (view : DeskView) →
      journal_length all ≤ 2_147_483_648 → IsReplaying setting all (text ∷ rest) index view →
      (length view.desk.serial.documents + 1 < 2 ^ 32)
      × (view.desk.journal + (5 + length text) ≤ 2_147_483_648)
      × (index + 1 < 2 ^ 32)
  replaying-bounds text rest index view low so =
      let entries = long-entries all in
      let others = long-entries rest in (
        omega (arith, low, so.few, entries),
        omega (arith, low, so.long, others),
        omega (arith, low, so.count, entries),
      )

-- ---- a command

module _ (desk : Desk) (number : ℕ) (request : Request) where
  abbrev meaning : Meaning
  meaning = meaning_at desk request

  abbrev command : Command
  command = record { number = number; request = request }

  abbrev kept : Effect → Option State
  kept effect = if_few (state_kept meaning request effect)

  -- a replay by what its tests say, and the deed
  abbrev replay_by : Bool → Bool → Bool → Bool → Result Effect Refusal → Option State
  replay_by next drawn known allowed done = cond next (option_and_then kept (result_ok
      (unless drawn bad_number >>= λ _. or_fault (unless known (refuses UnknownClerk) >>= λ _.
      unless allowed (refuses (NotAllowed meaning.right)) >>= λ _. or_stop done)))) None

  refused-by : (next drawn known allowed : Bool) (done : Result Effect Refusal) →
      (next && drawn && known && allowed) ≡ false →
      replay_by next drawn known allowed done ≡ None
  refused-by true true true true done h = absurd (false≢true (sym h))
  refused-by true true true false done h = refl
  refused-by true true false allowed done h = refl
  refused-by true false known allowed done h = refl
  refused-by false drawn known allowed done h = refl

  passed-by : (next drawn known allowed : Bool) (done : Result Effect Refusal) →
      (next && drawn && known && allowed) ≡ true →
      (replay_by next drawn known allowed done
      ≡ option_and_then kept (result_ok (or_fault (or_stop done))))
      × (next ≡ true) × (drawn ≡ true)
  passed-by true true true true done h = (refl, refl, refl)
  passed-by true true true false done h = absurd (false≢true h)
  passed-by true true false allowed done h = absurd (false≢true h)
  passed-by true false known allowed done h = absurd (false≢true h)
  passed-by false drawn known allowed done h = absurd (false≢true h)

  abbrev done : Result Effect Refusal
  done = deed_effect no_tests desk.setting desk.serial number meaning.deed

  -- a command that its tests refuse is not replayed
  pub replay-refused : replay_tests desk number request ≡ false →
      replay_command desk.setting desk.serial command ≡ None
  unfolding replay_command serial effect_of
  replay-refused h = refused-by (is_next_at desk request)
      (is_drawn desk.serial meaning.draws number) (is_clerk desk.setting.config meaning.clerk)
      (is_allowed desk.setting.config meaning.clerk meaning.right) done h

  abbrev Passes : Type 0
  Passes = (replay_command desk.setting desk.serial command
      ≡ option_and_then kept (result_ok (or_fault (or_stop done))))
      × (is_next_at desk request ≡ true) × (is_drawn desk.serial meaning.draws number ≡ true)

  replay-passed : replay_tests desk number request ≡ true → Passes
  unfolding replay_command serial effect_of
  replay-passed h = passed-by (is_next_at desk request)
      (is_drawn desk.serial meaning.draws number) (is_clerk desk.setting.config meaning.clerk)
      (is_allowed desk.setting.config meaning.clerk meaning.right) done h

  -- a number that can be drawn is the one that the way gives
  drawn-is : (draws : Bool) → is_drawn desk.serial draws number ≡ true →
      cond draws number 0 ≡ number
  drawn-is true h = refl
  drawn-is false h = grind (arith, nat_tests, h)

  -- so the deed is that of the way
  deed-is : is_drawn desk.serial meaning.draws number ≡ true →
      deed_in (Replayed number) (Ok tt) desk request ≡ done
  deed-is h = ap (λ n. deed_effect no_tests desk.setting desk.serial n meaning.deed)
      (drawn-is meaning.draws h)

  -- the next change of its clerk is no question
  is_next-changes : (lasts : List Last) (clerk : List ℕ) (no_ : Option ℕ) (deed : Deed) →
      HasNumber no_ deed → is_next lasts clerk no_ ≡ true →
      commits_of deed command ≡ [] → ⊥
  is_next-changes lasts clerk no_ (changes change) has next none = cc
  is_next-changes lasts clerk no_ (closes date) has next none = cc
  is_next-changes lasts clerk None (asks question) has next none = false≢true next
  is_next-changes lasts clerk (Some n) (asks question) has next none = cc

  -- a command that comes to a reply is not replayed
  pub replay-replied : (reply : Reply) → replay_tests desk number request ≡ true →
      Comes (Replayed number) desk (or_stop (deed_in (Replayed number) (Ok tt) desk request))
      (Replies reply) → replay_command desk.setting desk.serial command ≡ None
  replay-replied reply passed comes =
      let so = replay-passed passed in
      so.0 ∙ at done refl (subst (λ (d : Result Effect Refusal). IsReplied desk (or_stop d) reply)
      (deed-is so.2) comes) so.1
    where
      at : (d : Result Effect Refusal) → done ≡ d → IsReplied desk (or_stop d) reply →
          is_next_at desk request ≡ true →
          option_and_then kept (result_ok (or_fault (or_stop d))) ≡ None
      at (Err refusal) is h next = refl
      at (Ok effect) is answers next =
          absurd (is_next-changes desk.serial.lasts meaning.clerk meaning.number meaning.deed
          (meaning-HasNumber desk.setting.config request) next
          (answered-commits no_tests desk.setting desk.serial number meaning.deed effect is
          answers.answer command))

  -- what a change leaves is what the command does
  replay-is : (change : Change) (acknowledgement : Acknowledgement) →
      replay_tests desk number request ≡ true →
      Comes (Replayed number) desk (or_stop (deed_in (Replayed number) (Ok tt) desk request))
      (Changes change acknowledgement) →
      replay_command desk.setting desk.serial command
      ≡ if_few (with_request (changed desk change) meaning request acknowledgement).serial
  replay-is change acknowledgement passed comes =
      let so = replay-passed passed in
      so.0 ∙ at done (subst (λ (d : Result Effect Refusal). Comes (Replayed number) desk (or_stop d)
      (Changes change acknowledgement)) (deed-is so.2) comes)
    where
      at : (d : Result Effect Refusal) →
          Comes (Replayed number) desk (or_stop d) (Changes change acknowledgement) →
          option_and_then kept (result_ok (or_fault (or_stop d)))
          ≡ if_few (with_request (changed desk change) meaning request acknowledgement).serial
      at (Err refusal) nothing = absurd nothing
      at (Ok effect) leaves =
          let state : effect.state ≡ (changed desk change).serial =
          ap (λ (d : Desk). d.serial) leaves.state_is in
          λ i. if_few (record (state i) {
            lasts = lasts_with meaning.clerk meaning.number request (leaves.answer_is i)
                (state i).lasts;
          })

  few-is : (state : State) (within : Bool) →
      nat_le (records_in state.documents) most_replayed_records ≡ within →
      if_few state ≡ cond within (Some state) None
  few-is state within is = ap (λ b. cond b (Some state) None) is

  -- a command that comes to a change is replayed where not too many records are left
  pub replay-changed : (change : Change) (acknowledgement : Acknowledgement) (entry : ℕ)
      (stopped : Bool) (new : DeskView) (result : Bool) →
      replay_tests desk number request ≡ true →
      Comes (Replayed number) desk (or_stop (deed_in (Replayed number) (Ok tt) desk request))
      (Changes change acknowledgement) →
      TakesOver change acknowledgement request entry (record { desk = desk; stopped = stopped })
      new result →
      ReplaysCommand command entry (record { desk = desk; stopped = stopped }) new result
  replay-changed change acknowledgement entry stopped new true passed comes takes =
      let state : State =
      (with_request (changed desk change) meaning request acknowledgement).serial in
      let within : nat_le (records_in state.documents) most_replayed_records ≡ true =
      grind (arith, nat_tests, takes.0) in (
        state,
        replay-is change acknowledgement passed comes ∙ few-is state true within,
        takes.1,
      )
  replay-changed change acknowledgement entry stopped new false passed comes takes =
      let state : State =
      (with_request (changed desk change) meaning request acknowledgement).serial in
      let beyond : nat_le (records_in state.documents) most_replayed_records ≡ false =
      grind (arith, nat_tests, takes) in
      replay-is change acknowledgement passed comes ∙ few-is state false beyond

-- ---- a text

-- a text that is no entry is not replayed
pub text-none : (text : List ℕ) (old : DeskView) → None ≡ command_of text →
    replay_entry old.desk.setting old.desk.serial text ≡ None
unfolding replay_entry
text-none text old none = ap (option_and_then (replay_command old.desk.setting old.desk.serial))
    (sym none)

-- one that is the entry of a command is replayed as that is
pub text-command : {F : Type 0} (text : List ℕ) (c : Command) (old new : DeskView)
    (result : Result Bool F) → Some c ≡ command_of text →
    IfOk result (ReplaysCommand c (length text) old new) → IfOk result (ReplaysText text old new)
unfolding replay_entry
text-command text c old new (Err fault) is replays = tt
text-command text c old new (Ok true) is replays = (
  replays.0,
  ap (option_and_then (replay_command old.desk.setting old.desk.serial)) (sym is) ∙ replays.1,
  replays.2,
)
text-command text c old new (Ok false) is replays =
    ap (option_and_then (replay_command old.desk.setting old.desk.serial)) (sym is) ∙ replays

-- ---- a change that is made

pub takes-over : (desk : Desk) (stopped : Bool) (setting : Setting) (change : Change)
    (acknowledgement : Acknowledgement) (request : Request) (entry : ℕ) (left : Left)
    (documents : List Document) (lasts : List Last) (journal : ℕ) (now_stopped : Bool) →
    setting ≡ desk.setting → documents ≡ documents_changed change desk.serial.documents →
    IsLeft desk change left →
    lasts ≡ lasts_with (meaning_at desk request).clerk (meaning_at desk request).number request
    (Acknowledged acknowledgement) desk.serial.lasts → journal ≡ longer desk.journal entry →
    now_stopped ≡ stopped → left.records ≤ 8_000_000 →
    TakesOver change acknowledgement request entry (record { desk = desk; stopped = stopped })
    (view_of setting documents left.top left.closed lasts journal now_stopped) true
takes-over desk stopped setting change acknowledgement request entry left documents lasts journal
    now_stopped s d is_left l j st within =
    let few = changed-count desk change in
    let counted : records_in (changed desk change).serial.documents ≡ left.records =
    ap records_in (changed-documents desk change) ∙ sym is_left.records in (
      omega (arith, counted, within),
      record {
        setting = s;
        serial = kept-state desk request change acknowledgement documents left lasts d is_left l;
        journal = j;
        stopped = st;
        few = subst (λ (ds : List Document). length ds ≤ length desk.serial.documents + 1) (sym d)
            few;
      },
    )

-- a change that a replayed command comes to has short lists
pub comes-short : (desk : Desk) (number : ℕ) (tried : Result Effect Stop) (change : Change)
    (acknowledgement : Acknowledgement) →
    Comes (Replayed number) desk tried (Changes change acknowledgement) → IsShortChange change
comes-short desk number (Ok effect) change acknowledgement leaves = leaves.may
comes-short desk number (Err stop) change acknowledgement nothing = absurd nothing

-- what the change of a command comes to is what replaying it comes to
pub replay-made : {F : Type 0} (desk : Desk) (number : ℕ) (request : Request) (change : Change)
    (acknowledgement : Acknowledgement) (entry : ℕ) (stopped : Bool) (new : DeskView)
    (result : Result Bool F) → replay_tests desk number request ≡ true →
    Comes (Replayed number) desk (or_stop (deed_in (Replayed number) (Ok tt) desk request))
    (Changes change acknowledgement) →
    IfOk result (TakesOver change acknowledgement request entry
    (record { desk = desk; stopped = stopped }) new) →
    IfOk result (ReplaysCommand (record { number = number; request = request }) entry
    (record { desk = desk; stopped = stopped }) new)
replay-made desk number request change acknowledgement entry stopped new (Err fault) passed comes
    takes = tt
replay-made desk number request change acknowledgement entry stopped new (Ok done) passed comes
    takes = replay-changed desk number request change acknowledgement entry stopped new done passed
    comes takes

-- ---- the entries that are left

pub entry-ahead : (entries : List Payload) (i : ℕ) (item : Payload) → i < length entries →
    item ≡ get_or entries i item →
    payloads (drop i entries) ≡ item.bytes ∷ payloads (drop (i + 1) entries)
entry-ahead entries i item below is =
    let here : drop i entries ≡ item ∷ drop (i + 1) entries =
    rw add-one (drop-cons entries i item below ∙ ap (λ y. y ∷ drop (suc i) entries) (sym is)) in
    ap payloads here
