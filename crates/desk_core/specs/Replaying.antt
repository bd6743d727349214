-- Private: what replaying an entry comes to.
use Rattle.std.specs.Prelude.{◌≡◌, ℕ, ◌+◌, ◌<◌, ◌≤◌, Bool, true, false, ◌&&◌, Some, None, List}
use Rattle.std.specs.Prelude.{length}
use Rattle.desk_words.specs.declared.request.Request.{Request}
use Rattle.desk_words.specs.declared.reply.Acknowledgement.{Acknowledgement}
use Rattle.post_journal.specs.Images.{journal_length}
use Rattle.desk_model.specs.State.{Desk, Setting, State, Command, first_journal}
use Rattle.desk_model.specs.Desk.{meaning_at}
use Rattle.desk_model.specs.Journals.{longer}
use Rattle.desk_model.specs.Limits.{records_in}
use Rattle.desk_model.specs.Serial.{is_drawn}
use Rattle.desk_model.specs.Clerks.{is_allowed, is_clerk}
use Rattle.desk_history.specs.Replays.{is_next, most_replayed_records, replay_command, replay_entry}
use Rattle.desk_history.specs.Replays.{replay_from, replayed}
use Rattle.desk_core.specs.declared.outcome.Change.{Change}
use Rattle.desk_core.specs.DeskViews.{DeskView, changed, with_request}

-- whether a request is the next change of its clerk
abbrev pub is_next_at : Desk → Request → Bool
is_next_at desk request = is_next desk.serial.lasts (meaning_at desk request).clerk
    (meaning_at desk request).number

-- whether a command is the next change of a clerk who may make it, under a number that can be drawn
abbrev pub replay_tests : Desk → ℕ → Request → Bool
replay_tests desk number request = is_next_at desk request
    && is_drawn desk.serial (meaning_at desk request).draws number
    && is_clerk desk.setting.config (meaning_at desk request).clerk
    && is_allowed desk.setting.config (meaning_at desk request).clerk
    (meaning_at desk request).right

-- one entry of so many bytes was replayed: the state is this one, and no more than one document
-- came
pub record Advances (entry : ℕ) (state : State) (old new : DeskView) : Type 0 where
  pub setting : new.desk.setting ≡ old.desk.setting
  pub serial : new.desk.serial ≡ state
  pub journal : new.desk.journal ≡ longer old.desk.journal entry
  pub stopped : new.stopped ≡ old.stopped
  pub few : length new.desk.serial.documents ≤ length old.desk.serial.documents + 1

-- the text of an entry was replayed, or it can't be
abbrev pub ReplaysText : List ℕ → DeskView → DeskView → Bool → Type 0
ReplaysText text old new true = (state : State)
    × (replay_entry old.desk.setting old.desk.serial text ≡ Some state)
    × Advances (length text) state old new
ReplaysText text old new false = replay_entry old.desk.setting old.desk.serial text ≡ None

-- so a command, whose entry has so many bytes
abbrev pub ReplaysCommand : Command → ℕ → DeskView → DeskView → Bool → Type 0
ReplaysCommand command entry old new true = (state : State)
    × (replay_command old.desk.setting old.desk.serial command ≡ Some state)
    × Advances entry state old new
ReplaysCommand command entry old new false =
    replay_command old.desk.setting old.desk.serial command ≡ None

-- a change was made that leaves no more records than a replayed state has, or was not made
abbrev pub TakesOver : Change → Acknowledgement → Request → ℕ → DeskView → DeskView → Bool → Type 0
TakesOver change acknowledgement request entry old new true =
    (records_in (changed old.desk change).serial.documents ≤ most_replayed_records)
    × Advances entry
    (with_request (changed old.desk change) (meaning_at old.desk request) request
    acknowledgement).serial old new
TakesOver change acknowledgement request entry old new false =
    most_replayed_records < records_in (changed old.desk change).serial.documents

-- the entries of a list were replayed up to these, which are left: the desk goes on as a replay of
-- all does
pub record IsReplaying (setting : Setting) (all rest : List (List ℕ)) (index : ℕ) (view : DeskView)
    : Type 0 where
  pub setting_is : view.desk.setting ≡ setting
  pub going : view.stopped ≡ false
  pub goes_on : replay_from setting view.desk.serial (index + 1) rest ≡ replayed setting all
  pub long : view.desk.journal + journal_length rest ≡ first_journal + journal_length all
  pub count : index + length rest ≡ length all
  pub few : length view.desk.serial.documents + length rest ≤ length all
