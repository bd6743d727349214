-- The desk machine: one request in, one reply out, the desk after.
use Rattle.std.specs.Prelude.{ℕ, ◌+◌, nat_lt, if◌then◌else◌, List, [], ◌∷◌, length}
use Rattle.std.specs.Prelude.{Result, Ok, Err}
use Rattle.desk_words.specs.declared.request.Request.{Request}
use Rattle.desk_words.specs.declared.reply.Reply.{Reply}
use Rattle.desk_words.specs.declared.reply.Reply.TheVariants.{Done, Refused}
use Rattle.desk_words.specs.declared.reply.Answer.TheVariants.{Acknowledged}
use Rattle.desk_model.specs.State.{State, Desk, Command}
use Rattle.desk_model.specs.Plans.{Deed, Meaning, changes, closes, asks}
use Rattle.desk_model.specs.Meanings.{meaning_of}
use Rattle.desk_model.specs.Effects.{Effect, Tests}
use Rattle.desk_model.specs.LastRequests.{number_test}
use Rattle.desk_model.specs.Stops.{Stop, refuses, repeats}
use Rattle.desk_model.specs.Limits.{greatest_number, limits_of}
use Rattle.desk_model.specs.Journals.{commands_text, entry_limit, journal_with}
use Rattle.desk_model.specs.Serial.{effect_of, state_kept}

-- the number that is drawn next, and 0 where none is left
abbrev pub next_number : State → ℕ
next_number state = if nat_lt state.top greatest_number then state.top + 1 else 0

-- what a request means at a desk
abbrev pub meaning_at : Desk → Request → Meaning
meaning_at desk request = meaning_of desk.setting.config request

-- a request with the number that is drawn for its document: the next one where it draws, and else 0
abbrev pub command_at : Desk → Request → Command
command_at desk request = record {
  number = if (meaning_at desk request).draws then next_number desk.serial else 0;
  request = request;
}

-- how many bytes the entry of a request has
abbrev pub entry_length : Desk → Request → ℕ
entry_length desk request = length (commands_text (command_at desk request ∷ []))

-- what a desk asks besides the request itself: its number, its limits, and its journal's
abbrev pub tests_of : Desk → Meaning → Request → Tests
tests_of desk meaning request = record {
  number = number_test desk.serial.lasts meaning.clerk meaning.number request;
  limits = limits_of desk.serial;
  entry = entry_limit desk.journal (entry_length desk request);
}

-- the effect of a request at a desk, or why it goes no further
abbrev pub effect_at : Desk → Request → Result Effect Stop
effect_at desk request = effect_of (tests_of desk (meaning_at desk request) request) desk.setting
    desk.serial (command_at desk request)

-- what one request comes to: its reply, the desk after, and the commands that it commits
pub record Event : Type 0 where
  pub reply : Reply
  pub desk : Desk
  pub commits : List (List Command)

-- the commands that a deed commits: a change is an entry of its own
abbrev pub commits_of : Deed → Command → List (List Command)
commits_of (changes change) command = (command ∷ []) ∷ []
commits_of (closes date) command = (command ∷ []) ∷ []
commits_of (asks question) command = []

-- the reply where a request goes no further
abbrev pub reply_at : Stop → Reply
reply_at (refuses refusal) = Refused refusal
reply_at (repeats acknowledgement) = Done (Acknowledged acknowledgement)

-- an accepted request leaves its effect, is its clerk's last where it has a number, and makes the
-- journal longer by what it commits; any other one leaves the desk as it is
abbrev pub event_of : Desk → Meaning → Command → Result Effect Stop → Event
event_of desk meaning command (Ok effect) = record {
  reply = Done effect.answer;
  desk = record desk {
    serial = state_kept meaning command.request effect;
    journal = journal_with desk.journal (commits_of meaning.deed command);
  };
  commits = commits_of meaning.deed command;
}
event_of desk meaning command (Err stop) = record {
  reply = reply_at stop;
  desk = desk;
  commits = [];
}

-- one request
unfoldable pub step : Desk → Request → Event
step desk request = event_of desk (meaning_at desk request) (command_at desk request)
    (effect_at desk request)
