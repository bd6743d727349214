-- What lines commit to the journal, and that it replays to the desk that they leave.
use Rattle.std.specs.Prelude.{◌≡◌, ℕ, ◌≤◌, if◌then◌else◌, IfOk, List, [], ◌∷◌, ◌++◌, map, Ok}
use Rattle.reg_base.specs.declared.line.Line.{Line}
use Rattle.desk_words.specs.declared.request.Request.{Request}
use Rattle.desk_words.specs.Reading.{request}
use Rattle.desk_words.specs.WellFormed.{IsRequest}
use Rattle.desk_model.specs.State.{State, Desk}
use Rattle.desk_model.specs.Limits.{records_in}
use Rattle.desk_model.specs.Desk.{Event, step}
use Rattle.desk_model.specs.Answers.{is_blank_line, line_event, line_desk}
use Rattle.desk_model.specs.Laws.{AreNumbered}
use Rattle.desk_model.specs.Journals.{commands_text}
use Rattle.desk_history.specs.Replays.{most_replayed_records, replayed}

-- the entries that an event commits
abbrev pub event_entries : Event → List (List ℕ)
event_entries event = map commands_text event.commits

-- the entries that a line commits: none or one
unfoldable pub line_entries : Desk → Line → List (List ℕ)
line_entries desk line = if is_blank_line line then [] else event_entries (line_event desk line)

-- the entries that lines commit, one after another
abbrev pub entries_to : Desk → List Line → List (List ℕ)
entries_to desk [] = []
entries_to desk (line ∷ lines) = line_entries desk line ++ entries_to (line_desk desk line) lines

-- the documents of a state have no more records than a replayed one
abbrev pub AreFew : State → Type 0
AreFew state = records_in state.documents ≤ most_replayed_records

-- entries that replay to a desk's state, with those of an event behind them, replay to the state
-- that the event leaves
abbrev pub EventReplays : Desk → Event → Type 0
EventReplays desk event = (entries : List (List ℕ))
    → replayed desk.setting entries ≡ Ok desk.serial
    → replayed desk.setting (entries ++ event_entries event) ≡ Ok event.desk.serial

-- so it is for what a request comes to
abbrev pub StepReplays : Desk → Request → Type 0
StepReplays desk request = IsRequest request → AreNumbered desk.serial
    → AreFew (step desk request).desk.serial → EventReplays desk (step desk request)

-- and for what a line comes to
abbrev pub LineReplays : Desk → Line → Type 0
LineReplays desk line = IfOk (request line) IsRequest → AreNumbered desk.serial
    → AreFew (line_desk desk line).serial → (entries : List (List ℕ))
    → replayed desk.setting entries ≡ Ok desk.serial
    → replayed desk.setting (entries ++ line_entries desk line) ≡ Ok (line_desk desk line).serial
