-- The state that entries of the journal replay to.
use Rattle.std.specs.Prelude.{ℕ, ◌+◌, Bool, true, false, nat_le, nat_lt, if◌then◌else◌, Option}
use Rattle.std.specs.Prelude.{Some, None, option_and_then, List, [], ◌∷◌, Result, Ok}
use Rattle.std.specs.Result.{result_ok}
use Rattle.reg_base.specs.Results.{◌>>=◌, some_or}
use Rattle.desk_model.specs.declared.last.Last.{Last}
use Rattle.desk_model.specs.State.{Setting, State, Command, first_state}
use Rattle.desk_model.specs.Meanings.{meaning_of}
use Rattle.desk_model.specs.LastRequests.{last_of}
use Rattle.desk_model.specs.Limits.{records_in}
use Rattle.desk_model.specs.Serial.{serial, state_kept}
use Rattle.desk_history.specs.Entries.{command_of}

-- how many records and entries the documents of a replayed state have at the most
abbrev pub most_replayed_records : ℕ
most_replayed_records = 8_000_000

-- whether a number is above that of a clerk's last request
abbrev pub is_above : Option Last → ℕ → Bool
is_above None number = true
is_above (Some last) number = nat_lt last.number number

-- whether what a request means is the next change of its clerk: a question has no number
abbrev pub is_next : List Last → List ℕ → Option ℕ → Bool
is_next lasts clerk None = false
is_next lasts clerk (Some number) = is_above (last_of clerk lasts) number

-- a state, where it has not too many records
abbrev pub if_few : State → Option State
if_few state =
    if nat_le (records_in state.documents) most_replayed_records then Some state else None

-- the state that a command leaves, where the serial machine accepts it as the next change of its
-- clerk
unfoldable pub replay_command : Setting → State → Command → Option State
replay_command setting state command =
    let meaning = meaning_of setting.config command.request in
    if is_next state.lasts meaning.clerk meaning.number
    then option_and_then (λ effect. if_few (state_kept meaning command.request effect))
    (result_ok (serial setting state command))
    else None

-- the state that an entry leaves: it is the line of one command
unfoldable pub replay_entry : Setting → State → List ℕ → Option State
replay_entry setting state text =
    option_and_then (replay_command setting state) (command_of text)

-- the state after entries, or the index of the first that does not replay
abbrev pub replay_from : Setting → State → ℕ → List (List ℕ) → Result State ℕ
replay_from setting state index [] = Ok state
replay_from setting state index (text ∷ texts) =
    some_or (replay_entry setting state text) index
    >>= λ next. replay_from setting next (index + 1) texts

-- the state that all entries replay to, or the index, from 1, of the first that does not replay
abbrev pub replayed : Setting → List (List ℕ) → Result State ℕ
replayed setting texts = replay_from setting first_state 1 texts
