-- Private: how a request is run: as one that is made now, or as a command of the journal.
use Rattle.std.specs.Prelude.{ℕ, if◌then◌else◌, Option, Result, Ok}
use Rattle.reg_base.specs.Results.{◌>>=◌}
use Rattle.reg_base.specs.declared.records.Document.{Document}
use Rattle.desk_words.specs.declared.request.Request.{Request}
use Rattle.desk_words.specs.declared.reply.Refusal.{Refusal}
use Rattle.desk_model.specs.declared.plan.Plan.{Plan}
use Rattle.desk_model.specs.State.{State, Desk}
use Rattle.desk_model.specs.Plans.{Sight}
use Rattle.desk_model.specs.Stops.{Stop}
use Rattle.desk_model.specs.Effects.{Effect, Tests}
use Rattle.desk_model.specs.Limits.{limits_of}
use Rattle.desk_model.specs.Journals.{entry_limit}
use Rattle.desk_model.specs.Serial.{deed_effect}
use Rattle.desk_model.specs.Desk.{meaning_at, next_number}
use Rattle.desk_core.specs.declared.way.Way.{Way}
use Rattle.desk_core.specs.declared.way.Way.TheVariants.{Served, Replayed}

-- the limits that a plan is asked for: a desk has some, a replay has none
abbrev pub plan_limits : Way → Desk → Sight → Plan → Result (Option Document) Refusal
    → Result (Unit {0}) Refusal
plan_limits (Served entry) desk = limits_of desk.serial
plan_limits (Replayed number) desk = λ sight plan made. Ok tt

-- the limit of the journal
abbrev pub entry_test : Way → Desk → Result (Unit {0}) Refusal
entry_test (Served entry) desk = entry_limit desk.journal entry
entry_test (Replayed number) desk = Ok tt

-- all limits, that of the journal behind the others
abbrev pub limits_in : Way → Desk → Sight → Plan → Result (Option Document) Refusal
    → Result (Unit {0}) Refusal
limits_in way desk sight plan made =
    plan_limits way desk sight plan made >>= λ _. entry_test way desk

-- what is asked besides the request itself, whose number was asked before
abbrev pub tests_in : Way → Desk → Result (Unit {0}) Stop → Tests
tests_in way desk tested = record {
  number = tested;
  limits = plan_limits way desk;
  entry = entry_test way desk;
}

-- the number of a new document
abbrev pub new_number : Way → State → ℕ
new_number (Served entry) state = next_number state
new_number (Replayed number) state = number

-- the number under which a request is run: that of its new document, or 0
abbrev pub number_by : Way → Desk → Request → ℕ
number_by way desk request =
    if (meaning_at desk request).draws then new_number way desk.serial else 0

-- the effect of a request's deed
abbrev pub deed_in : Way → Result (Unit {0}) Stop → Desk → Request → Result Effect Refusal
deed_in way tested desk request = deed_effect (tests_in way desk tested) desk.setting desk.serial
    (number_by way desk request) (meaning_at desk request).deed
