-- Worked rows of commands that are replayed, computed.
use Rattle.std.proofs.Common.{◌≡◌, ℕ, Option, Some, None, option_and_then, List, []}
use Rattle.std.proofs.Common.{◌∷◌, refl, codes}
use Rattle.reg_base.specs.declared.right.Right.TheVariants.{Admin, Manual as ManualRight, Read}
use Rattle.reg_base.specs.Rights.{right_word}
use Rattle.desk_words.specs.declared.request.Request.{Request}
use Rattle.desk_words.specs.declared.request.Request.TheVariants.{Balance, Close, Manual}
use Rattle.desk_model.specs.State.{Setting, State, Command, first_state}
use Rattle.desk_model.specs.Manuals.{given_sets, plan_manual}
use Rattle.desk_model.specs.Serial.{work_effect, plan_effect, change_effect, effect_of, serial}
use Rattle.desk_history.specs.Replays.{replay_command}

-- a configuration without registers, and one clerk, who may do all that is asked here
abbrev office : Setting
office = record {
  config = record {
    registers = [];
    ledgers = [];
    kinds = [];
    sequences = [];
    clerks = record {
      name = codes "anna";
      rights = ManualRight ∷ Read ∷ Admin ∷ [];
    } ∷ [];
  };
  rules = record { kinds = [] };
}

-- 2024-01-10T09:00:00
abbrev morning : ℕ
morning = 758_192_400

-- the books are closed before the morning
abbrev closing : ℕ → Request
closing nr = Close (record { clerk = codes "anna"; no = nr; date = morning })

-- a document without records, in the morning
abbrev empty_document : ℕ → Request
empty_document nr = Manual (record {
  clerk = codes "anna";
  no = nr;
  doc = None;
  key = None;
  date = morning;
  sets = [];
  comment = None;
  tx = None;
})

-- commands, one after another
abbrev replay : State → List Command → Option State
replay state [] = Some state
replay state (c ∷ cs) = option_and_then (λ s. replay s cs) (replay_command office state c)

-- a command of a number that was drawn, or 0
abbrev of_number : ℕ → Request → Command
of_number number request = record { number = number; request = request }

-- the date to which the books are closed, and the greatest number
abbrev closed_and_top : Option State → List ℕ
closed_and_top None = []
closed_and_top (Some s) = s.closed ∷ s.top ∷ []

-- books are closed, and a document is made under the number that was drawn for it, which need not
-- be the next one
closed_then_made : closed_and_top (replay first_state
    (of_number 0 (closing 1) ∷ of_number 7 (empty_document 2) ∷ []))
    ≡ morning ∷ 7 ∷ []
unfolding replay_command serial effect_of change_effect plan_effect work_effect
    right_word plan_manual given_sets
closed_then_made = refl

-- a number below the greatest one is drawn later, where it is free
drawn_before : closed_and_top (replay first_state
    (of_number 7 (empty_document 1) ∷ of_number 3 (empty_document 2) ∷ []))
    ≡ 0 ∷ 7 ∷ []
unfolding replay_command serial effect_of change_effect plan_effect work_effect
    right_word plan_manual given_sets
drawn_before = refl

-- a number that a document has is not drawn again, and 0 makes none
taken_number : replay first_state (of_number 7 (empty_document 1) ∷ of_number 7 (empty_document 2)
    ∷ []) ≡ None
unfolding replay_command serial effect_of change_effect plan_effect work_effect
    right_word plan_manual given_sets
taken_number = refl

zero_drawn : replay first_state (of_number 0 (empty_document 1) ∷ []) ≡ None
unfolding replay_command serial
zero_drawn = refl

-- what makes no document has no number
number_for_nothing : replay first_state (of_number 1 (closing 1) ∷ []) ≡ None
unfolding replay_command serial
number_for_nothing = refl

-- a request number that does not rise
number_again : replay first_state (of_number 0 (closing 2) ∷ of_number 0 (closing 2) ∷ []) ≡ None
unfolding replay_command serial effect_of right_word
number_again = refl

-- a question is no entry
question_refused : replay first_state (of_number 0 (Balance (record {
  clerk = codes "anna";
  register = record { name = codes "goods"; filter = None; group = None };
  cut = None;
  tx = None;
})) ∷ []) ≡ None
unfolding replay_command
question_refused = refl
