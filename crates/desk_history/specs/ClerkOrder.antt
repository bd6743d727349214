-- The order of each clerk's requests over the entries of a journal.
use Rattle.std.specs.Prelude.{◌≡◌, ℕ, ◌<◌, Some, List, ◌∷◌, ◌++◌}
use Rattle.desk_model.specs.State.{Setting, Command}
use Rattle.desk_model.specs.Meanings.{meaning_of}
use Rattle.desk_history.specs.Entries.{command_of}

-- the request of an entry is one of this clerk, under this number
pub record IsNumbered (setting : Setting) (entry clerk : List ℕ) (number : ℕ) : Type 0 where
  pub command : Command
  pub spelt : command_of entry ≡ Some command
  pub clerk_is : (meaning_of setting.config command.request).clerk ≡ clerk
  pub number_is : (meaning_of setting.config command.request).number ≡ Some number

-- of two entries whose requests are one clerk's, the later one has the greater number; so no
-- request is in two entries
abbrev pub EntriesRise : Setting → List (List ℕ) → Type 0
EntriesRise setting entries =
    (before between after : List (List ℕ)) (entry later clerk : List ℕ) (number greater : ℕ)
    → entries ≡ before ++ entry ∷ between ++ later ∷ after
    → IsNumbered setting entry clerk number
    → IsNumbered setting later clerk greater
    → number < greater
