-- The entries of a journal as texts, and how long it may grow.
use Rattle.std.specs.Prelude.{ℕ, ◌+◌, List, [], ◌∷◌, ◌++◌, length, Result}
use Rattle.std.specs.List.{flat_map}
use Rattle.reg_base.specs.Numbers.{number_text}
use Rattle.reg_base.specs.Results.{◌>>=◌}
use Rattle.desk_words.specs.RequestTexts.{request_text}
use Rattle.desk_words.specs.declared.reply.Refusal.{Refusal}
use Rattle.desk_words.specs.declared.reply.Limit.TheVariants.{Journal}
use Rattle.desk_model.specs.State.{Command}
use Rattle.desk_model.specs.Limits.{within_limit}

-- the line of a command: the number that was drawn for its document, or 0, a space, and the
-- canonical text of its request
abbrev pub command_text : Command → List ℕ
command_text c = number_text c.number ++ 32 ∷ (request_text c.request ++ 10 ∷ [])

-- the text of an entry: the lines of its commands
abbrev pub commands_text : List Command → List ℕ
commands_text commands = flat_map command_text commands

-- how many bytes an entry has at the most
abbrev pub most_entry : ℕ
most_entry = 16_777_216

-- how many bytes a journal has at the most
abbrev pub most_journal : ℕ
most_journal = 1_073_741_824

-- how long a journal is with one more entry of so many bytes, which five others go with
abbrev pub longer : ℕ → ℕ → ℕ
longer journal count = journal + (5 + count)

-- how long it is with more entries
abbrev pub journal_with : ℕ → List (List Command) → ℕ
journal_with journal [] = journal
journal_with journal (commands ∷ more) =
    journal_with (longer journal (length (commands_text commands))) more

-- an entry of so many bytes may be, and may be put behind a journal of this length
unfoldable pub entry_limit : ℕ → ℕ → Result (Unit {0}) Refusal
entry_limit journal count = do
  _ ← within_limit Journal count most_entry
  within_limit Journal (longer journal count) most_journal
