-- The desk that an input meets, and what is written for the bytes of one.
use Rattle.std.specs.Prelude.{◌≡◌, ℕ, List, Option, Some, IfSome, Ok, Err, option_map}
use Rattle.reg_io.specs.Lines.{lines_of}
use Rattle.post_journal.specs.Images.{entries_held, image_of}
use Rattle.desk_model.specs.State.{Setting, State, Desk}
use Rattle.desk_model.specs.Answers.{answers_to}
use Rattle.desk_history.specs.Replays.{replayed}
use Rattle.desk_core.specs.Histories.{opened_desk}

-- a file has these entries, where its bytes are told
abbrev pub HasEntries : Option (List ℕ) → List (List ℕ) → Type 0
HasEntries content entries = IfSome content (λ bytes. entries_held (image_of bytes) ≡ Some entries)

-- the entries of a file open this desk under a configuration with its rules; of a file that is not
-- told they are some entries
pub record OpensAt (setting : Setting) (content : Option (List ℕ)) (desk : Desk) : Type 0 where
  pub entries : List (List ℕ)
  pub stand : HasEntries content entries
  pub opened : opened_desk setting entries ≡ Ok desk

-- the entries that a file holds replay, where its bytes are told
abbrev pub ReplaysUnder : Setting → Option (List ℕ) → Type 0
ReplaysUnder setting content = IfSome content (λ bytes. (state : State)
    × (option_map (replayed setting) (entries_held (image_of bytes)) ≡ Some (Ok state)))

-- the first entry of a file that can't be replayed has this index, from 1
pub record StopsAtEntry (setting : Setting) (content : Option (List ℕ)) (index : ℕ)
    : Type 0 where
  pub entries : List (List ℕ)
  pub stand : HasEntries content entries
  pub refused : opened_desk setting entries ≡ Err index

-- what is written for the bytes of an input
abbrev pub answers : Desk → List ℕ → List ℕ
answers desk bytes = answers_to desk (lines_of bytes)
