-- Private: the records of registers and those of ledgers, shown alike.
use Rattle.std.specs.Prelude.{ℕ, List, [], ◌∷◌, ◌++◌, map}
use Rattle.desk_words.specs.declared.request.SetText.{SetText}
use Rattle.desk_words.specs.declared.request.RecordText.{RecordText}
use Rattle.desk_model.specs.Shown.{shown_set}

-- the sets that have records, each under the name of its space, in the order of the spaces
abbrev pub shown_spaces : {S R : Type 0} → (S → List ℕ) → (S → R → RecordText) → List S →
    List (List R) → List SetText
shown_spaces name text [] sets = []
shown_spaces name text (space ∷ spaces) [] = []
shown_spaces name text (space ∷ spaces) (set ∷ sets) =
    shown_set (name space) (map (text space) set) ++ shown_spaces name text spaces sets
