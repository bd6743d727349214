-- Private: what a change sees of a state.
use Rattle.std.specs.Prelude.{◌≡◌, ℕ, Option, Some, None, option_and_then, List}
use Rattle.reg_base.specs.Documents.{document_at, holder_of}
use Rattle.desk_model.specs.State.{State}
use Rattle.desk_model.specs.Plans.{Sight}
use Rattle.desk_core.specs.declared.way.Way.{Way}
use Rattle.desk_core.specs.Ways.{new_number}

-- the number that a new document gets, and 0 where one is named
abbrev pub drawn_for : Way → State → Option ℕ → ℕ
drawn_for way state None = new_number way state
drawn_for way state (Some number) = 0

-- what a change sees of a state that names this document and gives this key
abbrev pub sight_at : Way → State → Option ℕ → Option (List ℕ) → Sight
sight_at way state doc key = record {
  before = option_and_then (λ n. document_at n state.documents) doc;
  holder = option_and_then (λ k. holder_of k state.documents) key;
  closed = state.closed;
  drawn = drawn_for way state doc;
}

-- a sight is that of some change
pub record IsSightOf (way : Way) (state : State) (sight : Sight) : Type 0 where
  pub doc : Option ℕ
  pub key : Option (List ℕ)
  pub same : sight ≡ sight_at way state doc key
