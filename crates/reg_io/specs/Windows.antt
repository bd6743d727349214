-- Private: what one read puts behind the bytes of a window.
use Rattle.std.specs.Prelude.{◌≡◌, ℕ, ◌≤◌, List, ◌++◌, length, Option, Result, Ok, Err}
use Rattle.std.specs.Io.KnownBytes.{Consumes, Keeps, IsAtEnd}

-- so many bytes, which the source had left, came behind those here; none only at its end
pub record FillsBy (left left_now : Option (List ℕ)) (here here_now : List ℕ)
    (most count : ℕ) : Type 0 where
  pub got : List ℕ
  pub grows : here_now ≡ here ++ got
  pub len : length got ≡ count
  pub within : count ≤ most
  pub taken : Consumes left left_now got
  pub at_end : count ≡ 0 → IsAtEnd left_now

-- a read fills the window, or fails and moves nothing
abbrev pub Fills : {E : Type 0} → Option (List ℕ) → Option (List ℕ) → List ℕ → List ℕ → ℕ
    → Result ℕ E → Type 0
Fills left left_now here here_now most (Ok count) = FillsBy left left_now here here_now most count
Fills left left_now here here_now most (Err e) = (here_now ≡ here) × Keeps left left_now
