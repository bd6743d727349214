-- Private: how large numbers are.
use Rattle.std.specs.Prelude.{ℕ, ◌+◌, ℤ, pos, negsuc, List, [], ◌∷◌}

-- how far a number is from 0
abbrev pub size_of : ℤ → ℕ
size_of (pos n) = n
size_of (negsuc n) = n + 1

-- how large the values of a map are, all together
abbrev pub total_size : {K V : Type 0} → (V → ℕ) → List (K × V) → ℕ
total_size size [] = 0
total_size size (e ∷ es) = size e.1 + total_size size es
