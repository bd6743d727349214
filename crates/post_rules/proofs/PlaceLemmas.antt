-- A list in the place of another.
use Rattle.std.proofs.Common.{◌≡◌, ℕ, List, set}
use Rattle.std.proofs.lemmas.List.{set-set}

-- of two lists put at one place the second one stays
pub set_twice : {X : Type 0} (xs : List X) (i : ℕ) (a b : X) → set (set xs i a) i b ≡ set xs i b
set_twice = set-set
