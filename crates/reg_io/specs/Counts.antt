-- Counts of faults, and what a call of one side leaves on the other.
use Rattle.std.specs.Prelude.{◌≡◌, ℕ, ◌+◌, ◌-◌, ◌^◌, ◌<◌, ◌≤◌, min, List, length, take, OnErr}
use Rattle.std.specs.Prelude.{Option, Result}
use Rattle.std.specs.Io.KnownBytes.{Appends}

-- the count rose by one at least, or stands at its type's end
abbrev pub Rose : ℕ → ℕ → Type 0
Rose before now = min (before + 1) (2 ^ 64 - 1) ≤ now

-- the count of faults did not fall, and where the call failed it rose
pub record HasCause {T E : Type 0} (before now : ℕ) (result : Result T E) : Type 0 where
  pub later : before ≤ now
  pub failed : OnErr result (Rose before now)

-- the other side of the same object tells the same bytes, and its count did not fall
pub record LeavesSide (bytes_before bytes_now : Option (List ℕ)) (before now : ℕ) : Type 0 where
  pub same : bytes_now ≡ bytes_before
  pub later : before ≤ now

-- known bytes grow by the first of these bytes, but not by all
abbrev pub AppendsPrefix : Option (List ℕ) → Option (List ℕ) → List ℕ → Type 0
AppendsPrefix old new bytes = (n : ℕ) × (n < length bytes) × Appends old new (take n bytes)
