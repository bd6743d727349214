-- What a disk shows, what its calls do to its bytes, and what a crash may leave of them.
use Rattle.std.specs.Prelude.{◌≡◌, ◌⊎◌, ℕ, ◌+◌, ◌≤◌, max, min, List, ◌++◌, length, take, drop}
use Rattle.std.specs.Prelude.{Option, None, Some, IfSome}

-- a disk at one moment: what a read gives, where it is told; how many syncs have succeeded; and the
-- bytes that a crash might have left when so many or more had
pub record DiskState : Type 1 where
  pub content : Option (List ℕ)
  pub syncs : ℕ
  pub left_since : ℕ → List ℕ → Type 0

-- a disk that tells nothing
abbrev pub untold : DiskState
untold = record { content = None; syncs = 0; left_since = λ k image. ⊥ }

-- a crash may leave these bytes now
abbrev pub MayLeave : DiskState → List ℕ → Type 0
MayLeave disk image = disk.left_since disk.syncs image

-- no moment has more syncs before it than now
abbrev pub NoneIsLater : DiskState → Type 0
NoneIsLater disk = (k : ℕ) (image : List ℕ) → disk.left_since k image → k ≤ disk.syncs

-- a crash leaves what a read gives
abbrev pub IsSure : DiskState → Type 0
IsSure disk = (image : List ℕ) → MayLeave disk image → disk.content ≡ Some image

-- what a crash at any moment might have left is what it might have left before, or has P
abbrev pub LeavesOnly : DiskState → DiskState → (List ℕ → Type 0) → Type 0
LeavesOnly old new P =
    (k : ℕ) (image : List ℕ) → new.left_since k image → old.left_since k image ⊎ P image

-- bytes that a crash might have left before, after a step
abbrev pub After : (List ℕ → List ℕ → Type 0) → DiskState → List ℕ → Type 0
After step disk new = (old : List ℕ) × MayLeave disk old × step old new

-- no byte changed, and a crash leaves nothing new
pub record Stays (old new : DiskState) : Type 0 where
  pub content : new.content ≡ old.content
  pub syncs : new.syncs ≡ old.syncs
  pub leaves : (k : ℕ) (image : List ℕ) → new.left_since k image → old.left_since k image

-- the place is not behind the end, where the bytes are told
abbrev pub LiesWithin : ℕ → DiskState → Type 0
LiesWithin place disk = IfSome disk.content (λ bytes. place ≤ length bytes)

-- the bytes with these at a place, over what is there and behind the end
abbrev pub put_at : {A : Type 0} → ℕ → List A → List A → List A
put_at place bytes file = take place file ++ (bytes ++ drop (place + length bytes) file)

-- a write of so many bytes at a place that a crash may cut short: any bytes in its range and behind
-- the old end, the same elsewhere
pub record Torn (place count : ℕ) (old new : List ℕ) : Type 0 where
  pub before : take place new ≡ take place old
  pub behind : drop (place + count) new ≡ drop (place + count) old
  pub no_shorter : length old ≤ length new
  pub no_longer : length new ≤ max (length old) (place + count)

-- a cut that a crash may leave undone: a front, no shorter than what was to stay
pub record CutBack (len : ℕ) (old new : List ℕ) : Type 0 where
  pub front : take (length new) old ≡ new
  pub no_shorter : min len (length old) ≤ length new
