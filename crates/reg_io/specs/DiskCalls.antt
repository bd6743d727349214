-- What a crash may leave of a disk in memory, by the record of its calls.
use Rattle.std.specs.Prelude.{◌≡◌, ◌⊎◌, ℕ, zero, suc, ◌==◌, ◌&&◌, ◌≤◌, min, Bool, true, false}
use Rattle.std.specs.Prelude.{List, [], ◌∷◌, length, map, take, Option, None, Some}
use Rattle.reg_io.specs.Disks.{DiskState, put_at}
use Rattle.reg_io.specs.declared.disk_call.DiskCall.{DiskCall}
use Rattle.reg_io.specs.declared.disk_call.DiskCall.TheVariants.{
  Wrote,
  FailedWrite,
  Cut,
  FailedCut,
  Synced,
}

-- between two syncs that succeeded: what the first of them confirmed, what a read gives, what is
-- sure of each byte that the file may have, and the least length that it may have
pub record Stage : Type 0 where
  pub confirmed : List ℕ
  pub content : List ℕ
  pub bytes : List (Option ℕ)
  pub least : ℕ

-- the byte is the one that is sure, or none is
abbrev pub is_suited : Option ℕ → ℕ → Bool
is_suited None byte = true
is_suited (Some sure) byte = byte == sure

-- the bytes are a front of those that may be there
abbrev pub all_suit : List (Option ℕ) → List ℕ → Bool
all_suit sure [] = true
all_suit [] (b ∷ image) = false
all_suit (s ∷ sure) (b ∷ image) = is_suited s b && all_suit sure image

-- a crash in this stage may leave these bytes
pub record IsImage (stage : Stage) (image : List ℕ) : Type 0 where
  pub long : stage.least ≤ length image
  pub fitting : all_suit stage.bytes image ≡ true

-- all is sure
abbrev pub sure_of : List ℕ → Stage
sure_of content = record {
  confirmed = content;
  content = content;
  bytes = map Some content;
  least = length content;
}

-- nothing is sure of so many bytes at a place
abbrev pub loosened : ℕ → ℕ → List (Option ℕ) → List (Option ℕ)
loosened zero zero sure = sure
loosened zero (suc count) [] = None ∷ loosened zero count []
loosened zero (suc count) (s ∷ sure) = None ∷ loosened zero count sure
loosened (suc place) count [] = []
loosened (suc place) count (s ∷ sure) = s ∷ loosened place count sure

-- nothing is sure of what a write was to put there
abbrev pub loosened_stage : ℕ → ℕ → List ℕ → Stage → Stage
loosened_stage place count content stage = record {
  confirmed = stage.confirmed;
  content = content;
  bytes = loosened (min place (length stage.content)) count stage.bytes;
  least = stage.least;
}

-- the stage that is now, and those before it, the latest first
pub record History : Type 0 where
  pub now : Stage
  pub before : List Stage

-- a call in its stage; a sync begins a new one
abbrev pub after_call : DiskCall → History → History
after_call (Wrote place bytes) h = record {
  now = loosened_stage place (length bytes)
      (put_at (min place (length h.now.content)) bytes h.now.content) h.now;
  before = h.before;
}
after_call (FailedWrite place count) h = record {
  now = loosened_stage place count h.now.content h.now;
  before = h.before;
}
after_call (Cut len) h = record {
  now = record {
    confirmed = h.now.confirmed;
    content = take len h.now.content;
    bytes = h.now.bytes;
    least = min len h.now.least;
  };
  before = h.before;
}
after_call (FailedCut len) h = record {
  now = record {
    confirmed = h.now.confirmed;
    content = h.now.content;
    bytes = h.now.bytes;
    least = min len h.now.least;
  };
  before = h.before;
}
after_call Synced h = record { now = sure_of h.now.content; before = h.now ∷ h.before }

-- these calls, one after another
abbrev pub after_calls : List DiskCall → History → History
after_calls [] h = h
after_calls (call ∷ calls) h = after_calls calls (after_call call h)

-- a disk that was made with these bytes, and then had these calls
abbrev pub history_of : List ℕ → List DiskCall → History
history_of first calls = after_calls calls (record { now = sure_of first; before = [] })

-- one of the stages, before each of which so many syncs or more had succeeded, may leave the bytes
abbrev pub LeftBefore : ℕ → List Stage → List ℕ → Type 0
LeftBefore k [] image = ⊥
LeftBefore k (stage ∷ before) image =
    ((k ≤ length before) × IsImage stage image) ⊎ LeftBefore k before image

-- what a crash might have left when so many syncs or more had succeeded
abbrev pub LeftSince : History → ℕ → List ℕ → Type 0
LeftSince h k image = (k ≤ length h.before) × LeftBefore k (h.now ∷ h.before) image

-- a disk of these bytes that has had these stages
abbrev pub disk_of : List ℕ → History → DiskState
disk_of content h = record {
  content = Some content;
  syncs = length h.before;
  left_since = LeftSince h;
}
