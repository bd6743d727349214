-- A journal on a disk, and what its calls leave there.
use Rattle.std.specs.Prelude.{◌≡◌, ℕ, ◌+◌, ◌<◌, ◌≤◌, Bool, true, false, List, [], ◌∷◌, ◌++◌, length}
use Rattle.std.specs.Prelude.{take}
use Rattle.std.specs.Prelude.{Option, IfSome, Result, Ok, Err}
use Rattle.std.specs.Option.{is_some, option_map}
use Rattle.reg_io.specs.Disks.{DiskState, IsSure, LeavesOnly, MayLeave}
use Rattle.post_journal.specs.Images.{end_of_places, entries_held, holds, image_of, most_payload}

-- a journal that was opened: the place of the gate byte behind its last entry, how long a payload
-- it has room for, and whether an append has failed
pub record JournalState : Type 0 where
  pub end : ℕ
  pub spare : ℕ
  pub failed : Bool

-- the run of entries ends at the gate byte at this place
abbrev pub RunsTo : ℕ → List ℕ → Type 0
RunsTo end bytes = (entries : List (List ℕ)) × (image_of bytes ≡ holds entries end)

-- a journal that ends at this place is what the disk holds, where it tells its bytes, and a crash
-- leaves it
pub record Stands (end : ℕ) (disk : DiskState) : Type 0 where
  pub run : IfSome disk.content (RunsTo end)
  pub sure : IsSure disk

-- an entry that may stand behind a gate byte
pub record FitsBehind (end : ℕ) (payload : List ℕ) : Type 0 where
  pub some : 1 ≤ length payload
  pub most : length payload ≤ most_payload
  pub low : end + (5 + length payload) < end_of_places

-- ---- what may be found on a disk since a moment

-- all that was to be found since the first moment has P: what a crash might have left at any
-- moment, where it might not have left it before, and what is read now
pub record ShowsOnly (first now : DiskState) (P : List ℕ → Type 0) : Type 0 where
  pub moments : LeavesOnly first now P
  pub shown : IfSome now.content P
  pub told : is_some now.content ≡ is_some first.content
  pub later : first.syncs ≤ now.syncs

-- the entries of what was there, and behind them exactly these
abbrev pub HasAll : Option (List ℕ) → List (List ℕ) → List ℕ → Type 0
HasAll content payloads image = IfSome content (λ bytes. entries_held (image_of image)
    ≡ option_map (λ entries. entries ++ payloads) (entries_held (image_of bytes)))

-- the entries of what was there, behind them all of the first list, and a front of the second
abbrev pub HasSome : Option (List ℕ) → List (List ℕ) → List (List ℕ) → List ℕ → Type 0
HasSome content done flight image =
    (n : ℕ) × (n ≤ length flight) × HasAll content (done ++ take n flight) image

-- no entry came and none went
abbrev pub Keeps : DiskState → DiskState → Type 0
Keeps first now = ShowsOnly first now (HasAll first.content [])

-- these entries were appended one after another, and of those in flight perhaps a front
pub record Grows (first now : DiskState) (done flight : List (List ℕ)) : Type 0 where
  -- what a crash at any moment might have left is from before, or has a front of all
  pub moments : LeavesOnly first now (HasSome first.content [] (done ++ flight))
  -- what is read has all that are done
  pub shown : IfSome now.content (HasSome first.content done flight)
  -- what a crash may leave now has them too
  pub kept : (image : List ℕ) → MayLeave now image → HasSome first.content done flight image
  pub told : is_some now.content ≡ is_some first.content
  pub later : first.syncs ≤ now.syncs

-- an append adds its entry, or a fault cuts it off
abbrev pub GrowsBy : {E : Type 0} → DiskState → DiskState → List ℕ → Result (Unit {0}) E → Type 0
GrowsBy old now payload (Ok _) = Grows old now (payload ∷ []) []
GrowsBy old now payload (Err _) = Grows old now [] (payload ∷ [])

-- ---- what an append leaves of its journal

-- it ends behind the new entry, whose room is used up
pub record Appended (old new : JournalState) (count : ℕ) (disk : DiskState) : Type 0 where
  pub stands : Stands new.end disk
  pub end : new.end ≡ old.end + (5 + count)
  pub spare : new.spare ≡ 0
  pub usable : new.failed ≡ false

-- after a fault it is not to be used any more
abbrev pub AppendEnds : {E : Type 0} → JournalState → JournalState → ℕ → DiskState
    → Result (Unit {0}) E → Type 0
AppendEnds old new count disk (Ok _) = Appended old new count disk
AppendEnds old new count disk (Err _) = new.failed ≡ true
