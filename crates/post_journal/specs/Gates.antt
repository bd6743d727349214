-- Private: what a disk holds while bytes are put behind a gate byte and it is opened.
use Rattle.std.specs.Prelude.{◌≡◌, ◌⊎◌, ◌<◌, false, ℕ, ◌+◌, ◌≤◌, List, [], length, Option, IfSome}
use Rattle.std.specs.Prelude.{Some}
use Rattle.reg_io.specs.Disks.{DiskState, Torn}
use Rattle.post_journal.specs.Images.{entries_held, image_of, is_open, with_gate}

-- a gate byte stands at this place
abbrev pub HasGate : ℕ → DiskState → Type 0
HasGate place disk = IfSome disk.content (λ bytes. place < length bytes)

-- so many bytes at a place may be anything, and what stands behind the old end
abbrev pub IsTornPut : ℕ → ℕ → Option (List ℕ) → List ℕ → Type 0
IsTornPut place count content image = IfSome content (λ bytes. Torn place count bytes image)

-- the bytes behind the gate may be there in part, and then the gate is what it was; or they are
-- there, behind any gate byte
abbrev pub IsBehindGate : ℕ → List ℕ → Option (List ℕ) → List ℕ → Type 0
IsBehindGate place behind content image = IfSome content (λ bytes.
    Torn (place + 1) (length behind) bytes image
    ⊎ ((gate : ℕ) × (image ≡ with_gate place gate behind bytes)))

-- what was there, where it was told
abbrev pub IsContent : DiskState → List ℕ → Type 0
IsContent disk image = disk.content ≡ Some image

-- ---- a file that is to be begun

-- it has one byte at the most
abbrev pub IsSmallFile : DiskState → Type 0
IsSmallFile disk = IfSome disk.content (λ bytes. length bytes ≤ 1)

-- its first gate byte is closed
pub record IsClosedFile (bytes : List ℕ) : Type 0 where
  pub some : 1 ≤ length bytes
  pub small : length bytes ≤ 23
  pub shut : is_open bytes ≡ false

-- a journal without entries, or a file that is to be begun
abbrev pub HasNoEntries : List ℕ → Type 0
HasNoEntries image = entries_held (image_of image) ≡ Some []

-- the same, where bytes were told
abbrev pub IsEmptyJournal : DiskState → List ℕ → Type 0
IsEmptyJournal disk image = IfSome disk.content (λ _. HasNoEntries image)
