-- What opening a journal tells of the bytes that a disk holds.
use Rattle.std.specs.Prelude.{◌≡◌, ⊤, ℕ, ◌+◌, ◌^◌, ◌==◌, ◌&&◌, ◌||◌, ◌<◌, ◌≤◌, Bool, true, false}
use Rattle.std.specs.Prelude.{List, length, map}
use Rattle.std.specs.Prelude.{Option, None, Some, Result, Ok, Err, if◌then◌else◌}
use Rattle.reg_io.specs.Disks.{DiskState}
use Rattle.reg_io.specs.Counts.{Rose}
use Rattle.post_journal.specs.Images.{
  Image,
  bad_entry,
  end_of_places,
  entries_held,
  holds,
  is_begun,
  is_fresh,
  is_open,
  is_whole,
  journal_length,
  not_a_journal,
  told_length,
}
use Rattle.post_journal.specs.declared.fault.OpenFault.{OpenFault}
use Rattle.post_journal.specs.declared.fault.OpenFault.TheVariants.{NotAJournal, BadEntry}
use Rattle.post_journal.specs.declared.fault.OpenFault.TheVariants.{DiskFault, Memory}
use Rattle.post_journal.specs.declared.beginning.Beginning.{Beginning}
use Rattle.post_journal.specs.declared.beginning.Beginning.TheVariants.{Empty, Fresh, Begun, Other}
use Rattle.post_journal.specs.declared.journal.Payload.{Payload}

-- the gate byte at place 0 is to be written before the first entry: there is none, or it is open
abbrev pub closes_first : List ℕ → Bool
closes_first bytes = length bytes == 0 || (length bytes == 1 && is_open bytes)

-- how a file begins
abbrev pub beginning_of : List ℕ → Beginning
beginning_of bytes =
    if is_fresh bytes then (if closes_first bytes then Empty else Fresh)
    else (if is_begun bytes then Begun else Other)

-- the payloads as bytes
abbrev pub payloads : List Payload → List (List ℕ)
payloads entries = map (λ p. p.bytes) entries

-- opening answers what the file is, unless the disk failed or memory was refused
abbrev pub OpensAs : {A : Type 0} → Image → Result (A × List Payload) OpenFault → Type 0
OpensAs image (Ok opened) = entries_held image ≡ Some (payloads opened.1)
OpensAs image (Err NotAJournal) = image ≡ not_a_journal
OpensAs image (Err (BadEntry place)) = image ≡ bad_entry place
OpensAs image (Err DiskFault) = ⊤
OpensAs image (Err Memory) = ⊤

-- the count did not fall, and it rose where the disk is said to have failed
pub record HasDiskCause {T : Type 0} (before now : ℕ) (result : Result T OpenFault) : Type 0 where
  pub later : before ≤ now
  pub failed : result ≡ Err DiskFault → Rose before now

-- what stands at a gate byte: nothing more, a whole entry, or a bad one
abbrev pub FindsEntry : List ℕ → ℕ → Result (Option ℕ) OpenFault → Type 0
FindsEntry bytes place (Ok None) = is_open bytes ≡ false
FindsEntry bytes place (Ok (Some count)) =
    (is_open bytes ≡ true) × (told_length bytes ≡ count) × (is_whole count place bytes ≡ true)
FindsEntry bytes place (Err (BadEntry bad)) =
    (bad ≡ place) × (is_open bytes ≡ true) × (is_whole (told_length bytes) place bytes ≡ false)
FindsEntry bytes place (Err NotAJournal) = ⊥
FindsEntry bytes place (Err DiskFault) = ⊤
FindsEntry bytes place (Err Memory) = ⊤

-- the run that was read: its entries and where it ends, or its bad entry
abbrev pub EndsRun : Image → Result (ℕ × List Payload) OpenFault → Type 0
EndsRun image (Ok read) = image ≡ holds (payloads read.1) read.0
EndsRun image (Err (BadEntry place)) = image ≡ bad_entry place
EndsRun image (Err NotAJournal) = ⊥
EndsRun image (Err DiskFault) = ⊤
EndsRun image (Err Memory) = ⊤

-- a file that is refused keeps its bytes
abbrev pub KeepsRefused : {T : Type 0} → DiskState → DiskState → Result T OpenFault → Type 0
KeepsRefused before now (Err NotAJournal) = now.content ≡ before.content
KeepsRefused before now (Err (BadEntry place)) = now.content ≡ before.content
KeepsRefused before now (Err DiskFault) = ⊤
KeepsRefused before now (Err Memory) = ⊤
KeepsRefused before now (Ok opened) = ⊤

-- an entry of so many bytes behind the gate byte at this place has the next one within the file
pub record IsEntryAt (place len count : ℕ) : Type 0 where
  pub some : 1 ≤ count
  pub most : count ≤ 16_777_216
  pub within : place + (5 + count) < len
  pub low : place + (5 + count) < 2 ^ 31

-- the gate byte that ends these entries stands where their lengths bring it
pub record RunIsLong (entries : List Payload) (end : ℕ) : Type 0 where
  pub low : end < end_of_places
  pub sum : end + 1 ≡ journal_length (payloads entries)
