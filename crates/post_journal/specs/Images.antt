-- What the bytes of a file are as a journal.
use Rattle.std.specs.Prelude.{ℕ, zero, suc, codes, ◌+◌, ◌==◌, ◌&&◌, ◌||◌, not, nat_le, nat_lt}
use Rattle.std.specs.Prelude.{bytes_eq}
use Rattle.std.specs.Prelude.{Bool, true, false, List, [], ◌∷◌, ◌++◌, length, take, drop}
use Rattle.std.specs.Prelude.{Option, None, Some}
use Rattle.std.specs.Int.{w32, to_be_bytes, from_be_bytes}

-- a file that is to be begun, no journal, one with a bad entry at a place, or one whose run of
-- entries ends at the gate byte at a place
pub data Image : Type 0 where
  fresh : Image
  not_a_journal : Image
  bad_entry : ℕ → Image
  holds : List (List ℕ) → ℕ → Image

abbrev pub most_payload : ℕ
most_payload = 16_777_216

-- gate bytes stand below this place
abbrev pub end_of_places : ℕ
end_of_places = 2_147_483_648

-- the gate byte in front of these bytes is open
abbrev pub is_open : List ℕ → Bool
is_open [] = false
is_open (gate ∷ bytes) = gate == 1

-- the length that stands behind the gate byte
abbrev pub told_length : List ℕ → ℕ
told_length bytes = from_be_bytes w32 (take 4 (drop 1 bytes))

-- the entry is whole: it has a length that may be, and behind it stands a gate byte in the file and
-- below the end of places
abbrev pub is_whole : ℕ → ℕ → List ℕ → Bool
is_whole count place bytes =
    (nat_le 1 count && nat_le count most_payload)
    && (nat_lt (5 + count) (length bytes) && nat_lt (place + (5 + count)) end_of_places)

-- the bytes of an entry
abbrev pub payload_of : ℕ → List ℕ → List ℕ
payload_of count bytes = take count (drop 5 bytes)

-- an entry in front of those of the rest
abbrev pub with_entry : List ℕ → Image → Image
with_entry payload fresh = fresh
with_entry payload not_a_journal = not_a_journal
with_entry payload (bad_entry place) = bad_entry place
with_entry payload (holds entries end) = holds (payload ∷ entries) end

-- behind an open gate: an entry that is whole and those of the rest, or a bad one
abbrev pub entry_then : Bool → ℕ → List ℕ → Image → Image
entry_then true place payload rest = with_entry payload rest
entry_then false place payload rest = bad_entry place

-- an open gate, or the end of the run
abbrev pub gate_then : Bool → ℕ → Image → Image
gate_then true place rest = rest
gate_then false place rest = holds [] place

-- the run of entries from a gate byte at a place on, of which there are at most so many
unfoldable pub run_from : ℕ → ℕ → List ℕ → Image
run_from zero place bytes = holds [] place
run_from (suc most) place bytes =
    let count = told_length bytes in
    gate_then (is_open bytes) place
    (entry_then (is_whole count place bytes) place (payload_of count bytes)
    (run_from most (place + (5 + count)) (drop (5 + count) bytes)))

-- the first entry of a journal
abbrev pub first_entry : List ℕ
first_entry = 1 ∷ 0 ∷ 0 ∷ 0 ∷ 17 ∷ codes "regdesk journal 1"

-- the file is to be begun: none was there, or what was begun did not come to its open gate
abbrev pub is_fresh : List ℕ → Bool
is_fresh bytes = nat_le (length bytes) 1 || (nat_le (length bytes) 23 && not (is_open bytes))

-- the first entry stands there, with a gate byte behind it
abbrev pub is_begun : List ℕ → Bool
is_begun bytes = bytes_eq (take 22 bytes) first_entry && nat_lt 22 (length bytes)

abbrev pub image_by : Bool → Bool → Image → Image
image_by true begun run = fresh
image_by false true run = run
image_by false false run = not_a_journal

-- what a file is
unfoldable pub image_of : List ℕ → Image
image_of bytes =
    image_by (is_fresh bytes) (is_begun bytes) (run_from (length bytes) 22 (drop 22 bytes))

-- the entries of a journal, of which a file that is to be begun has none
abbrev pub entries_held : Image → Option (List (List ℕ))
entries_held fresh = Some []
entries_held not_a_journal = None
entries_held (bad_entry place) = None
entries_held (holds entries end) = Some entries

-- how many bytes of a file a journal with these entries uses: the first entry, and behind each one
-- the next gate byte
abbrev pub journal_length : List (List ℕ) → ℕ
journal_length [] = 23
journal_length (entry ∷ entries) = 5 + length entry + journal_length entries

-- what stands behind the gate byte of an entry, with a closed gate behind it
abbrev pub behind_gate : List ℕ → List ℕ
behind_gate payload = to_be_bytes w32 (length payload) ++ (payload ++ 0 ∷ [])

-- the file with an entry behind a gate byte, and this byte in its place
abbrev pub with_gate : ℕ → ℕ → List ℕ → List ℕ → List ℕ
with_gate place gate behind file =
    take place file ++ (gate ∷ (behind ++ drop (place + 1 + length behind) file))
