-- The first line feed of bytes, found in a part of them.
use Rattle.std.proofs.Common.{◌≡◌, ℕ, ◌+◌, ◌-◌, ◌<◌, ◌≤◌, ◌≢◌, min, List, ◌++◌, length, take, drop}
use Rattle.std.proofs.Common.{slice_range, sym, ap, ◌∙◌, arith, length-take}
use Rattle.std.proofs.Math.Seq.{take-add}
use Rattle.std.proofs.lemmas.List.{take-take, take_all, get_or-take, get_or-drop}
use Rattle.std.proofs.lemmas.List.Elements.{All-append}
use Rattle.reg_io.specs.Lines.{line_feed}
use Rattle.reg_io.specs.LineReaders.{HasNoLineFeed}
use Rattle.reg_io.specs.LineReaders.{IsFirstLineFeed}

pub HasNoLineFeed-append : (a b : List ℕ) → HasNoLineFeed a → HasNoLineFeed b →
    HasNoLineFeed (a ++ b)
HasNoLineFeed-append a b p q = All-append (λ byte. byte ≢ line_feed) a b p q

-- a front without line feed, and the next bytes
pub HasNoLineFeed-range : (bytes : List ℕ) (i j : ℕ) → i ≤ j
    → HasNoLineFeed (take i bytes) → HasNoLineFeed (slice_range bytes i j) →
    HasNoLineFeed (take j bytes)
HasNoLineFeed-range bytes i j le p q =
    let e : take j bytes ≡ take i bytes ++ take (j - i) (drop i bytes) =
    ap (λ n. take n bytes) (omega arith) ∙ take-add i (j - i) bytes in
    rw e (HasNoLineFeed-append _ _ p q)

-- the place in a range, counted from the front of all bytes
pub IsFirstLineFeed-range : (bytes : List ℕ) (i j place : ℕ) → i ≤ j → j ≤ length bytes
    → HasNoLineFeed (take i bytes) → IsFirstLineFeed (slice_range bytes i j) place
    → IsFirstLineFeed bytes (i + place) × (i + place < j)
IsFirstLineFeed-range bytes i j place le bound p found =
    let short : place < j - i = omega (arith, simp length-take at found.within) in
    let same : take place (take (j - i) (drop i bytes)) ≡ take place (drop i bytes) =
    take-take place (j - i) (drop i bytes) (omega arith) in (
      record {
        within = omega arith;
        before = rw take-add (HasNoLineFeed-append _ _ p (rw same at found.before));
        here = sym (get_or-drop i bytes place 0) ∙ sym
            (get_or-take (j - i) (drop i bytes) place 0 short)
            ∙ found.here;
      },
      omega arith,
    )

-- bytes that have no line feed up to a limit that is their end
pub HasNoLineFeed-whole : (bytes : List ℕ) (limit : ℕ) → length bytes ≤ limit
    → HasNoLineFeed (take limit bytes) → HasNoLineFeed bytes
HasNoLineFeed-whole bytes limit le h = rw take_all at h

-- what a look behind the scanned bytes, up to the room, tells of the whole window
module _ (bytes window : List ℕ) (room scanned limit : ℕ) (same : bytes ≡ window)
    (upto : limit ≡ min (length bytes) room) (within : scanned ≤ length window)
    (in_room : scanned ≤ room) (front : HasNoLineFeed (take scanned window)) where
  pub found_line : (place : ℕ) → IsFirstLineFeed (slice_range bytes scanned limit) place
      → IsFirstLineFeed window (scanned + place) × (scanned + place < room)
  found_line place found =
      let len = ap length same in
      let there = IsFirstLineFeed-range window scanned limit place (omega arith) (omega arith) front
      (rw same at found) in
      (there.0, omega (arith, there.1))

  none_found : HasNoLineFeed (slice_range bytes scanned limit) → HasNoLineFeed (take limit window)
  none_found none =
      let len = ap length same in
      HasNoLineFeed-range window scanned limit (omega arith) front (rw same at none)

  pub found_past : HasNoLineFeed (slice_range bytes scanned limit) → room < length bytes
      → (room < length window) × HasNoLineFeed (take room window)
  found_past none past =
      let len = ap length same in let e : limit ≡ room = omega arith in
      (omega arith, rw e at (none_found none))

  pub found_part : HasNoLineFeed (slice_range bytes scanned limit) → length bytes ≤ room
      → HasNoLineFeed window × (length window ≤ room)
  found_part none short =
      let len = ap length same in
      (HasNoLineFeed-whole window limit (omega arith) (none_found none), omega arith)
