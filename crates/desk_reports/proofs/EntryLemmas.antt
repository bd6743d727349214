-- The entries of a ledger at a desk that a journal replays to are few, and their amounts small.
use Rattle.std.proofs.Common.{ℕ, zero, suc, ◌≤◌, ◌&&◌, Bool, true, false, cond, unwrap_or, List, []}
use Rattle.std.proofs.Common.{◌∷◌, map, length, length-append, slice_get, arith}
use Rattle.std.specs.List.{All, flat_map, sum_by}
use Rattle.std.proofs.lemmas.List.{length-map}
use Rattle.std.proofs.lemmas.List.Elements.{All-append, All-head, All-map, All-nil, All-tail}
use Rattle.std.proofs.lemmas.List.Sorted.{All-permutation, length_permutation}
use Rattle.std.proofs.lemmas.List.Sums.{sum_by-cons}
use Rattle.reg_base.specs.declared.records.Document.{Document}
use Rattle.reg_base.specs.declared.records.Posting.{Posting}
use Rattle.reg_base.specs.BookedEntries.{BookedEntry, entered_by, entries_of}
use Rattle.reg_base.specs.Records.{is_posted}
use Rattle.reg_base.proofs.ForTables.{entries_of-permutation}
use Rattle.desk_model.specs.State.{State}
use Rattle.desk_model.specs.Limits.{record_count, records_in}
use Rattle.desk_reports.proofs.AmountLemmas.{HasSmallAmounts, HasSmallSets, IsSmallAmount}
use Rattle.desk_reports.proofs.BoundLemmas.{AreFewSmall, IsSmall}
use Rattle.desk_reports.proofs.StateLemmas.{AreSmall, IsReplayed}

-- a set is one of those of which all are small, or there is none
set-small : (sets : List (List Posting)) (place : ℕ) → All HasSmallAmounts sets
    → HasSmallAmounts (unwrap_or (slice_get sets place) [])
set-small [] place all = All-nil (λ (e : Posting). IsSmallAmount e.amount)
set-small (s ∷ ss) zero all = All-head HasSmallAmounts s ss all
set-small (s ∷ ss) (suc place) all = set-small ss place (All-tail HasSmallAmounts s ss all)

set-among : {X : Type 0} (sets : List (List X)) (place : ℕ)
    → length (unwrap_or (slice_get sets place) []) ≤ sum_by length sets
set-among [] place = omega arith
set-among (s ∷ ss) zero = omega (arith, sum_by-cons length s ss)
set-among (s ∷ ss) (suc place) =
    omega (arith, sum_by-cons length s ss, set-among ss place)

-- an entry with the number of its document
booked : Document → Posting → BookedEntry
booked d e = record { recorder = d.doc.number; entry = e }

module _ (ledger : ℕ) where
  -- the entries that a document has, whether they count or not
  set : Document → List Posting
  set d = unwrap_or (slice_get d.sets.ledgers ledger) []

  entered-small : (d : Document) → HasSmallSets d → All IsSmall (entered_by ledger d)
  unfolding booked set
  entered-small d are = at (is_posted d.doc.state && d.doc.active)
    where
      at : (b : Bool) → All IsSmall (cond b (map (booked d) (set d)) [])
      at true = All-map IsSmall (booked d) (set d) (set-small d.sets.ledgers ledger are)
      at false = All-nil IsSmall

  entered-among : (d : Document) → length (entered_by ledger d) ≤ record_count d
  unfolding booked set
  entered-among d = at (is_posted d.doc.state && d.doc.active)
    where
      at : (b : Bool) → length {A = BookedEntry} (cond b (map (booked d) (set d)) [])
          ≤ record_count d
      at true = omega (
        arith,
        length-map {B = BookedEntry} (set d) (booked d),
        set-among d.sets.ledgers ledger,
      )
      at false = omega arith

  -- the entries of all documents are small, and no more than their records and entries
  all-small : (ds : List Document) → AreSmall ds
      → All IsSmall (flat_map (entered_by ledger) ds)
  all-small [] are = All-nil IsSmall
  all-small (d ∷ ds) are =
      All-append IsSmall (entered_by ledger d) (flat_map (entered_by ledger) ds)
      (entered-small d (All-head HasSmallSets d ds are))
      (all-small ds (All-tail HasSmallSets d ds are))

  all-among : (ds : List Document) → length (flat_map (entered_by ledger) ds) ≤ records_in ds
  all-among [] = omega arith
  all-among (d ∷ ds) = omega (
    arith,
    length-append (entered_by ledger d) (flat_map (entered_by ledger) ds),
    entered-among d,
    all-among ds,
    sum_by-cons record_count d ds,
  )

  -- the entries of a ledger in a state that is replayed
  pub entries-few : (state : State) → IsReplayed state
      → AreFewSmall (entries_of ledger state.documents)
  entries-few state is =
      let whole = entries_of-permutation ledger state.documents in
      record {
        few = omega (
          arith,
          is.few,
          all-among state.documents,
          length_permutation (flat_map (entered_by ledger) state.documents) _ whole,
        );
        small = All-permutation IsSmall (flat_map (entered_by ledger) state.documents) _ whole
            (all-small state.documents is.small);
      }
