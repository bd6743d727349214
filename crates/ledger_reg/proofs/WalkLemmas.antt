-- Entries that are counted, one list after another, and how many documents have.
use Rattle.std.proofs.Common.{◌≡◌, ℕ, zero, suc, ◌+◌, ◌<◌, ◌≤◌, ◌*◌, ◌^◌, Bool, true, false, ◌&&◌}
use Rattle.std.proofs.Common.{cond, List, [], ◌∷◌, ◌++◌, map, length, ap, ◌∙◌, sym, subst, arith}
use Rattle.std.proofs.Common.{take, get_or, length-append, append_assoc}
use Rattle.std.specs.Prelude.{slice_get, unwrap_or}
use Rattle.std.specs.List.{All, filter, flat_map}
use Rattle.std.proofs.lemmas.List.{append-nil, map-append, length-map, length-take, take_more}
use Rattle.std.proofs.lemmas.List.{flat_map_more}
use Rattle.std.proofs.lemmas.List.Elements.{filter-append, All-take}
use Rattle.std.proofs.lemmas.List.Sums.{length-filter, count_by-le-length}
use Rattle.reg_base.specs.declared.records.Posting.{Posting}
use Rattle.reg_base.specs.declared.records.Document.{Document}
use Rattle.reg_base.specs.Records.{is_posted}
use Rattle.reg_base.specs.BookedEntries.{BookedEntry, entered_by}
use Rattle.ledger_reg.specs.Walks.{Adds, booked, HasShortLedgers}

module _ {B S : Type 0} (holds : List B → S → Type 0) (size : S → ℕ) where
  -- nothing added
  pub Adds-none : (s : S) → Adds holds size [] s s
  Adds-none s = record {
    sums = λ bs h. subst (λ xs. holds xs s) (sym (append-nil bs)) h;
    growth = omega arith;
  }

  -- elements added one list after another
  pub Adds-both : (xs ys : List B) (old mid new : S) → Adds holds size xs old mid
      → Adds holds size ys mid new → Adds holds size (xs ++ ys) old new
  Adds-both xs ys old mid new h k = record {
    sums = λ bs adds. subst (λ zs. holds zs new) (append_assoc bs xs ys)
        (k.sums (bs ++ xs) (h.sums bs adds));
    growth = omega (arith, length-append xs ys, h.growth, k.growth);
  }

filter-short : {X : Type 0} (p : X → Bool) (xs : List X) → length (filter p xs) ≤ length xs
filter-short p xs = omega (arith, length-filter p xs, count_by-le-length p xs)

module _ (p : BookedEntry → Bool) where
  module _ (number : ℕ) (set : List Posting) where
    -- the entries of a set so far, and one more
    pub set-more : (i : ℕ) (e : Posting) → i < length set → e ≡ get_or set i e
        → filter p (map (booked number) (take i set)) ++ filter p (booked number e ∷ [])
        ≡ filter p (map (booked number) (take (i + 1) set))
    set-more i e l is =
        sym (filter-append p (map (booked number) (take i set)) (booked number e ∷ []))
        ∙ ap (filter p) (sym (map-append (booked number) (take i set) (e ∷ [])))
        ∙ ap (λ t. filter p (map (booked number) t))
        (ap (λ x. take i set ++ x ∷ []) is ∙ sym (take_more set i e l))

    -- a set is short
    pub set-few : (i : ℕ) → length set ≤ 5_000
        → length (filter p (map (booked number) (take i set))) ≤ 5_000
    set-few i short = omega (
      arith,
      filter-short p (map (booked number) (take i set)),
      length-map (take i set) (booked number),
      length-take i set,
    )

  -- the entries of the documents so far, and those of one document more
  pub documents-more : (f : Document → List BookedEntry) (ds : List Document) (i : ℕ) (d : Document)
      → (i < length ds) × (d ≡ get_or ds i d)
      → filter p (flat_map f (take i ds)) ++ filter p (f d)
      ≡ filter p (flat_map f (take (i + 1) ds))
  documents-more f ds i d h =
      sym (filter-append p (flat_map f (take i ds)) (f d))
      ∙ ap (filter p) (flat_map_more f [] (take i ds) d)
      ∙ ap (λ xs. filter p (flat_map f xs)) (ap (λ x. take i ds ++ x ∷ []) h.1
      ∙ sym (take_more ds i d h.0))

sets-short : (sets : List (List Posting)) (i : ℕ) → All (λ s. length s ≤ 5_000) sets
    → length (unwrap_or (slice_get sets i) []) ≤ 5_000
sets-short [] i h = omega arith
sets-short (s ∷ ss) zero h = h 0 s (omega arith)
sets-short (s ∷ ss) (suc i) h = sets-short ss i (λ k d l. h (suc k) d (omega arith))

entered-short : (ledger : ℕ) (d : Document) → HasShortLedgers d
    → length (entered_by ledger d) ≤ 5_000
entered-short ledger d h = at (is_posted d.doc.state && d.doc.active)
  where
    at : (b : Bool) → length (cond b
        (map (booked d.doc.number) (unwrap_or (slice_get d.sets.ledgers ledger) [])) []) ≤ 5_000
    at true = omega (
      arith,
      length-map (unwrap_or (slice_get d.sets.ledgers ledger) []) (booked d.doc.number),
      sets-short d.sets.ledgers ledger h,
    )
    at false = omega arith

flat-short : (ledger : ℕ) (ds : List Document) → All HasShortLedgers ds
    → length (flat_map (entered_by ledger) ds) ≤ 5_000 * length ds
flat-short ledger [] h = omega arith
flat-short ledger (d ∷ ds) h = omega (
  arith,
  length-append (entered_by ledger d) (flat_map (entered_by ledger) ds),
  entered-short ledger d (h 0 d (omega arith)),
  flat-short ledger ds (λ k x l. h (suc k) x (omega arith)),
)

-- documents have few entries
pub documents-few : (p : BookedEntry → Bool) (ledger : ℕ) (ds : List Document) (i : ℕ)
    → All HasShortLedgers ds → length ds < 2 ^ 32
    → length (filter p (flat_map (entered_by ledger) (take i ds))) ≤ 2 ^ 45
documents-few p ledger ds i h few = omega (
  arith,
  filter-short p (flat_map (entered_by ledger) (take i ds)),
  flat-short ledger (take i ds) (All-take HasShortLedgers i ds h),
  length-take i ds,
)

pub all-few : (p : BookedEntry → Bool) (ledger : ℕ) (ds : List Document)
    → All HasShortLedgers ds → length ds < 2 ^ 32
    → length (filter p (flat_map (entered_by ledger) ds)) ≤ 2 ^ 45
all-few p ledger ds h few = omega (
  arith,
  filter-short p (flat_map (entered_by ledger) ds),
  flat-short ledger ds h,
  few,
)
