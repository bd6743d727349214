-- The records of a register are few, and their numbers not too large.
use Rattle.std.proofs.Common.{◌≡◌, ℕ, zero, suc, ◌≤◌, Bool, true, false, ◌&&◌, cond}
use Rattle.std.proofs.Common.{unsigned_abs, List, [], ◌∷◌}
use Rattle.std.proofs.Common.{map, length, refl, ap, arith}
use Rattle.std.proofs.Common.{length-append}
use Rattle.std.specs.Prelude.{slice_get, unwrap_or}
use Rattle.std.specs.List.{All, flat_map, sum_by}
use Rattle.std.specs.Ordering.{match_ordering}
use Rattle.std.specs.declared.cmp.Ordering.{Ordering}
use Rattle.std.specs.declared.cmp.Ordering.TheVariants.{Less, Equal, Greater}
use Rattle.std.proofs.lemmas.Bool.{leb-true}
use Rattle.std.proofs.lemmas.List.{length-map}
use Rattle.std.proofs.lemmas.List.Sums.{sum_by-cons}
use Rattle.std.proofs.lemmas.List.Elements.{All-nil, All-cons, All-head, All-tail, All-append}
use Rattle.std.proofs.lemmas.List.Elements.{All-map, All-weaker}
use Rattle.reg_base.specs.Numbers.{largest_units}
use Rattle.reg_base.specs.Records.{Booked, booked_by, booked_cmp, is_posted, put, in_order}
use Rattle.reg_base.specs.Records.{records_of}
use Rattle.reg_base.specs.declared.records.Document.{Document}
use Rattle.reg_base.specs.declared.records.Rec.{Rec}
use Rattle.post_model.specs.Scenes.{is_number}
use Rattle.post_rules.specs.Sheets.{HasNumbers, IsSheet}
use Rattle.desk_model.specs.Limits.{record_count, records_in}
use Rattle.desk_plans.specs.Bounds.{AreNumbers, HaveNumbers, IsWithinBounds}

-- ---- elements in order

length-put : {X : Type 0} (cmp : X → X → Ordering) (x : X) (ys : List X)
    → length (put cmp x ys) ≡ suc (length ys)
length-put cmp x [] = refl
length-put cmp x (y ∷ ys) = at (cmp x y) (length-put cmp x ys)
  where
    at : (o : Ordering) → length (put cmp x ys) ≡ suc (length ys)
        → length (match_ordering o (x ∷ y ∷ ys) (x ∷ y ∷ ys) (y ∷ put cmp x ys))
        ≡ suc (suc (length ys))
    at Less ih = refl
    at Equal ih = refl
    at Greater ih = ap suc ih

length-in_order : {X : Type 0} (cmp : X → X → Ordering) (xs : List X)
    → length (in_order cmp xs) ≡ length xs
length-in_order cmp [] = refl
length-in_order cmp (x ∷ xs) =
    omega (arith, length-put cmp x (in_order cmp xs), length-in_order cmp xs)

All-put : {X : Type 0} (P : X → Type 0) (cmp : X → X → Ordering) (x : X) (ys : List X) → P x
    → All P ys → All P (put cmp x ys)
All-put P cmp x [] own all = All-cons P x [] own all
All-put P cmp x (y ∷ ys) own all =
    at (cmp x y) (All-put P cmp x ys own (All-tail P y ys all))
  where
    at : (o : Ordering) → All P (put cmp x ys)
        → All P (match_ordering o (x ∷ y ∷ ys) (x ∷ y ∷ ys) (y ∷ put cmp x ys))
    at Less ih = All-cons P x (y ∷ ys) own all
    at Equal ih = All-cons P x (y ∷ ys) own all
    at Greater ih = All-cons P y (put cmp x ys) (All-head P y ys all) ih

All-in_order : {X : Type 0} (P : X → Type 0) (cmp : X → X → Ordering) (xs : List X) → All P xs
    → All P (in_order cmp xs)
All-in_order P cmp [] all = all
All-in_order P cmp (x ∷ xs) all = All-put P cmp x (in_order cmp xs) (All-head P x xs all)
    (All-in_order P cmp xs (All-tail P x xs all))

-- ---- how many records a register has

set-among : {X : Type 0} (sets : List (List X)) (i : ℕ)
    → length (unwrap_or (slice_get sets i) []) ≤ sum_by length sets
set-among [] i = omega arith
set-among (s ∷ ss) zero = omega (arith, sum_by-cons length s ss)
set-among (s ∷ ss) (suc i) = omega (arith, sum_by-cons length s ss, set-among ss i)

booked-among : (register : ℕ) (d : Document) → length (booked_by register d) ≤ record_count d
booked-among register d = at (is_posted d.doc.state && d.doc.active)
  where
    set : List Rec
    set = unwrap_or (slice_get d.sets.registers register) []

    all : List Booked
    all = map (λ (r : Rec). record { recorder = d.doc.number; rec = r }) set

    at : (b : Bool) → length {A = Booked} (cond b all []) ≤ record_count d
    at true = omega (
      arith,
      length-map {B = Booked} set (λ (r : Rec). record { recorder = d.doc.number; rec = r }),
      set-among d.sets.registers register,
    )
    at false = omega arith

all-among : (register : ℕ) (ds : List Document)
    → length (flat_map (booked_by register) ds) ≤ records_in ds
all-among register [] = omega arith
all-among register (d ∷ ds) = omega (
  arith,
  length-append (booked_by register d) (flat_map (booked_by register) ds),
  booked-among register d,
  all-among register ds,
  sum_by-cons record_count d ds,
)

-- ---- how large their numbers are

numbers-small : (r : Rec) → AreNumbers r.sums → HasNumbers r
numbers-small r are =
    All-weaker (λ n. is_number n ≡ true) (λ n. unsigned_abs n ≤ largest_units)
    (λ n is. leb-true (unsigned_abs n) largest_units is) r.sums are

set-small : (sets : List (List Rec)) (i : ℕ) → All HaveNumbers sets
    → All HasNumbers (unwrap_or (slice_get sets i) [])
set-small [] i all = All-nil HasNumbers
set-small (s ∷ ss) zero all =
    All-weaker (λ (r : Rec). AreNumbers r.sums) HasNumbers numbers-small s
    (All-head HaveNumbers s ss all)
set-small (s ∷ ss) (suc i) all = set-small ss i (All-tail HaveNumbers s ss all)

booked-small : (register : ℕ) (d : Document) → IsWithinBounds d
    → All (λ b. HasNumbers b.rec) (booked_by register d)
booked-small register d bounds = at (is_posted d.doc.state && d.doc.active)
  where
    set : List Rec
    set = unwrap_or (slice_get d.sets.registers register) []

    all : List Booked
    all = map (λ (r : Rec). record { recorder = d.doc.number; rec = r }) set

    at : (b : Bool) → All (λ (x : Booked). HasNumbers x.rec) (cond b all [])
    at true = All-map (λ (x : Booked). HasNumbers x.rec)
        (λ (r : Rec). record { recorder = d.doc.number; rec = r }) set
        (set-small d.sets.registers register bounds.numbers)
    at false = All-nil (λ (x : Booked). HasNumbers x.rec)

all-small : (register : ℕ) (ds : List Document) → All IsWithinBounds ds
    → All (λ b. HasNumbers b.rec) (flat_map (booked_by register) ds)
all-small register [] all = All-nil (λ (x : Booked). HasNumbers x.rec)
all-small register (d ∷ ds) all =
    All-append (λ (x : Booked). HasNumbers x.rec) (booked_by register d)
    (flat_map (booked_by register) ds)
    (booked-small register d (All-head IsWithinBounds d ds all))
    (all-small register ds (All-tail IsWithinBounds d ds all))

-- documents within bounds that have few records make sheets
pub documents-sheet : (documents : List Document) → All IsWithinBounds documents
    → records_in documents ≤ 8_000_000 → (register : ℕ) → IsSheet (records_of register documents)
documents-sheet documents bounds few register = record {
  few = omega (
    arith,
    length-in_order booked_cmp (flat_map (booked_by register) documents),
    all-among register documents,
    few,
  );
  small = All-in_order (λ b. HasNumbers b.rec) booked_cmp (flat_map (booked_by register) documents)
      (all-small register documents bounds);
}
