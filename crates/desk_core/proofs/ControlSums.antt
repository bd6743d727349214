-- Controls: the sums of all records behind a change.
use Rattle.std.proofs.Common.{◌≡◌, ℕ, ◌+◌, ◌<◌, ℤ, pos, ◌+ℤ◌, Bool, true, false}
use Rattle.std.proofs.Common.{◌==◌, cond, None, List, [], ◌∷◌, ◌++◌, map, refl}
use Rattle.std.proofs.Common.{◌≤◌, ◌^◌, length, take, get_or, ap, ◌∙◌, sym, subst, arith}
use Rattle.std.specs.Bool.{Decides}
use Rattle.std.specs.List.{flat_map, AllByRecursion}
use Rattle.std.specs.List.Sorted.{IsStrictlySortedBy}
use Rattle.std.specs.Ordering.{match_ordering, nat_cmp, is_eq}
use Rattle.std.specs.declared.cmp.Ordering.{Ordering}
use Rattle.std.specs.declared.cmp.Ordering.TheVariants.{Less, Equal, Greater}
use Rattle.std.proofs.lemmas.Int.{ints}
use Rattle.std.proofs.lemmas.Bool.Decides.{Decides-eqb}
use Rattle.std.proofs.lemmas.Cmp.{nat_cmp_total, tied_itself}
use Rattle.std.proofs.lemmas.List.{map-append, length-map, length-take, take_more, flat_map_more}
use Rattle.std.proofs.lemmas.Map.Keys.{sorted_from_strictly_increasing}
use Rattle.std.proofs.lemmas.Map.Lookups.{exact_unsigned}
use Rattle.reg_base.specs.declared.value.Value.{Value}
use Rattle.reg_base.specs.declared.records.Rec.{Rec}
use Rattle.reg_base.specs.declared.records.Document.{Document}
use Rattle.reg_base.specs.declared.records.SumRow.{SumRow}
use Rattle.reg_base.specs.Documents.{with_document, AreInOrder}
use Rattle.reg_base.specs.Records.{Booked}
use Rattle.reg_base.specs.Records.{booked_by, records_of}
use Rattle.reg_base.specs.Balances.{contribution, total}
use Rattle.row_sums.specs.Sums.{booked, AddsUp}
use Rattle.row_sums.proofs.ForAbove.{all-below, AddsUp-same, total-in_order}
use Rattle.desk_core.specs.Controls.{booked_by_other}

plus-three : (a b c : ℤ) → a +ℤ (b +ℤ c) ≡ (a +ℤ b) +ℤ c
plus-three a b c = omega (arith, ints)

plus-swap : (a b : ℤ) → a +ℤ b ≡ b +ℤ a
plus-swap a b = omega (arith, ints)

plus-zero : (a : ℤ) → a ≡ pos 0 +ℤ a
plus-zero a = omega (arith, ints)

-- ---- the sums of records

module _ (g : List Value) (j : ℕ) where
  pub total-append : (xs ys : List Booked)
      → total None g (xs ++ ys) j ≡ total None g xs j +ℤ total None g ys j
  total-append [] ys = plus-zero (total None g ys j)
  total-append (x ∷ xs) ys =
      ap (λ t. contribution None g j x +ℤ t) (total-append xs ys)
      ∙ plus-three (contribution None g j x) (total None g xs j) (total None g ys j)

-- ---- a document put among others

module _ (n : ℕ) where
  -- a number that another one is not tied with is another one
  apart : (e : ℕ) → is_eq (nat_cmp n e) ≡ false → (e == n) ≡ false
  apart e h = at (e == n) (Decides-eqb e n)
    where
      at : (b : Bool) → Decides b (e ≡ n) → b ≡ false
      at false same = refl
      at true same = absurd (
          let own = ap is_eq (tied_itself nat_cmp_total n) in
          let is : is_eq (nat_cmp n e) ≡ is_eq (nat_cmp n n) =
          ap (λ x. is_eq (nat_cmp n x)) (same.0 refl) in
          cc
          )

  met : (e : ℕ) → nat_cmp n e ≡ Equal → (e == n) ≡ true
  met e h = (Decides-eqb e n).1 (sym (exact_unsigned n e h))

module _ (d : Document) (register : ℕ) where
  abbrev numbers : List Document → List ℕ
  numbers ds = map (λ x. x.doc.number) ds

  abbrev others : List Document → List Booked
  others ds = flat_map (booked_by_other d.doc.number register) ds

  others-above : (ds : List Document)
      → AllByRecursion (λ y. nat_cmp d.doc.number y ≡ Less) (numbers ds)
      → others ds ≡ flat_map (booked_by register) ds
  others-above [] h = refl
  others-above (e ∷ es) h = λ i.
      cond (apart d.doc.number e.doc.number (ap is_eq h.0) i) [] (booked_by register e)
      ++ others-above es h.1 i

  module _ (g : List Value) (j : ℕ) where
    abbrev sum : List Booked → ℤ
    sum xs = total None g xs j

    -- the document in front of all others
    in-front : (ds : List Document)
        → AllByRecursion (λ y. nat_cmp d.doc.number y ≡ Less) (numbers ds)
        → sum (booked_by register d ++ flat_map (booked_by register) ds)
        ≡ sum (others ds) +ℤ sum (booked_by register d)
    in-front ds h =
        total-append g j (booked_by register d) (flat_map (booked_by register) ds)
        ∙ plus-swap (sum (booked_by register d)) (sum (flat_map (booked_by register) ds))
        ∙ ap (λ xs. sum xs +ℤ sum (booked_by register d)) (sym (others-above ds h))

    sum-with : (ds : List Document) → IsStrictlySortedBy nat_cmp (numbers ds)
        → sum (flat_map (booked_by register) (with_document d ds))
        ≡ sum (others ds) +ℤ sum (booked_by register d)
    unfolding IsStrictlySortedBy
    sum-with [] s = in-front [] tt
    sum-with (e ∷ es) s = at (nat_cmp d.doc.number e.doc.number) refl (sum-with es s.1)
      where
        own : ℤ
        own = sum (booked_by register d)

        at : (r : Ordering) → nat_cmp d.doc.number e.doc.number ≡ r
            → sum (flat_map (booked_by register) (with_document d es)) ≡ sum (others es) +ℤ own
            → sum (flat_map (booked_by register)
            (match_ordering r (d ∷ e ∷ es) (d ∷ es) (e ∷ with_document d es)))
            ≡ sum (others (e ∷ es)) +ℤ own
        at Less p ih = in-front (e ∷ es)
            (p, all-below nat_cmp_total exact_unsigned d.doc.number e.doc.number (numbers es) p s.0)
        at Equal p ih =
            in-front es (subst (λ x. AllByRecursion (λ y. nat_cmp x y ≡ Less) (numbers es))
            (sym (exact_unsigned d.doc.number e.doc.number p)) s.0)
            ∙ ap (λ b. sum (cond b [] (booked_by register e) ++ others es) +ℤ own)
            (sym (met d.doc.number e.doc.number p))
        at Greater p ih =
            total-append g j (booked_by register e)
            (flat_map (booked_by register) (with_document d es))
            ∙ ap (λ t. sum (booked_by register e) +ℤ t) ih
            ∙ plus-three (sum (booked_by register e)) (sum (others es)) own
            ∙ ap (λ t. t +ℤ own) (sym (total-append g j (booked_by register e) (others es)))
            ∙ ap (λ b. sum (cond b [] (booked_by register e) ++ others es) +ℤ own)
            (sym (apart d.doc.number e.doc.number (ap is_eq p)))

  -- rows of the records of the others and of the document are those of all records with it
  pub AddsUp-with : (n : ℕ) (ds : List Document) → AreInOrder ds → (rows : List SumRow)
      → AddsUp None n (others ds ++ booked_by register d) rows
      → AddsUp None n (records_of register (with_document d ds)) rows
  AddsUp-with n ds s rows h =
      AddsUp-same None n (others ds ++ booked_by register d)
      (records_of register (with_document d ds))
      (λ g j l. total-append g j (others ds) (booked_by register d)
      ∙ sym (sum-with g j ds (sorted_from_strictly_increasing (numbers ds) s))
      ∙ sym (total-in_order None g j (flat_map (booked_by register) (with_document d ds))))
      rows h

-- ---- what has been walked

module _ (number : ℕ) (set : List Rec) where
  -- the records of a set so far, and one more
  pub set-more : (i : ℕ) (r : Rec) → i < length set → r ≡ get_or set i r
      → map (booked number) (take i set) ++ booked number r ∷ []
      ≡ map (booked number) (take (i + 1) set)
  set-more i r l e =
      sym (map-append (booked number) (take i set) (r ∷ []))
      ∙ ap (map (booked number)) (ap (λ x. take i set ++ x ∷ []) e ∙ sym (take_more set i r l))

  -- a set is short
  pub set-few : (i : ℕ) → length set ≤ 5_000
      → 2 ^ 45 + length (map (booked number) (take i set)) ≤ 2 ^ 46
  set-few i short = omega (
    arith,
    length-map (take i set) (booked number),
    length-take i set,
  )

-- the records of the documents so far, and those of one document more
pub documents-more : (f : Document → List Booked) (ds : List Document) (i : ℕ) (d : Document)
    → (i < length ds) × (d ≡ get_or ds i d)
    → flat_map f (take i ds) ++ f d ≡ flat_map f (take (i + 1) ds)
documents-more f ds i d h =
    flat_map_more f [] (take i ds) d
    ∙ ap (flat_map f) (ap (λ x. take i ds ++ x ∷ []) h.1 ∙ sym (take_more ds i d h.0))
