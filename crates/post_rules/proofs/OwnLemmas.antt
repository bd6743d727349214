-- A document's own expenses, one record more, and how large sums get.
use Rattle.std.proofs.Common.{◌≡◌, ℕ, ◌+◌, ◌<◌, ◌≤◌, ◌^◌, ℤ, unsigned_abs, Bool, true, false}
use Rattle.std.proofs.Common.{◌&&◌, Option, List, [], ◌∷◌, ◌++◌, map, take, length, get_or}
use Rattle.std.proofs.Common.{refl, ap}
use Rattle.std.proofs.Common.{sym, subst, ◌∙◌, arith, append-nil, cond}
use Rattle.std.specs.List.{filter}
use Rattle.std.proofs.lemmas.Int.{ints}
use Rattle.std.proofs.lemmas.List.{map-append, take_more, length-map, length-take}
use Rattle.std.proofs.lemmas.List.Elements.{filter-append, All-weaker}
use Rattle.reg_base.specs.declared.records.Filter.{Filter}
use Rattle.reg_base.specs.declared.records.Rec.{Rec}
use Rattle.reg_base.specs.declared.records.SumRow.{SumRow}
use Rattle.reg_base.specs.Numbers.{largest_units}
use Rattle.reg_base.specs.Records.{Booked, matches, amount_at}
use Rattle.row_sums.specs.Sums.{booked, IsWithin, AreInReach, AreAmounts, Adds}
use Rattle.row_sums.proofs.ForAbove.{Adds-both, reach-more, within-sum_rows}
use Rattle.post_model.specs.Lefts.{is_expense}
use Rattle.post_rules.specs.Sheets.{HasNumbers, IsSheet}
use Rattle.post_rules.specs.Bounds.{own_expenses, AreRowsOfSheet}
use Rattle.post_rules.proofs.LeftLemmas.{length-filter_le, amount-within}

module _ (asked : Filter) (number : ℕ) where
  -- the expense that a record is, where it is one that is asked for
  abbrev part : Bool → Rec → List Booked
  part is_one r = cond is_one (booked number r ∷ []) []

  own-one : (r : Rec)
      → own_expenses asked number (r ∷ []) ≡ part (is_expense r.mark && matches asked r.values) r
  own-one r = at (is_expense r.mark) (matches asked r.values)
    where
      at : (spent wanted : Bool)
          → filter (λ (b : Booked). matches asked b.rec.values)
          (map (booked number) (cond spent (r ∷ []) [])) ≡ part (spent && matches asked r.values) r
      at true wanted = refl
      at false wanted = refl

  own-append : (xs ys : List Rec) → own_expenses asked number (xs ++ ys)
      ≡ own_expenses asked number xs ++ own_expenses asked number ys
  own-append xs ys =
      let spent : Rec → Bool = λ r. is_expense r.mark in
      let wanted : Booked → Bool = λ b. matches asked b.rec.values in
      ap (λ rs. filter wanted (map (booked number) rs)) (filter-append spent xs ys)
      ∙ ap (filter wanted) (map-append (booked number) (filter spent xs) (filter spent ys))
      ∙ filter-append wanted (map (booked number) (filter spent xs))
      (map (booked number) (filter spent ys))

  own-more : (recs : List Rec) (i : ℕ) (r : Rec) → i < length recs → r ≡ get_or recs i r
      → own_expenses asked number (take (i + 1) recs)
      ≡ own_expenses asked number (take i recs)
      ++ part (is_expense r.mark && matches asked r.values) r
  own-more recs i r below is =
      ap (own_expenses asked number) (take_more recs i r below
      ∙ ap (λ x. take i recs ++ x ∷ []) (sym is))
      ∙ own-append (take i recs) (r ∷ [])
      ∙ ap (λ t. own_expenses asked number (take i recs) ++ t) (own-one r)

  -- a record that is no such expense adds nothing
  pub adds-none : (by : Option (List ℕ)) (resources : ℕ) (old now : List SumRow) (recs : List Rec)
      (i : ℕ) (r : Rec) → i < length recs → r ≡ get_or recs i r
      → (is_expense r.mark && matches asked r.values) ≡ false
      → Adds by resources (own_expenses asked number (take i recs)) old now
      → Adds by resources (own_expenses asked number (take (i + 1) recs)) old now
  adds-none by resources old now recs i r below is none before =
      subst (λ bs. Adds by resources bs old now)
      (sym (own-more recs i r below is
      ∙ ap (λ b. own_expenses asked number (take i recs) ++ part b r) none
      ∙ append-nil (own_expenses asked number (take i recs)))) before

  -- an expense is added
  pub adds-one : (by : Option (List ℕ)) (resources : ℕ) (old now new : List SumRow)
      (recs : List Rec) (i : ℕ) (r : Rec) → i < length recs → r ≡ get_or recs i r
      → (is_expense r.mark && matches asked r.values) ≡ true
      → Adds by resources (own_expenses asked number (take i recs)) old now
      → Adds by resources (booked number r ∷ []) now new
      → Adds by resources (own_expenses asked number (take (i + 1) recs)) old new
  adds-one by resources old now new recs i r below is one before more =
      subst (λ bs. Adds by resources bs old new)
      (sym (own-more recs i r below is
      ∙ ap (λ b. own_expenses asked number (take i recs) ++ part b r) one))
      (Adds-both by resources (own_expenses asked number (take i recs)) (booked number r ∷ [])
      old now new before more)

  length-own : (recs : List Rec) → length (own_expenses asked number recs) ≤ length recs
  length-own recs =
      let spent : Rec → Bool = λ r. is_expense r.mark in
      omega (
        arith,
        length-filter_le (λ (b : Booked). matches asked b.rec.values)
            (map (booked number) (filter spent recs)),
        length-map (filter spent recs) (booked number),
        length-filter_le spent recs,
      )

reach-one : (n : ℤ) → unsigned_abs n ≤ largest_units → IsWithin (2 ^ 63) n
reach-one n small = (omega (arith, ints, small), omega (arith, ints, small))

amounts-sheet : (bs : List Booked) → IsSheet bs → AreAmounts (2 ^ 63) bs
amounts-sheet bs sheet =
    All-weaker (λ (b : Booked). HasNumbers b.rec)
    (λ (b : Booked). (resource : ℕ) → IsWithin (2 ^ 63) (amount_at resource b.rec))
    (λ b has resource. reach-one (amount_at resource b.rec) (amount-within resource b.rec has))
    bs sheet.small

-- sums that begin with the rows of a sheet stay in reach while a document's expenses are added
pub own-reach : (asked : Filter) (number : ℕ) (by : Option (List ℕ)) (resources : ℕ)
    (rows old now : List SumRow) (recs : List Rec) (i : ℕ) → AreRowsOfSheet by resources rows
    → old ≡ rows → length recs ≤ 5_000
    → Adds by resources (own_expenses asked number (take i recs)) old now
    → AreInReach (2 ^ 46) now
own-reach asked number by resources rows old now recs i sheet begun few adds =
    let count : ℕ = length sheet.records in
    let own : List Booked = own_expenses asked number (take i recs) in
    let first : AreInReach count old =
    subst (AreInReach count) (sym (begun ∙ sheet.same))
    (within-sum_rows (2 ^ 63) resources by sheet.records
    (amounts-sheet sheet.records sheet.sheet)) in
    reach-more (count + length own) (2 ^ 46)
    (omega (arith, sheet.sheet.few, length-own asked number (take i recs), length-take i recs, few))
    now (adds.reach count first)
