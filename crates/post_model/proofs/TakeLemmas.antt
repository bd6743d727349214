-- What a write-off takes.
use Rattle.std.proofs.Common.{◌≡◌, ◌≢◌, ℤ, pos, ◌+ℤ◌, ◌-ℤ◌, ◌≤ℤ◌, int_lt, int_le, int_eq}
use Rattle.std.proofs.Common.{Bool, true, false, cond, if◌then◌else◌, Option, List, [], ◌∷◌}
use Rattle.std.proofs.Common.{Ok, IfOk, refl, ◌∙◌, arith}
use Rattle.std.specs.Int.{int_min}
use Rattle.std.specs.List.{All, Contains}
use Rattle.std.proofs.lemmas.Int.{ints, clamps}
use Rattle.std.proofs.lemmas.List.Elements.{All-nil, All-cons, All-weaker, Contains-get_or}
use Rattle.std.proofs.lemmas.List.Elements.{Contains-append_right}
use Rattle.reg_base.specs.Shares.{share}
use Rattle.reg_base.specs.declared.fault.PostFault.TheVariants.{Shortage, Negative}
use Rattle.reg_base.specs.declared.value.Value.{Value}
use Rattle.post_model.specs.Scenes.{Scene}
use Rattle.post_model.specs.WriteOffs.{in_stock, all_in_stock, taken_from, with_taken, taken}
use Rattle.post_model.specs.WriteOffs.{write_off}
use Rattle.post_model.specs.Laws.{quantity_of, same_lot, of_lot, IsPartOf, AreTakenFrom}
use Rattle.post_model.specs.declared.holding.Holding.{Holding}
use Rattle.reg_base.proofs.ForAbove.{IfOk-unless}

in_stock-least : (h : Holding) → pos 0 ≤ℤ in_stock h
in_stock-least h = omega (arith, ints, clamps)

all_in_stock-least : (hs : List Holding) → pos 0 ≤ℤ all_in_stock hs
unfolding all_in_stock
all_in_stock-least [] = omega (arith, ints)
all_in_stock-least (h ∷ hs) =
    let first = in_stock-least h in
    let others = all_in_stock-least hs in omega (arith, ints)

-- the lesser of what is wanted and what is there
module _ (wanted stock : ℤ) (some : pos 0 ≤ℤ wanted) (least : pos 0 ≤ℤ stock) where
  part-least : pos 0 ≤ℤ int_min wanted stock
  part-least = omega (arith, ints, clamps)

  part-stock : int_min wanted stock ≤ℤ stock
  part-stock = omega (arith, ints, clamps)

  rest-least : pos 0 ≤ℤ (wanted -ℤ int_min wanted stock)
  rest-least = omega (arith, ints, clamps)

  rest-within : (more : ℤ) → pos 0 ≤ℤ more → wanted ≤ℤ (stock +ℤ more)
      → (wanted -ℤ int_min wanted stock) ≤ℤ more
  rest-within more least_more enough = omega (arith, ints, clamps)

-- ---- in all as much as was wanted

module _ (part : ℤ) (h : Holding) (more : List Holding) (least : pos 0 ≤ℤ part) where
  with_taken-quantity : quantity_of (with_taken part h more) ≡ part +ℤ quantity_of more
  unfolding quantity_of
  with_taken-quantity = at (int_lt (pos 0) part) refl
    where
      at : (some : Bool) → int_lt (pos 0) part ≡ some
          → quantity_of (cond some (taken_from part h ∷ more) more) ≡ part +ℤ quantity_of more
      at true is = refl
      at false is = grind (arith, ints)

taken-quantity : (wanted : ℤ) (hs : List Holding) → pos 0 ≤ℤ wanted → wanted ≤ℤ all_in_stock hs
    → quantity_of (taken wanted hs) ≡ wanted
unfolding taken all_in_stock quantity_of
taken-quantity wanted [] some enough = omega (arith, ints)
taken-quantity wanted (h ∷ hs) some enough =
    let least = in_stock-least h in
    let others = all_in_stock-least hs in
    let rest_is = taken-quantity (wanted -ℤ int_min wanted (in_stock h)) hs
    (rest-least wanted (in_stock h) some least)
    (rest-within wanted (in_stock h) some least (all_in_stock hs) others enough) in
    with_taken-quantity (int_min wanted (in_stock h)) h _
    (part-least wanted (in_stock h) some least)
    ∙ adds_up wanted (int_min wanted (in_stock h)) _ rest_is
  where
    adds_up : (w part rest : ℤ) → rest ≡ w -ℤ part → (part +ℤ rest) ≡ w
    adds_up w part rest is = omega (arith, ints)

-- ---- of each lot not more than there is

module _ (lot : Option Value) where
  of_lot-taken : (part : ℤ) (h : Holding) (more hs : List Holding) → pos 0 ≤ℤ part
      → part ≤ℤ in_stock h
      → quantity_of (of_lot lot more) ≤ℤ all_in_stock (of_lot lot hs)
      → quantity_of (of_lot lot (with_taken part h more)) ≤ℤ all_in_stock (of_lot lot (h ∷ hs))
  unfolding quantity_of all_in_stock
  of_lot-taken part h more hs least within rest = at (int_lt (pos 0) part)
    where
      -- where it is of the lot, and where it is not
      something : (same : Bool)
          → quantity_of (cond same (taken_from part h ∷ of_lot lot more) (of_lot lot more))
          ≤ℤ all_in_stock (cond same (h ∷ of_lot lot hs) (of_lot lot hs))
      something true = omega (arith, ints)
      something false = rest

      nothing : (same : Bool)
          → quantity_of (of_lot lot more)
          ≤ℤ all_in_stock (cond same (h ∷ of_lot lot hs) (of_lot lot hs))
      nothing true = omega (arith, ints)
      nothing false = rest

      at : (some : Bool) → quantity_of (of_lot lot (cond some (taken_from part h ∷ more) more))
          ≤ℤ all_in_stock (of_lot lot (h ∷ hs))
      at true = something (same_lot lot h.lot)
      at false = nothing (same_lot lot h.lot)

  taken-lots : (wanted : ℤ) (hs : List Holding) → pos 0 ≤ℤ wanted
      → quantity_of (of_lot lot (taken wanted hs)) ≤ℤ all_in_stock (of_lot lot hs)
  unfolding taken quantity_of all_in_stock
  taken-lots wanted [] some = omega (arith, ints)
  taken-lots wanted (h ∷ hs) some =
      let least = in_stock-least h in
      of_lot-taken (int_min wanted (in_stock h)) h _ hs
      (part-least wanted (in_stock h) some least) (part-stock wanted (in_stock h) some least)
      (taken-lots (wanted -ℤ int_min wanted (in_stock h)) hs
      (rest-least wanted (in_stock h) some least))

-- ---- each part from one of the holdings

-- a part of one of them
abbrev IsPartOfOne : List Holding → Holding → Type 0
IsPartOfOne hs t = (h : Holding) × Contains hs h × IsPartOf h t

taken_from-part : (part : ℤ) (h : Holding) → int_lt (pos 0) part ≡ true → part ≤ℤ in_stock h
    → IsPartOf h (taken_from part h)
taken_from-part part h some within = record {
  lot = refl;
  some = grind (arith, ints);
  within = within_quantity;
  whole = λ same. whole same;
  share_of = λ differs. less differs;
}
  where
    within_quantity : part ≤ℤ h.quantity
    within_quantity = grind (arith, ints, clamps)

    whole : part ≡ h.quantity
        → (if int_eq part h.quantity then h.amount else share h.amount part h.quantity) ≡ h.amount
    whole same = grind (arith, ints)

    less : part ≢ h.quantity
        → (if int_eq part h.quantity then h.amount else share h.amount part h.quantity)
        ≡ share h.amount part h.quantity
    less differs = grind (arith, ints)

-- a part of one of the others
of_others : (h : Holding) (hs : List Holding) (t : Holding) → IsPartOfOne hs t
    → IsPartOfOne (h ∷ hs) t
of_others h hs t is = (is.0, Contains-append_right (h ∷ []) hs is.0 is.1, is.2)

-- what is taken of one, in front of what is taken of the others
module _ (part : ℤ) (h : Holding) (hs more : List Holding) (within : part ≤ℤ in_stock h)
    (others : All (IsPartOfOne (h ∷ hs)) more) where
  with_taken-parts : All (IsPartOfOne (h ∷ hs)) (with_taken part h more)
  with_taken-parts = at (int_lt (pos 0) part) refl
    where
      at : (some : Bool) → int_lt (pos 0) part ≡ some
          → All (IsPartOfOne (h ∷ hs)) (cond some (taken_from part h ∷ more) more)
      at true is =
          All-cons (IsPartOfOne (h ∷ hs)) (taken_from part h) more
          (h, Contains-get_or (h ∷ hs) 0 h (omega arith), taken_from-part part h is within) others
      at false is = others

taken-parts : (wanted : ℤ) (hs : List Holding) → pos 0 ≤ℤ wanted
    → All (IsPartOfOne hs) (taken wanted hs)
unfolding taken
taken-parts wanted [] some = All-nil (IsPartOfOne [])
taken-parts wanted (h ∷ hs) some =
    let least = in_stock-least h in
    let rest = wanted -ℤ int_min wanted (in_stock h) in
    with_taken-parts (int_min wanted (in_stock h)) h hs (taken rest hs)
    (part-stock wanted (in_stock h) some least)
    (All-weaker (IsPartOfOne hs) (IsPartOfOne (h ∷ hs)) (of_others h hs) (taken rest hs)
    (taken-parts rest hs (rest-least wanted (in_stock h) some least)))

-- ---- a write-off

pub write_off-takes : (scene : Scene) (wanted : ℤ) (holdings : List Holding)
    → IfOk (write_off scene wanted holdings) (AreTakenFrom holdings wanted)
unfolding write_off
write_off-takes scene wanted holdings =
    IfOk-unless (AreTakenFrom holdings wanted) (int_le (pos 0) wanted)
    (Negative scene.rule scene.line) _ (λ some.
    IfOk-unless (AreTakenFrom holdings wanted) (int_le wanted (all_in_stock holdings))
    (Shortage scene.rule scene.line (wanted -ℤ all_in_stock holdings))
    (λ _. Ok (taken wanted holdings)) (λ enough. record {
      adds_up = taken-quantity wanted holdings (above some) (up_to enough);
      lots = λ lot. taken-lots lot wanted holdings (above some);
      parts = taken-parts wanted holdings (above some);
    }))
  where
    above : int_le (pos 0) wanted ≡ true → pos 0 ≤ℤ wanted
    above is = grind (arith, ints)

    up_to : int_le wanted (all_in_stock holdings) ≡ true → wanted ≤ℤ all_in_stock holdings
    up_to is = grind (arith, ints)
