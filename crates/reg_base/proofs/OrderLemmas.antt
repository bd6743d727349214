-- The orders of points, values and lists of values are total and tell everything apart.
use Rattle.std.proofs.Common.{◌≡◌, ℕ, [], ◌∷◌, refl, ap, ◌∙◌}
use Rattle.std.specs.Cmp.{IsTotalOrder, nat_cmp_total, on_total, then_total}
use Rattle.std.specs.Cmp.Lexicographic.{slice_cmp, nat_list_cmp_total}
use Rattle.std.proofs.lemmas.Cmp.{lists_total}
use Rattle.std.proofs.lemmas.Map.Lookups.{CmpEqualImpliesEq, exact_bytes, exact_unsigned}
use Rattle.std.specs.Ordering.{nat_cmp, ordering_then, ordering_reverse}
use Rattle.std.specs.declared.cmp.Ordering.{Ordering}
use Rattle.std.specs.declared.cmp.Ordering.TheVariants.{Less, Equal, Greater}
use Rattle.reg_base.specs.declared.point.Point.{Point}
use Rattle.reg_base.specs.declared.value.Value.{Value}
use Rattle.reg_base.specs.declared.value.Value.TheVariants.{Code, Lot}
use Rattle.reg_base.specs.contracts.value.ValueOrd.TheImpl.{ghosts}
use Rattle.reg_base.specs.Points.{point_cmp}
use Rattle.reg_base.specs.Records.{value_cmp, values_cmp}

-- the order that the code derives is the order of values
pub derived-value_cmp : (x y : Value) → ghosts.cmp x y ≡ value_cmp x y
derived-value_cmp (Code a) (Code b) = refl
derived-value_cmp (Code a) (Lot q) = refl
derived-value_cmp (Lot p) (Code b) = refl
derived-value_cmp (Lot p) (Lot q) = refl

pub point_cmp_total : IsTotalOrder point_cmp
point_cmp_total =
    then_total (on_total (λ (p : Point). p.date) nat_cmp_total)
    (on_total (λ (p : Point). p.doc) nat_cmp_total)

pub then-Equal : (a b : Ordering) → ordering_then a b ≡ Equal → (a ≡ Equal) × (b ≡ Equal)
then-Equal Less b h = (cc, cc)
then-Equal Equal b h = (refl, h)
then-Equal Greater b h = (cc, cc)

pub point_cmp_exact : CmpEqualImpliesEq point_cmp
point_cmp_exact p q h =
    let parts = then-Equal (nat_cmp p.date q.date) (nat_cmp p.doc q.doc) h in
    ap (λ d. point_at d p.doc) (exact_unsigned _ _ parts.0)
    ∙ ap (point_at q.date) (exact_unsigned _ _ parts.1)
  where
    point_at : ℕ → ℕ → Point
    point_at date doc = record { date = date; doc = doc }

pub value_cmp_total : IsTotalOrder value_cmp
value_cmp_total = record {
  antisymm = antisymm;
  trans = trans;
  congr = congr;
}
  where
    antisymm : (x y : Value) → value_cmp x y ≡ ordering_reverse (value_cmp y x)
    antisymm (Code a) (Code b) = nat_list_cmp_total.antisymm a b
    antisymm (Code a) (Lot q) = refl
    antisymm (Lot p) (Code b) = refl
    antisymm (Lot p) (Lot q) = point_cmp_total.antisymm p q

    trans : (x y z : Value) → value_cmp x y ≡ Less → value_cmp y z ≡ Less → value_cmp x z ≡ Less
    trans (Code a) (Code b) (Code c) h g = nat_list_cmp_total.trans a b c h g
    trans (Code a) (Code b) (Lot r) h g = refl
    trans (Code a) (Lot q) (Code c) h g = cc
    trans (Code a) (Lot q) (Lot r) h g = refl
    trans (Lot p) (Code b) z h g = cc
    trans (Lot p) (Lot q) (Code c) h g = cc
    trans (Lot p) (Lot q) (Lot r) h g = point_cmp_total.trans p q r h g

    congr : (x y z : Value) → value_cmp x y ≡ Equal → value_cmp x z ≡ value_cmp y z
    congr (Code a) (Code b) (Code c) h = nat_list_cmp_total.congr a b c h
    congr (Code a) (Code b) (Lot r) h = refl
    congr (Code a) (Lot q) z h = cc
    congr (Lot p) (Code b) z h = cc
    congr (Lot p) (Lot q) (Code c) h = refl
    congr (Lot p) (Lot q) (Lot r) h = point_cmp_total.congr p q r h

pub value_cmp_exact : CmpEqualImpliesEq value_cmp
value_cmp_exact (Code a) (Code b) h = ap Code (exact_bytes a b h)
value_cmp_exact (Code a) (Lot q) h = cc
value_cmp_exact (Lot p) (Code b) h = cc
value_cmp_exact (Lot p) (Lot q) h = ap Lot (point_cmp_exact p q h)

pub values_cmp_total : IsTotalOrder values_cmp
values_cmp_total = lists_total value_cmp_total

-- an order that tells elements apart tells lists apart
exact_lists : {X : Type 0} (R : X → X → Ordering) → CmpEqualImpliesEq R
    → CmpEqualImpliesEq (slice_cmp R)
exact_lists R exact [] [] h = refl
exact_lists R exact [] (y ∷ ys) h = cc
exact_lists R exact (x ∷ xs) [] h = cc
exact_lists R exact (x ∷ xs) (y ∷ ys) h =
    let parts = then-Equal (R x y) (slice_cmp R xs ys) h in
    let first = exact x y parts.0 in
    let others = exact_lists R exact xs ys parts.1 in
    cc

pub values_cmp_exact : CmpEqualImpliesEq values_cmp
values_cmp_exact = exact_lists value_cmp value_cmp_exact
