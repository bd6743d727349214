-- The orders of units and of rows are total and tell everything apart.
use Rattle.std.proofs.Common.{◌≡◌, ℕ, refl, ap, subst}
use Rattle.std.specs.Cmp.{IsTotalOrder, nat_cmp_total, on_total, then_total}
use Rattle.std.proofs.lemmas.Map.Lookups.{CmpEqualImpliesEq, exact_unsigned}
use Rattle.std.specs.Ordering.{nat_cmp, ordering_then, on, then_cmp}
use Rattle.std.specs.declared.cmp.Ordering.{Ordering}
use Rattle.std.specs.declared.cmp.Ordering.TheVariants.{Less, Equal, Greater}
use Rattle.reg_base.specs.declared.point.Point.{Point}
use Rattle.reg_base.specs.declared.tables.Unit.{Unit as TableUnit}
use Rattle.reg_base.specs.declared.tables.Unit.TheVariants.{Whole, Start, At, Line}
use Rattle.reg_base.specs.contracts.tables.UnitOrd.TheImpl.{ghosts}
use Rattle.reg_base.specs.Points.{point_cmp}
use Rattle.reg_base.specs.Records.{values_cmp}
use Rattle.reg_base.specs.Turnovers.{RowKey, unit_cmp, key_cmp}
use Rattle.reg_base.proofs.OrderLemmas.{point_cmp_total, point_cmp_exact, values_cmp_total}
use Rattle.reg_base.proofs.OrderLemmas.{values_cmp_exact, then-Equal}

-- the order that the code derives is the order of units
pub derived-unit_cmp : (x y : TableUnit) → ghosts.cmp x y ≡ unit_cmp x y
derived-unit_cmp Whole Whole = refl
derived-unit_cmp Whole (Start e) = refl
derived-unit_cmp Whole (At q) = refl
derived-unit_cmp Whole (Line q m) = refl
derived-unit_cmp (Start d) Whole = refl
derived-unit_cmp (Start d) (Start e) = refl
derived-unit_cmp (Start d) (At q) = refl
derived-unit_cmp (Start d) (Line q m) = refl
derived-unit_cmp (At p) Whole = refl
derived-unit_cmp (At p) (Start e) = refl
derived-unit_cmp (At p) (At q) = refl
derived-unit_cmp (At p) (Line q m) = refl
derived-unit_cmp (Line p l) Whole = refl
derived-unit_cmp (Line p l) (Start e) = refl
derived-unit_cmp (Line p l) (At q) = refl
derived-unit_cmp (Line p l) (Line q m) = refl

-- the sort of a unit, and its date, point and line where it has them
sort_of : TableUnit → ℕ
sort_of Whole = 0
sort_of (Start d) = 1
sort_of (At p) = 2
sort_of (Line p l) = 3

start_of : TableUnit → ℕ
start_of Whole = 0
start_of (Start d) = d
start_of (At p) = 0
start_of (Line p l) = 0

place_of : TableUnit → Point
place_of Whole = record { date = 0; doc = 0 }
place_of (Start d) = record { date = 0; doc = 0 }
place_of (At p) = p
place_of (Line p l) = p

line_of : TableUnit → ℕ
line_of Whole = 0
line_of (Start d) = 0
line_of (At p) = 0
line_of (Line p l) = l

-- units compared by sort, then date, point and line
abbrev by_parts : TableUnit → TableUnit → Ordering
by_parts =
    then_cmp (on sort_of nat_cmp)
    (then_cmp (on start_of nat_cmp) (then_cmp (on place_of point_cmp) (on line_of nat_cmp)))

pub then-nothing : (r : Ordering) → ordering_then r Equal ≡ r
then-nothing Less = refl
then-nothing Equal = refl
then-nothing Greater = refl

unit_cmp-parts : (x y : TableUnit) → by_parts x y ≡ unit_cmp x y
unfolding sort_of start_of place_of line_of
unit_cmp-parts Whole Whole = refl
unit_cmp-parts Whole (Start e) = refl
unit_cmp-parts Whole (At q) = refl
unit_cmp-parts Whole (Line q m) = refl
unit_cmp-parts (Start d) Whole = refl
unit_cmp-parts (Start d) (Start e) = then-nothing (nat_cmp d e)
unit_cmp-parts (Start d) (At q) = refl
unit_cmp-parts (Start d) (Line q m) = refl
unit_cmp-parts (At p) Whole = refl
unit_cmp-parts (At p) (Start e) = refl
unit_cmp-parts (At p) (At q) = then-nothing (point_cmp p q)
unit_cmp-parts (At p) (Line q m) = refl
unit_cmp-parts (Line p l) Whole = refl
unit_cmp-parts (Line p l) (Start e) = refl
unit_cmp-parts (Line p l) (At q) = refl
unit_cmp-parts (Line p l) (Line q m) = refl

pub unit_cmp_total : IsTotalOrder unit_cmp
unit_cmp_total =
    subst (λ (R : TableUnit → TableUnit → Ordering). IsTotalOrder R)
    (λ i. λ x y. unit_cmp-parts x y i)
    (then_total (on_total sort_of nat_cmp_total)
    (then_total (on_total start_of nat_cmp_total)
    (then_total (on_total place_of point_cmp_total) (on_total line_of nat_cmp_total))))

pub unit_cmp_exact : CmpEqualImpliesEq unit_cmp
unit_cmp_exact Whole Whole h = refl
unit_cmp_exact Whole (Start e) h = cc
unit_cmp_exact Whole (At q) h = cc
unit_cmp_exact Whole (Line q m) h = cc
unit_cmp_exact (Start d) Whole h = cc
unit_cmp_exact (Start d) (Start e) h = ap Start (exact_unsigned d e h)
unit_cmp_exact (Start d) (At q) h = cc
unit_cmp_exact (Start d) (Line q m) h = cc
unit_cmp_exact (At p) Whole h = cc
unit_cmp_exact (At p) (Start e) h = cc
unit_cmp_exact (At p) (At q) h = ap At (point_cmp_exact p q h)
unit_cmp_exact (At p) (Line q m) h = cc
unit_cmp_exact (Line p l) Whole h = cc
unit_cmp_exact (Line p l) (Start e) h = cc
unit_cmp_exact (Line p l) (At q) h = cc
unit_cmp_exact (Line p l) (Line q m) h =
    let parts = then-Equal (point_cmp p q) (nat_cmp l m) h in
    let point = point_cmp_exact p q parts.0 in
    let line = exact_unsigned l m parts.1 in
    λ i. Line (point i) (line i)

pub key_cmp_total : IsTotalOrder key_cmp
key_cmp_total =
    then_total (on_total (λ (k : RowKey). k.group) values_cmp_total)
    (on_total (λ (k : RowKey). k.unit) unit_cmp_total)

pub key_cmp_exact : CmpEqualImpliesEq key_cmp
key_cmp_exact x y h =
    let parts = then-Equal (values_cmp x.group y.group) (unit_cmp x.unit y.unit) h in
    let group = values_cmp_exact x.group y.group parts.0 in
    let unit = unit_cmp_exact x.unit y.unit parts.1 in
    λ i. record { group = group i; unit = unit i }
