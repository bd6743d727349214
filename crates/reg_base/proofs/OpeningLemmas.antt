-- The opening of a row is the balance before the range and what the lower units of the range moved.
use Rattle.std.proofs.Common.{◌≡◌, ℕ, ℤ, pos, ◌+ℤ◌, ◌<◌, ◌≤◌, Bool, true, false, cond, ◌&&◌, ◌||◌}
use Rattle.std.proofs.Common.{nat_lt, nat_le, max, inl, inr, Option, List, refl, ap, ◌∙◌}
use Rattle.std.proofs.Common.{sym, arith}
use Rattle.std.specs.List.{filter}
use Rattle.std.specs.Ordering.{ordering_then, is_lt, nat_cmp}
use Rattle.std.specs.declared.cmp.Ordering.{Ordering}
use Rattle.std.specs.declared.cmp.Ordering.TheVariants.{Less, Equal, Greater}
use Rattle.std.proofs.lemmas.Bool.{cases_lt}
use Rattle.std.proofs.lemmas.Bool.Decides.{nat_tests}
use Rattle.std.proofs.lemmas.Int.{ints}
use Rattle.reg_base.specs.declared.value.Value.{Value}
use Rattle.reg_base.specs.declared.cut.Cut.TheVariants.{BeforeDate}
use Rattle.reg_base.specs.declared.tables.Periodicity.{Periodicity}
use Rattle.reg_base.specs.declared.tables.Periodicity.TheVariants.{Period, Record, Recorder, Day}
use Rattle.reg_base.specs.declared.tables.Periodicity.TheVariants.{Week, TenDays, Month, Quarter}
use Rattle.reg_base.specs.declared.tables.Periodicity.TheVariants.{HalfYear, Year}
use Rattle.reg_base.specs.declared.tables.Unit.{Unit as TableUnit}
use Rattle.reg_base.specs.declared.tables.Unit.TheVariants.{Whole, Start, At, Line}
use Rattle.reg_base.specs.declared.tables.Range.{Range}
use Rattle.reg_base.specs.Cuts.{inside}
use Rattle.reg_base.specs.Records.{Booked, point_of, records_within}
use Rattle.reg_base.specs.Balances.{contribution, total}
use Rattle.reg_base.specs.Sums.{sum_over}
use Rattle.reg_base.specs.Units.{unit_start, are_dates}
use Rattle.reg_base.specs.Turnovers.{unit_cmp, unit_of_date, unit_of, in_range, before_unit}
use Rattle.reg_base.specs.TableLaws.{is_before, is_in, are_periods, SplitsRange}
use Rattle.reg_base.proofs.SumLemmas.{sum_over-passed, sum_over-plus, sum_over-same}
use Rattle.reg_base.proofs.TableOrder.{total-sum_over}
use Rattle.reg_base.proofs.UnitLaws.{unit_start-is, unit_start-le, unit_start-lt}

pub before_unit-filter : (range : Range) (unit : TableUnit) (bs : List Booked)
    → before_unit range unit bs ≡ filter (is_before range unit) bs
before_unit-filter range Whole bs = refl
before_unit-filter range (Start d) bs = refl
before_unit-filter range (At p) bs = refl
before_unit-filter range (Line p l) bs = refl

nothing_lower : (a b : Bool) → a ≡ (a || (b && false))
nothing_lower true b = refl
nothing_lower false true = refl
nothing_lower false false = refl

-- the same over plain numbers, for starts: the record's date p, its unit's start u, and the start d
start_lower : (p from to u d : ℕ) → d ≤ to → (u < d → p < d) → (p < d → u < d)
    → nat_lt p (max from d)
    ≡ (nat_lt p from || ((nat_le from p && nat_le p to) && is_lt (nat_cmp u d)))
start_lower p from to u d last there back =
    elim (cases_lt p from) [
      | inl before ↦ grind (arith, nat_tests)
      | inr inside ↦ elim (cases_lt p d) [
        | inl lt ↦ let lower = back lt in grind (arith, nat_tests)
        | inr ge ↦
            let above : d ≤ u = elim (cases_lt u d) [
              | inl lower ↦ absurd (omega (arith, there lower))
              | inr le ↦ le
            ] in
            grind (arith, nat_tests)
      ]
    ]

-- for points: the date p of the record, the date q of the unit, and how what is behind compares
point_lower : (p from to q : ℕ) (r : Ordering) → from ≤ q → q ≤ to
    → is_lt (ordering_then (nat_cmp p q) r)
    ≡ (nat_lt p from || ((nat_le from p && nat_le p to) && is_lt (ordering_then (nat_cmp p q) r)))
point_lower p from to q r first last =
    elim (cases_lt p from) [
      | inl before ↦ grind (arith, nat_tests)
      | inr inside ↦ elim (cases_lt to p) [
        | inl behind ↦ grind (arith, nat_tests)
        | inr within ↦ grind (arith, nat_tests)
      ]
    ]

then-then : (a b c : Ordering)
    → ordering_then (ordering_then a b) c ≡ ordering_then a (ordering_then b c)
then-then Less b c = refl
then-then Equal b c = refl
then-then Greater b c = refl

module _ (range : Range) (date : ℕ) (first : range.from ≤ date) (last : date ≤ range.to)
    (b : Booked) where
  -- the unit of a date of the range, where units are dates
  start-is_lower : (by : Periodicity) → are_dates by ≡ true
      → nat_lt b.rec.period (max range.from (unit_start by date))
      ≡ (nat_lt b.rec.period range.from || (is_in range b
      && is_lt (nat_cmp (unit_start by b.rec.period) (unit_start by date))))
  start-is_lower by dates =
      let is = unit_start-is by date dates in
      let lt = unit_start-lt by b.rec.period (unit_start by date) is.is_start in
      start_lower b.rec.period range.from range.to (unit_start by b.rec.period)
      (unit_start by date) (omega (arith, unit_start-le by date)) lt.0 lt.1

-- the same for units of one periodicity
abbrev is_lower_by : Periodicity → Range → TableUnit → Booked → Bool
is_lower_by by range unit b =
    nat_lt b.rec.period range.from || (is_in range b && is_lt (unit_cmp (unit_of by b) unit))

date_lower : (range : Range) (date : ℕ) → range.from ≤ date → date ≤ range.to → (b : Booked)
    (by : Periodicity) → are_periods by ≡ true
    → is_before range (unit_of_date by date) b ≡ is_lower_by by range (unit_of_date by date) b
date_lower range date first last b Period periods =
    nothing_lower (nat_lt b.rec.period range.from) (is_in range b)
date_lower range date first last b Record periods = cc
date_lower range date first last b Recorder periods = cc
date_lower range date first last b Day periods = start-is_lower range date first last b Day refl
date_lower range date first last b Week periods = start-is_lower range date first last b Week refl
date_lower range date first last b TenDays periods =
    start-is_lower range date first last b TenDays refl
date_lower range date first last b Month periods = start-is_lower range date first last b Month refl
date_lower range date first last b Quarter periods =
    start-is_lower range date first last b Quarter refl
date_lower range date first last b HalfYear periods =
    start-is_lower range date first last b HalfYear refl
date_lower range date first last b Year periods = start-is_lower range date first last b Year refl

record_lower : (range : Range) (c : Booked) → range.from ≤ c.rec.period → c.rec.period ≤ range.to
    → (b : Booked) (by : Periodicity)
    → is_before range (unit_of by c) b ≡ is_lower_by by range (unit_of by c) b
record_lower range c first last b Period = date_lower range c.rec.period first last b Period refl
record_lower range c first last b Record =
    let date = nat_cmp b.rec.period c.rec.period in
    let doc = nat_cmp b.recorder c.recorder in
    let line = nat_cmp b.rec.line c.rec.line in
    ap is_lt (then-then date doc line)
    ∙ point_lower b.rec.period range.from range.to c.rec.period (ordering_then doc line) first last
    ∙ ap (λ (o : Ordering). nat_lt b.rec.period range.from || (is_in range b && is_lt o))
    (sym (then-then date doc line))
record_lower range c first last b Recorder =
    point_lower b.rec.period range.from range.to c.rec.period (nat_cmp b.recorder c.recorder) first
    last
record_lower range c first last b Day = date_lower range c.rec.period first last b Day refl
record_lower range c first last b Week = date_lower range c.rec.period first last b Week refl
record_lower range c first last b TenDays = date_lower range c.rec.period first last b TenDays refl
record_lower range c first last b Month = date_lower range c.rec.period first last b Month refl
record_lower range c first last b Quarter = date_lower range c.rec.period first last b Quarter refl
record_lower range c first last b HalfYear =
    date_lower range c.rec.period first last b HalfYear refl
record_lower range c first last b Year = date_lower range c.rec.period first last b Year refl

-- the unit of a date of the range, and that of a record of the range
pub SplitsRange-date : (range : Range) (date : ℕ) → range.from ≤ date → date ≤ range.to
    → are_periods range.by ≡ true → SplitsRange range (unit_of_date range.by date)
SplitsRange-date range date first last periods b =
    date_lower range date first last b range.by periods

pub SplitsRange-record : (range : Range) (c : Booked) → range.from ≤ c.rec.period
    → c.rec.period ≤ range.to → SplitsRange range (unit_of range.by c)
SplitsRange-record range c first last b = record_lower range c first last b range.by

-- ---- sums

apart : (a i l : Bool) (x : ℤ) → (a ≡ true → i ≡ false)
    → cond (a || (i && l)) x (pos 0) ≡ cond a x (pos 0) +ℤ cond i (cond l x (pos 0)) (pos 0)
apart true true l x never = let no : true ≡ false = never refl in cc
apart true false l x never = omega (arith, ints)
apart false true l x never = omega (arith, ints)
apart false false l x never = refl

not_in : (range : Range) (b : Booked) → nat_lt b.rec.period range.from ≡ true
    → is_in range b ≡ false
not_in range b before = grind (arith, nat_tests)

-- the sum over the records before a unit is that before the range, and that of the lower units
pub sum_over-before : (range : Range) (unit : TableUnit) → SplitsRange range unit
    → (f : Booked → ℤ) (bs : List Booked)
    → sum_over f (before_unit range unit bs)
    ≡ sum_over f (records_within (BeforeDate range.from) bs)
    +ℤ sum_over (λ b. cond (is_lt (unit_cmp (unit_of range.by b) unit)) (f b) (pos 0))
    (in_range range bs)
sum_over-before range unit splits f bs =
    let early = λ (b : Booked). cond (nat_lt b.rec.period range.from) (f b) (pos 0) in
    let lower = λ (b : Booked).
    cond (is_lt (unit_cmp (unit_of range.by b) unit)) (f b) (pos 0) in
    let inside_it = λ (b : Booked). cond (is_in range b) (lower b) (pos 0) in
    ap (sum_over f) (before_unit-filter range unit bs)
    ∙ sum_over-passed f (is_before range unit) bs
    ∙ sum_over-same (λ b. cond (is_before range unit b) (f b) (pos 0))
    (λ b. early b +ℤ inside_it b)
    (λ b. ap (λ t. cond t (f b) (pos 0)) (splits b)
    ∙ apart (nat_lt b.rec.period range.from) (is_in range b)
    (is_lt (unit_cmp (unit_of range.by b) unit)) (f b) (not_in range b))
    bs
    ∙ sum_over-plus early inside_it bs
    ∙ ap (λ t. t +ℤ sum_over inside_it bs)
    (sym (sum_over-passed f (λ b. inside (BeforeDate range.from) (point_of b)) bs))
    ∙ ap (λ t. sum_over f (records_within (BeforeDate range.from) bs) +ℤ t)
    (sym (sum_over-passed lower (is_in range) bs))

-- the opening of a group
pub total-before : (range : Range) (unit : TableUnit) → SplitsRange range unit
    → (by : Option (List ℕ)) (group : List Value) (j : ℕ) (bs : List Booked)
    → total by group (before_unit range unit bs) j
    ≡ total by group (records_within (BeforeDate range.from) bs) j
    +ℤ sum_over (λ b. cond (is_lt (unit_cmp (unit_of range.by b) unit))
    (contribution by group j b) (pos 0)) (in_range range bs)
total-before range unit splits by group j bs =
    total-sum_over by group (before_unit range unit bs) j
    ∙ sum_over-before range unit splits (contribution by group j) bs
    ∙ ap (λ t. t +ℤ sum_over (λ b. cond (is_lt (unit_cmp (unit_of range.by b) unit))
    (contribution by group j b) (pos 0)) (in_range range bs))
    (sym (total-sum_over by group (records_within (BeforeDate range.from) bs) j))
