-- Each row of balances with turnovers opens with the balance before the range and lower units.
use Rattle.std.proofs.Common.{◌≡◌, ℕ, ℤ, pos, ◌+ℤ◌, ◌≤◌, Bool, true, false, cond, ◌&&◌, nat_le}
use Rattle.std.proofs.Common.{Option, List, [], ◌∷◌, ◌++◌, map, refl, ap, sym, ◌∙◌, arith}
use Rattle.std.specs.List.{flat_map, range_with_len, All, AllByRecursion}
use Rattle.std.specs.Ordering.{is_eq, is_lt}
use Rattle.std.specs.declared.cmp.Ordering.{Ordering}
use Rattle.std.specs.Cmp.{IsTotalOrder}
use Rattle.std.proofs.lemmas.Map.Lookups.{CmpEqualImpliesEq}
use Rattle.std.proofs.lemmas.Bool.{and_parts, leb-true}
use Rattle.std.proofs.lemmas.List.Elements.{All-filter, All-map, All-from_recursion}
use Rattle.reg_base.specs.declared.value.Value.{Value}
use Rattle.reg_base.specs.declared.records.Filter.{Filter}
use Rattle.reg_base.specs.declared.cut.Cut.TheVariants.{BeforeDate}
use Rattle.reg_base.specs.declared.tables.Periodicity.{Periodicity}
use Rattle.reg_base.specs.declared.tables.Periodicity.TheVariants.{Period, Record, Recorder, Day}
use Rattle.reg_base.specs.declared.tables.Periodicity.TheVariants.{Week, TenDays, Month, Quarter}
use Rattle.reg_base.specs.declared.tables.Periodicity.TheVariants.{HalfYear, Year}
use Rattle.reg_base.specs.declared.tables.Unit.{Unit as TableUnit}
use Rattle.reg_base.specs.declared.tables.Range.{Range}
use Rattle.reg_base.specs.declared.tables.Method.{Method}
use Rattle.reg_base.specs.declared.tables.Method.TheVariants.{Movements}
use Rattle.reg_base.specs.declared.tables.Method.TheVariants.{MovementsAndPeriodBoundaries}
use Rattle.reg_base.specs.Records.{Booked, values_cmp, amount_at, chosen_records}
use Rattle.reg_base.specs.Records.{records_within}
use Rattle.reg_base.specs.Balances.{group_of, groups_of, total}
use Rattle.reg_base.specs.Sums.{sum_over, in_order_once, plus_each}
use Rattle.reg_base.specs.Turnovers.{RowKey, key_of, unit_cmp, unit_of, unit_of_date}
use Rattle.reg_base.specs.Turnovers.{in_range}
use Rattle.reg_base.specs.Turnovers.{edge_units, both_keys, both_row, stands, both_rows}
use Rattle.reg_base.specs.Turnovers.{balance_and_turnovers_of}
use Rattle.reg_base.specs.TableLaws.{Opens}
use Rattle.reg_base.proofs.KeyLemmas.{key_cmp_total, key_cmp_exact}
use Rattle.reg_base.proofs.OnceLemmas.{put_once-all}
use Rattle.reg_base.proofs.SumLemmas.{sum_over-same}
use Rattle.reg_base.specs.TableLaws.{is_in, are_periods, SplitsRange}
use Rattle.reg_base.proofs.OpeningLemmas.{SplitsRange-date, SplitsRange-record}
use Rattle.reg_base.proofs.OpeningLemmas.{total-before}

-- ---- one row

plus_each-map : (f g : ℕ → ℤ) (ns : List ℕ)
    → plus_each (map f ns) (map g ns) ≡ map (λ n. f n +ℤ g n) ns
plus_each-map f g [] = refl
plus_each-map f g (n ∷ ns) = ap (λ t. (f n +ℤ g n) ∷ t) (plus_each-map f g ns)

both_tests : (e l : Bool) (x : ℤ) → cond l (cond e x (pos 0)) (pos 0) ≡ cond (e && l) x (pos 0)
both_tests true true x = refl
both_tests true false x = refl
both_tests false true x = refl
both_tests false false x = refl

-- a row whose unit splits the range opens so
row_opens : (n : ℕ) (group : Option (List ℕ)) (range : Range) (records : List Booked) (key : RowKey)
    → SplitsRange range key.unit
    → Opens n group range records (both_row n group range records key)
row_opens n group range records key splits =
    let early = records_within (BeforeDate range.from) records in
    let lower = λ (j : ℕ). sum_over
    (λ b. cond (is_eq (values_cmp (group_of group b) key.group)
    && is_lt (unit_cmp (unit_of range.by b) key.unit)) (amount_at j b.rec) (pos 0))
    (in_range range records) in
    (λ i. map
    (λ j. (total-before range key.unit splits group key.group j records
    ∙ ap (λ t. total group key.group early j +ℤ t)
    (sum_over-same _ _
    (λ (b : Booked). both_tests (is_eq (values_cmp (group_of group b) key.group))
    (is_lt (unit_cmp (unit_of range.by b) key.unit)) (amount_at j b.rec))
    (in_range range records))) i)
    (range_with_len 0 n))
    ∙ sym (plus_each-map (total group key.group early) lower (range_with_len 0 n))

-- ---- all keys

in_order_once-all : {K : Type 0} {R : K → K → Ordering} → IsTotalOrder R → CmpEqualImpliesEq R
    → (P : K → Type 0) (ks : List K) → AllByRecursion P ks → AllByRecursion P (in_order_once R ks)
in_order_once-all o exact P [] all = tt
in_order_once-all {K} {R} o exact P (k ∷ ks) all =
    put_once-all o exact P k (in_order_once R ks) all.0 (in_order_once-all o exact P ks all.1)

all-append : {K : Type 0} (P : K → Type 0) (xs ys : List K) → AllByRecursion P xs
    → AllByRecursion P ys → AllByRecursion P (xs ++ ys)
all-append P [] ys h k = k
all-append P (x ∷ xs) ys h k = (h.0, all-append P xs ys h.1 k)

-- the unit of a key splits the range
abbrev KeySplits : Range → RowKey → Type 0
KeySplits range key = SplitsRange range key.unit

records-split : (group : Option (List ℕ)) (range : Range) (bs : List Booked)
    → AllByRecursion (KeySplits range) (map (key_of group range.by) (in_range range bs))
records-split group range [] = tt
records-split group range (b ∷ bs) = at (records-split group range bs) (is_in range b) refl
  where
    at : AllByRecursion (KeySplits range) (map (key_of group range.by) (in_range range bs))
        → (t : Bool) → is_in range b ≡ t
        → AllByRecursion (KeySplits range)
        (map (key_of group range.by) (cond t (b ∷ in_range range bs) (in_range range bs)))
    at ih true e =
        let parts = and_parts (nat_le range.from b.rec.period) (nat_le b.rec.period range.to) e in (
          SplitsRange-record range b (leb-true range.from b.rec.period parts.0)
              (leb-true b.rec.period range.to parts.1),
          ih,
        )
    at ih false e = ih

module _ (from to : ℕ) (ordered : from ≤ to) where
  abbrev within : Periodicity → Range
  within by = record { from = from; to = to; by = by }

  both_ends : (by : Periodicity) → are_periods by ≡ true → AllByRecursion (SplitsRange (within by))
      (unit_of_date by from ∷ unit_of_date by to ∷ [])
  both_ends by periods = (
    SplitsRange-date (within by) from (omega arith) ordered periods,
    (SplitsRange-date (within by) to ordered (omega arith) periods, tt),
  )

  ends-split : (by : Periodicity)
      → AllByRecursion (SplitsRange (within by))
      (edge_units MovementsAndPeriodBoundaries (within by))
  ends-split Period = both_ends Period refl
  ends-split Record = tt
  ends-split Recorder = tt
  ends-split Day = both_ends Day refl
  ends-split Week = both_ends Week refl
  ends-split TenDays = both_ends TenDays refl
  ends-split Month = both_ends Month refl
  ends-split Quarter = both_ends Quarter refl
  ends-split HalfYear = both_ends HalfYear refl
  ends-split Year = both_ends Year refl

edges-split : (method : Method) (range : Range) → range.from ≤ range.to
    → AllByRecursion (SplitsRange range) (edge_units method range)
edges-split Movements range ordered = tt
edges-split MovementsAndPeriodBoundaries range ordered =
    ends-split range.from range.to ordered range.by

edge_keys-split : (range : Range) (g : List Value) (units : List TableUnit)
    → AllByRecursion (SplitsRange range) units
    → AllByRecursion (KeySplits range) (map (λ u. record { group = g; unit = u }) units)
edge_keys-split range g [] all = tt
edge_keys-split range g (u ∷ us) all = (all.0, edge_keys-split range g us all.1)

groups-split : (range : Range) (units : List TableUnit) → AllByRecursion (SplitsRange range) units
    → (groups : List (List Value))
    → AllByRecursion (KeySplits range)
    (flat_map (λ g. map (λ u. record { group = g; unit = u }) units) groups)
groups-split range units all [] = tt
groups-split range units all (g ∷ gs) =
    all-append (KeySplits range) (map (λ u. record { group = g; unit = u }) units)
    (flat_map (λ h. map (λ u. record { group = h; unit = u }) units) gs)
    (edge_keys-split range g units all) (groups-split range units all gs)

pub keys-split : (group : Option (List ℕ)) (range : Range) (method : Method)
    (records : List Booked) → range.from ≤ range.to
    → AllByRecursion (KeySplits range) (both_keys group range method records)
keys-split group range method records ordered =
    let of_records = map (key_of group range.by) (in_range range records) in
    let of_ends = flat_map
    (λ g. map (λ u. record { group = g; unit = u }) (edge_units method range))
    (groups_of group records) in
    in_order_once-all key_cmp_total key_cmp_exact (KeySplits range) (of_records ++ of_ends)
    (all-append (KeySplits range) of_records of_ends (records-split group range records)
    (groups-split range (edge_units method range) (edges-split method range ordered)
    (groups_of group records)))

rows-open : (n : ℕ) (group : Option (List ℕ)) (range : Range) (records : List Booked)
    (keys : List RowKey) → AllByRecursion (KeySplits range) keys
    → AllByRecursion (λ key. Opens n group range records (both_row n group range records key)) keys
rows-open n group range records [] all = tt
rows-open n group range records (key ∷ keys) all = (
  row_opens n group range records key all.0,
  rows-open n group range records keys all.1,
)

-- each row opens so
pub rows_open : (n : ℕ) (records : List Booked) (asked : Filter) (group : Option (List ℕ))
    (range : Range) (method : Method) → range.from ≤ range.to
    → All (Opens n group range (chosen_records asked records))
    (balance_and_turnovers_of n records asked group range method)
unfolding both_rows
rows_open n records asked group range method ordered =
    let chosen = chosen_records asked records in
    let keys = both_keys group range method chosen in
    let row = both_row n group range chosen in
    All-filter (stands (edge_units method range)) (Opens n group range chosen) (map row keys)
    (All-map (Opens n group range chosen) row keys
    (All-from_recursion (λ key. Opens n group range chosen (row key)) keys
    (rows-open n group range chosen keys (keys-split group range method chosen ordered))))
