-- Laws of tables: rows open and close, and rows of smaller units come to those of the whole range.
use Rattle.std.specs.Prelude.{◌≡◌, ℕ, ℤ, pos, ◌&&◌, ◌||◌, Bool, true, false, max, nat_lt, nat_le}
use Rattle.std.specs.Prelude.{Option, option_map, unwrap_or, List, slice_get}
use Rattle.std.specs.Prelude.{if◌then◌else◌}
use Rattle.std.specs.List.{find}
use Rattle.std.specs.Ordering.{is_eq, is_lt, nat_cmp, ordering_then}
use Rattle.reg_base.specs.declared.value.Value.{Value}
use Rattle.reg_base.specs.declared.records.Filter.{Filter}
use Rattle.reg_base.specs.declared.cut.Cut.TheVariants.{BeforeDate, BeforePoint}
use Rattle.reg_base.specs.declared.tables.Periodicity.{Periodicity}
use Rattle.reg_base.specs.declared.tables.Periodicity.TheVariants.{Period, Record, Recorder, Day}
use Rattle.reg_base.specs.declared.tables.Periodicity.TheVariants.{Week, TenDays, Month, Quarter}
use Rattle.reg_base.specs.declared.tables.Periodicity.TheVariants.{HalfYear, Year}
use Rattle.reg_base.specs.declared.tables.Unit.{Unit as TableUnit}
use Rattle.reg_base.specs.declared.tables.Unit.TheVariants.{Whole, Start, At, Line}
use Rattle.reg_base.specs.declared.tables.Range.{Range}
use Rattle.reg_base.specs.declared.tables.Row.{Row}
use Rattle.reg_base.specs.Points.{point_cmp}
use Rattle.reg_base.specs.Cuts.{inside}
use Rattle.reg_base.specs.Records.{Booked, values_cmp, point_of, amount_at, records_within}
use Rattle.reg_base.specs.Balances.{group_of, row_of}
use Rattle.reg_base.specs.Sums.{sum_over, plus_each}
use Rattle.reg_base.specs.Turnovers.{unit_cmp, unit_of, in_range, sums_where, turnovers_of}

-- the closing of a row is its opening plus its turnover
abbrev pub Closes : Row → Type 0
Closes row = row.closing ≡ plus_each row.opening row.turnover

-- ---- openings

-- whether a record is before a unit, as `before_unit` takes it
abbrev pub is_before : Range → TableUnit → Booked → Bool
is_before range Whole b = inside (BeforeDate range.from) (point_of b)
is_before range (Start d) b = inside (BeforeDate (max range.from d)) (point_of b)
is_before range (At p) b = inside (BeforePoint p) (point_of b)
is_before range (Line p l) b =
    is_lt (ordering_then (point_cmp (point_of b) p) (nat_cmp b.rec.line l))

-- whether the date of a record is in the range
abbrev pub is_in : Range → Booked → Bool
is_in range b = nat_le range.from b.rec.period && nat_le b.rec.period range.to

-- a record lies before the range, or in it in a lower unit
abbrev pub is_lower : Range → TableUnit → Booked → Bool
is_lower range unit b =
    nat_lt b.rec.period range.from
    || (is_in range b && is_lt (unit_cmp (unit_of range.by b) unit))

-- whether units are the whole range or dates
abbrev pub are_periods : Periodicity → Bool
are_periods Period = true
are_periods Record = false
are_periods Recorder = false
are_periods Day = true
are_periods Week = true
are_periods TenDays = true
are_periods Month = true
are_periods Quarter = true
are_periods HalfYear = true
are_periods Year = true

-- a unit of which a record is before exactly where it lies before the range or in a lower unit
abbrev pub SplitsRange : Range → TableUnit → Type 0
SplitsRange range unit = (b : Booked) → is_before range unit b ≡ is_lower range unit b

-- what the records of the range that are of a row's group and of a lower unit add
abbrev pub moved_before : ℕ → Option (List ℕ) → Range → List Booked → Row → List ℤ
moved_before resources group range records row = sums_where resources
    (λ b. is_eq (values_cmp (group_of group b) row.group)
    && is_lt (unit_cmp (unit_of range.by b) row.unit)) amount_at (in_range range records)

-- the opening of a row is the balance of its group before the range, and what lower units moved
abbrev pub Opens : ℕ → Option (List ℕ) → Range → List Booked → Row → Type 0
Opens resources group range records row =
    row.opening
    ≡ plus_each
    (row_of resources group (records_within (BeforeDate range.from) records) row.group).sums
    (moved_before resources group range records row)

-- ---- sums over the rows of a group

-- the number of a row at a resource, in one of its columns
abbrev pub row_number : (Row → List ℤ) → ℕ → Row → ℤ
row_number column resource row = unwrap_or (slice_get (column row) resource) (pos 0)

-- whether a row is of a group
abbrev pub is_of_group : List Value → Row → Bool
is_of_group group row = is_eq (values_cmp row.group group)

-- the sum of a column over the rows of a group
abbrev pub group_sum : (Row → List ℤ) → ℕ → List Value → List Row → ℤ
group_sum column resource group rows =
    sum_over (λ row. if is_of_group group row then row_number column resource row else pos 0) rows

-- the number of the first row of a group, or nothing where there is none
abbrev pub first_in : (Row → List ℤ) → ℕ → List Value → List Row → ℤ
first_in column resource group rows =
    unwrap_or (option_map (row_number column resource) (find (is_of_group group) rows)) (pos 0)

-- whatever the units, the rows of a group sum to the group's one row over the whole range, or to
-- nothing where it has none
abbrev pub UnitsAddUp : (Row → List ℤ) → Type 0
UnitsAddUp column =
    (balances : Bool) (resources : ℕ) (records : List Booked) (asked : Filter)
    (by : Option (List ℕ)) (range : Range) (group : List Value) (resource : ℕ)
    → group_sum column resource group (turnovers_of balances resources records asked by range)
    ≡ first_in column resource group
    (turnovers_of balances resources records asked by (record range { by = Period }))
