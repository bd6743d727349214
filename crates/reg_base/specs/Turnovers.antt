-- Turnovers, and balances with turnovers: what the records of a range move, by group and unit.
use Rattle.std.specs.Prelude.{ℕ, ℤ, pos, Bool, true, ◌&&◌, ◌||◌, max, nat_le, if◌then◌else◌, Option}
use Rattle.std.specs.Prelude.{List, [], ◌∷◌, ◌++◌, map, filter, slice_get, unwrap_or, length}
use Rattle.std.specs.Prelude.{Result, Ok}
use Rattle.std.specs.List.{list_any, flat_map, range_with_len}
use Rattle.std.specs.Ordering.{nat_cmp, ordering_then, is_eq, is_lt}
use Rattle.std.specs.declared.cmp.Ordering.{Ordering}
use Rattle.std.specs.declared.cmp.Ordering.TheVariants.{Less, Equal, Greater}
use Rattle.reg_base.specs.declared.value.Value.{Value}
use Rattle.reg_base.specs.declared.records.Mark.{Mark}
use Rattle.reg_base.specs.declared.records.Mark.TheVariants.{Receipt, Expense, Turn}
use Rattle.reg_base.specs.declared.records.Rec.{Rec}
use Rattle.reg_base.specs.declared.records.Filter.{Filter}
use Rattle.reg_base.specs.declared.cut.Cut.TheVariants.{BeforeDate, BeforePoint}
use Rattle.reg_base.specs.declared.tables.Periodicity.{Periodicity}
use Rattle.reg_base.specs.declared.tables.Periodicity.TheVariants.{Period, Record, Recorder}
use Rattle.reg_base.specs.declared.tables.Unit.{Unit}
use Rattle.reg_base.specs.declared.tables.Unit.TheVariants.{Whole, Start, At, Line}
use Rattle.reg_base.specs.declared.tables.Range.{Range}
use Rattle.reg_base.specs.declared.tables.Method.{Method}
use Rattle.reg_base.specs.declared.tables.Method.TheVariants.{Movements}
use Rattle.reg_base.specs.declared.tables.Method.TheVariants.{MovementsAndPeriodBoundaries}
use Rattle.reg_base.specs.declared.tables.Row.{Row}
use Rattle.reg_base.specs.declared.fault.TableFault.{TableFault}
use Rattle.reg_base.specs.declared.fault.TableFault.TheVariants.{BadRange, TooManyRows}
use Rattle.reg_base.specs.Results.{◌>>=◌, unless}
use Rattle.reg_base.specs.Points.{point_cmp}
use Rattle.reg_base.specs.Records.{Booked, values_cmp, point_of, amount_at, chosen_records}
use Rattle.reg_base.specs.Records.{records_within}
use Rattle.reg_base.specs.Balances.{group_of, groups_of, row_of}
use Rattle.reg_base.specs.Sums.{sum_over, in_order_once, plus_each, has_number}
use Rattle.reg_base.specs.Units.{unit_start}

-- units are in order of their starts, their points, or their points and lines; the units of one
-- table are all of one sort
abbrev pub unit_cmp : Unit → Unit → Ordering
unit_cmp Whole Whole = Equal
unit_cmp Whole (Start e) = Less
unit_cmp Whole (At q) = Less
unit_cmp Whole (Line q m) = Less
unit_cmp (Start d) Whole = Greater
unit_cmp (Start d) (Start e) = nat_cmp d e
unit_cmp (Start d) (At q) = Less
unit_cmp (Start d) (Line q m) = Less
unit_cmp (At p) Whole = Greater
unit_cmp (At p) (Start e) = Greater
unit_cmp (At p) (At q) = point_cmp p q
unit_cmp (At p) (Line q m) = Less
unit_cmp (Line p l) Whole = Greater
unit_cmp (Line p l) (Start e) = Greater
unit_cmp (Line p l) (At q) = Greater
unit_cmp (Line p l) (Line q m) = ordering_then (point_cmp p q) (nat_cmp l m)

-- the unit that a date lies in, where units are periods
abbrev pub unit_of_date : Periodicity → ℕ → Unit
unit_of_date Period date = Whole
unit_of_date by date = Start (unit_start by date)

-- the unit of a record: the whole, its unit start, its point, or its point and line
abbrev pub unit_of : Periodicity → Booked → Unit
unit_of Record b = Line (point_of b) b.rec.line
unit_of Recorder b = At (point_of b)
unit_of by b = unit_of_date by b.rec.period

-- what a row is about: a group and a unit
pub record RowKey : Type 0 where
  pub group : List Value
  pub unit : Unit

-- rows are in order of group, then unit
abbrev pub key_cmp : RowKey → RowKey → Ordering
key_cmp a b = ordering_then (values_cmp a.group b.group) (unit_cmp a.unit b.unit)

-- the group and the unit of a record
abbrev pub key_of : Option (List ℕ) → Periodicity → Booked → RowKey
key_of group by b = record { group = group_of group b; unit = unit_of by b }

-- the records whose dates are in the range, both ends included
abbrev pub in_range : Range → List Booked → List Booked
in_range range records =
    filter (λ b. nat_le range.from b.rec.period && nat_le b.rec.period range.to) records

-- the number of a record at a resource, as it stands
abbrev pub recorded_at : ℕ → Rec → ℤ
recorded_at resource rec = unwrap_or (slice_get rec.sums resource) (pos 0)

-- the number of a receipt at a resource, and nothing for other marks
abbrev pub receipt_at : ℕ → Rec → ℤ
receipt_at resource rec = of_mark rec.mark
  where
    of_mark : Mark → ℤ
    of_mark Receipt = recorded_at resource rec
    of_mark Expense = pos 0
    of_mark Turn = pos 0

-- the number of an expense at a resource, and nothing for other marks
abbrev pub expense_at : ℕ → Rec → ℤ
expense_at resource rec = of_mark rec.mark
  where
    of_mark : Mark → ℤ
    of_mark Receipt = pos 0
    of_mark Expense = recorded_at resource rec
    of_mark Turn = pos 0

-- the sum, at each of so many resources, of what the records that pass the test add
abbrev pub sums_where : ℕ → (Booked → Bool) → (ℕ → Rec → ℤ) → List Booked → List ℤ
sums_where resources test amount records =
    map (λ n. sum_over (λ b. if test b then amount n b.rec else pos 0) records)
    (range_with_len 0 resources)

-- whether a record belongs to a row
abbrev pub is_of : Option (List ℕ) → Periodicity → RowKey → Booked → Bool
is_of group by key b = is_eq (key_cmp (key_of group by b) key)

-- the turnovers of a row over the records of the range: receipts and expenses as they stand, and
-- signed amounts; a register without balances has the last alone
abbrev pub turnover_row : Bool → ℕ → Option (List ℕ) → Periodicity → List Booked → RowKey → Row
turnover_row balances resources group by records key = record {
  group = key.group;
  unit = key.unit;
  opening = [];
  receipt = if balances then sums_where resources (is_of group by key) receipt_at records else [];
  expense = if balances then sums_where resources (is_of group by key) expense_at records else [];
  turnover = sums_where resources (is_of group by key) amount_at records;
  closing = [];
}

-- whether a receipt, an expense or a turnover of the row is not zero
abbrev pub has_movement : Row → Bool
has_movement row = has_number row.receipt || has_number row.expense || has_number row.turnover

-- the turnovers, where the records are those that are asked for and are in the range
unfoldable pub turnover_rows : Bool → ℕ → Option (List ℕ) → Periodicity → List Booked → List Row
turnover_rows balances resources group by records =
    filter has_movement (map (turnover_row balances resources group by records)
    (in_order_once key_cmp (map (key_of group by) records)))

-- the turnovers: the rows over the records that are asked for and are in the range
abbrev pub turnovers_of : Bool → ℕ → List Booked → Filter → Option (List ℕ) → Range → List Row
turnovers_of balances resources records asked group range =
    turnover_rows balances resources group range.by (in_range range (chosen_records asked records))

-- the records before a unit: before the later of range start and unit start, before the point, or
-- before the point and, at the point, before the line
abbrev pub before_unit : Range → Unit → List Booked → List Booked
before_unit range Whole records = records_within (BeforeDate range.from) records
before_unit range (Start d) records = records_within (BeforeDate (max range.from d)) records
before_unit range (At p) records = records_within (BeforePoint p) records
before_unit range (Line p l) records = filter
    (λ b. is_lt (ordering_then (point_cmp (point_of b) p) (nat_cmp b.rec.line l))) records

-- the units that stand though nothing moved in them: those of both ends of the range
abbrev pub edge_units : Method → Range → List Unit
edge_units Movements range = []
edge_units MovementsAndPeriodBoundaries range = ends range.by
  where
    ends : Periodicity → List Unit
    ends Record = []
    ends Recorder = []
    ends by = unit_of_date by range.from ∷ unit_of_date by range.to ∷ []

-- the keys of all rows: those of the records in the range, and each group with both ends
abbrev pub both_keys : Option (List ℕ) → Range → Method → List Booked → List RowKey
both_keys group range method records = in_order_once key_cmp (
    map (key_of group range.by) (in_range range records)
    ++ flat_map (λ g. map (λ u. record { group = g; unit = u }) (edge_units method range))
    (groups_of group records))

-- a row of turnovers with its opening, and its closing, which is opening plus turnover
abbrev pub with_balances : List ℤ → Row → Row
with_balances opening row =
    record row { opening = opening; closing = plus_each opening row.turnover }

-- the row of a group and a unit, over all records that are asked for: its opening is the balance of
-- the records before the unit
abbrev pub both_row : ℕ → Option (List ℕ) → Range → List Booked → RowKey → Row
both_row resources group range records key = with_balances
    (row_of resources group (before_unit range key.unit records) key.group).sums
    (turnover_row true resources group range.by (in_range range records) key)

-- whether an opening or a closing of the row is not zero
abbrev pub has_balance : Row → Bool
has_balance row = has_number row.opening || has_number row.closing

-- whether a row stands: something moved, or it is at an end of the range and has a balance
abbrev pub stands : List Unit → Row → Bool
stands ends row = has_movement row
    || (list_any (λ u. is_eq (unit_cmp u row.unit)) ends && has_balance row)

-- balances and turnovers, where the records are those that are asked for
unfoldable pub both_rows : ℕ → Option (List ℕ) → Range → Method → List Booked → List Row
both_rows resources group range method records =
    filter (stands (edge_units method range))
    (map (both_row resources group range records) (both_keys group range method records))

-- balances and turnovers: opening, receipts, expenses, turnover and closing by group and unit
abbrev pub balance_and_turnovers_of : ℕ → List Booked → Filter → Option (List ℕ) → Range
    → Method → List Row
balance_and_turnovers_of resources records asked group range method =
    both_rows resources group range method (chosen_records asked records)

-- the most rows that a table may have
abbrev pub row_limit : ℕ
row_limit = 100_000

-- rows, where they are no more than a table may have
abbrev pub limited_rows : {R : Type 0} → List R → Result (List R) TableFault
limited_rows rows = do
  _ ← unless (nat_le (length rows) row_limit) (TooManyRows row_limit)
  Ok rows

-- a table, where its range begins before its end and it has no more rows than a table may have
abbrev pub table_of : {R : Type 0} → Range → List R → Result (List R) TableFault
table_of range rows = do
  _ ← unless (nat_le range.from range.to) (BadRange range.from range.to)
  limited_rows rows
