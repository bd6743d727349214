-- Private: what records bring to balances with turnovers, and the rows of what they bring.
use Rattle.std.specs.Prelude.{ℕ, ◌+◌, ◌*◌, ◌^◌, ◌≤◌, nat_lt, nat_le, ◌&&◌, if◌then◌else◌, Option}
use Rattle.std.specs.Prelude.{List, [], ◌∷◌, ◌++◌, ℤ, pos, ◌+ℤ◌, unsigned_abs, map, take, drop}
use Rattle.std.specs.Prelude.{length}
use Rattle.std.specs.List.{flat_map, range_with_len}
use Rattle.std.specs.Ordering.{is_eq}
use Rattle.reg_base.specs.declared.value.Value.{Value}
use Rattle.reg_base.specs.declared.records.Rec.{Rec}
use Rattle.reg_base.specs.declared.tables.Unit.{Unit}
use Rattle.reg_base.specs.declared.tables.Unit.TheVariants.{Whole}
use Rattle.reg_base.specs.declared.tables.Range.{Range}
use Rattle.reg_base.specs.declared.tables.Row.{Row}
use Rattle.reg_base.specs.Records.{Booked, values_cmp, chosen_records}
use Rattle.reg_base.specs.Balances.{group_values}
use Rattle.reg_base.specs.Turnovers.{unit_of}
use Rattle.table_sums.specs.declared.sums.UnitSums.{UnitSums}
use Rattle.table_sums.specs.Additions.{Addition, addition, number_at, Adds}
use Rattle.virt_tables.specs.declared.columns.Column.{Column}
use Rattle.virt_tables.specs.declared.columns.Column.TheVariants.{Receipt, Expense, Amount, Nothing}
use Rattle.virt_tables.specs.declared.moves.Moves.{Moves}
use Rattle.virt_tables.specs.Columns.{numbers_of}

-- the columns of a record before the range, of one in it, and of the ends of the range: what stood
-- before the range, and then those of turnovers
abbrev pub columns_before : List Column
columns_before = Amount ∷ Nothing ∷ Nothing ∷ Nothing ∷ []

abbrev pub columns_moved : List Column
columns_moved = Nothing ∷ Receipt ∷ Expense ∷ Amount ∷ []

abbrev pub columns_none : List Column
columns_none = Nothing ∷ Nothing ∷ Nothing ∷ Nothing ∷ []

-- how many numbers these columns have
abbrev pub both_width : ℕ → ℕ
both_width resources = resources + (resources + (resources + (resources + 0)))

-- the most additions that documents bring: 3 for each of 5,000 records in each of 2 ^ 32 documents
abbrev pub most_brought : ℕ
most_brought = 64_424_509_440_000

-- the numbers of a record, brought to its group at a unit
abbrev pub brought : List Column → ℕ → Option (List ℕ) → Unit → Rec → Addition
brought columns resources group unit rec =
    addition (group_values group rec.values) unit (numbers_of columns resources rec)

-- what a record before the range brings to its group: a balance
abbrev pub before_at : ℕ → Option (List ℕ) → Range → Booked → List Addition
before_at resources group range b =
    if nat_lt b.rec.period range.from
    then brought columns_before resources group Whole b.rec ∷ [] else []

-- what a record in the range brings: what it moves
abbrev pub moved_at : ℕ → Option (List ℕ) → Range → Booked → List Addition
moved_at resources group range b =
    if nat_le range.from b.rec.period && nat_le b.rec.period range.to
    then brought columns_moved resources group (unit_of range.by b) b.rec ∷ [] else []

-- nothing, at the ends of the range, so that these stand
abbrev pub ends_at : ℕ → Option (List ℕ) → List Unit → Rec → List Addition
ends_at resources group ends rec = map (λ u. brought columns_none resources group u rec) ends

-- all that a record brings
abbrev pub brings : ℕ → Option (List ℕ) → Range → List Unit → Booked → List Addition
brings resources group range ends b =
    before_at resources group range b
    ++ (moved_at resources group range b ++ ends_at resources group ends b.rec)

-- what the records bring that are asked for
abbrev pub both_moves : Moves → List Unit → List Booked → List Addition
both_moves m ends records =
    flat_map (brings m.resources m.ask.now.group m.range.now ends)
    (chosen_records m.ask.now.filter records)

-- the new rows have what these records bring besides
abbrev pub AddsBoth : Moves → List Unit → List Booked → List UnitSums → List UnitSums → Type 0
AddsBoth m ends more old new = Adds (both_width m.resources) (both_moves m ends more) old new

-- numbers and others, column by column
abbrev pub sums_of : List ℤ → List ℤ → List ℤ
sums_of numbers others =
    map (λ j. number_at others j +ℤ number_at numbers j) (range_with_len 0 (length numbers))

-- the turnover of sums
abbrev pub turned : ℕ → UnitSums → List ℤ
turned resources s = drop resources (drop resources (drop resources s.sums))

-- the opening of sums, where a group has this balance before them
abbrev pub opening_after : ℕ → List Value → List ℤ → UnitSums → List ℤ
opening_after resources group balance s =
    if is_eq (values_cmp s.group group) then sums_of balance (take resources s.sums)
    else take resources s.sums

-- the row of sums with this opening
abbrev pub opened : ℕ → List ℤ → UnitSums → Row
opened resources opening s = record {
  group = s.group;
  unit = s.unit;
  opening = opening;
  receipt = take resources (drop resources s.sums);
  expense = take resources (drop resources (drop resources s.sums));
  turnover = turned resources s;
  closing = sums_of opening (turned resources s);
}

-- the row of sums whose group has this balance before it
abbrev pub row_after : ℕ → List Value → List ℤ → UnitSums → Row
row_after resources group balance s =
    opened resources (opening_after resources group balance s) s

-- so many numbers of 0
abbrev pub zeros : ℕ → List ℤ
zeros count = map (λ j. pos 0) (range_with_len 0 count)

-- how far from 0 rows can take a balance at a resource
abbrev pub size_after : ℕ → ℕ → List UnitSums → ℕ
size_after resources j [] = 0
size_after resources j (s ∷ rest) =
    unsigned_abs (number_at (take resources s.sums) j)
    + unsigned_abs (number_at (turned resources s) j) + size_after resources j rest

-- a balance and what rows add to it are no larger than 2 ^ 47 numbers can make
abbrev pub IsCarried : ℕ → List ℤ → List UnitSums → Type 0
IsCarried resources balance rows =
    (j : ℕ) → unsigned_abs (number_at balance j) + size_after resources j rows ≤ 2 ^ 63 * 2 ^ 47

-- the rows of sums in order of group, each after the one before it
abbrev pub rows_after : ℕ → List Value → List ℤ → List UnitSums → List Row
rows_after resources group balance [] = []
rows_after resources group balance (s ∷ rest) =
    row_after resources group balance s
    ∷ rows_after resources s.group (row_after resources group balance s).closing rest
