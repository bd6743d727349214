-- Private: the numbers of a record in the columns of a table, and what records add to its rows.
use Rattle.std.specs.Prelude.{ℕ, ◌+◌, ℤ, pos, Bool, true, false, Option, List, []}
use Rattle.std.specs.Prelude.{◌∷◌, map, take, drop}
use Rattle.std.specs.List.{flat_map, range_with_len}
use Rattle.reg_base.specs.declared.records.Rec.{Rec}
use Rattle.reg_base.specs.declared.tables.Periodicity.{Periodicity}
use Rattle.reg_base.specs.declared.tables.Row.{Row}
use Rattle.reg_base.specs.Records.{Booked, amount_at, chosen_records}
use Rattle.reg_base.specs.Turnovers.{receipt_at, expense_at, key_of, in_range}
use Rattle.table_sums.specs.declared.sums.UnitSums.{UnitSums}
use Rattle.table_sums.specs.Additions.{Addition, number_at, IsInReach, Adds}
use Rattle.virt_tables.specs.declared.columns.Column.{Column}
use Rattle.virt_tables.specs.declared.columns.Column.TheVariants.{Receipt, Expense, Amount, Nothing}
use Rattle.virt_tables.specs.declared.moves.Moves.{Moves}

-- the number of a record in a column, at a resource
abbrev pub column_at : Column → ℕ → Rec → ℤ
column_at Receipt resource rec = receipt_at resource rec
column_at Expense resource rec = expense_at resource rec
column_at Amount resource rec = amount_at resource rec
column_at Nothing resource rec = pos 0

-- the columns of turnovers: a register without balances has the last alone
abbrev pub columns_of : Bool → List Column
columns_of true = Receipt ∷ Expense ∷ Amount ∷ []
columns_of false = Amount ∷ []

-- the numbers of a record: those of all resources, column by column
abbrev pub numbers_of : List Column → ℕ → Rec → List ℤ
numbers_of columns resources rec =
    flat_map (λ c. map (λ j. column_at c j rec) (range_with_len 0 resources)) columns

-- how many numbers turnovers have
abbrev pub width_of : Bool → ℕ → ℕ
width_of true resources = resources + (resources + (resources + 0))
width_of false resources = resources + 0

-- numbers of which each is one of 64 bits, or its opposite
abbrev pub AreSmall : List ℤ → Type 0
AreSmall numbers = (column : ℕ) → IsInReach 1 (number_at numbers column)

-- what a record adds to the rows of a table
abbrev pub addition_of : Bool → ℕ → Option (List ℕ) → Periodicity → Booked → Addition
addition_of balances resources group by b =
    record { key = key_of group by b; numbers = numbers_of (columns_of balances) resources b.rec }

-- the records that a table counts
abbrev pub moved : Moves → List Booked → List Booked
moved m records = in_range m.range.now (chosen_records m.ask.now.filter records)

-- what they add
abbrev pub moves_of : Moves → List Booked → List Addition
moves_of m records =
    map (addition_of m.balances m.resources m.ask.now.group m.range.now.by) (moved m records)

-- the new rows have what these records add besides
abbrev pub AddsMoves : Moves → List Booked → List UnitSums → List UnitSums → Type 0
AddsMoves m more old new = Adds (width_of m.balances m.resources) (moves_of m more) old new

-- the row of sums that are amounts alone
abbrev pub turn_row : UnitSums → Row
turn_row s = record {
  group = s.group;
  unit = s.unit;
  opening = [];
  receipt = [];
  expense = [];
  turnover = s.sums;
  closing = [];
}

-- the row of sums: receipts, expenses and amounts, or the last alone
abbrev pub row_from : Bool → ℕ → UnitSums → Row
row_from true resources s = record {
  group = s.group;
  unit = s.unit;
  opening = [];
  receipt = take resources s.sums;
  expense = take resources (drop resources s.sums);
  turnover = drop resources (drop resources s.sums);
  closing = [];
}
row_from false resources s = turn_row s
