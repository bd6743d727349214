-- Numbers added to groups and units, and the rows of their sums.
use Rattle.std.specs.Prelude.{◌≡◌, ◌≤◌, ℕ, ◌+◌, ◌*◌, ◌^◌, ℤ, pos, neg_ℤ, ◌≤ℤ◌, unsigned_abs}
use Rattle.std.specs.Prelude.{unwrap_or, if◌then◌else◌, List, [], ◌∷◌, ◌++◌, map, slice_get, length}
use Rattle.std.specs.List.{range_with_len}
use Rattle.std.specs.Ordering.{is_eq}
use Rattle.reg_base.specs.declared.value.Value.{Value}
use Rattle.reg_base.specs.declared.tables.Unit.{Unit}
use Rattle.reg_base.specs.Sums.{sum_over, in_order_once}
use Rattle.reg_base.specs.Turnovers.{RowKey, key_cmp}
use Rattle.table_sums.specs.declared.sums.UnitSums.{UnitSums}

-- a number per column that is added to a group and a unit
pub record Addition : Type 0 where
  pub key : RowKey
  pub numbers : List ℤ

-- the addition to a group and a unit
abbrev pub addition : List Value → Unit → List ℤ → Addition
addition group unit numbers =
    record { key = record { group = group; unit = unit }; numbers = numbers }

-- the number of a column, and 0 where there is none
abbrev pub number_at : List ℤ → ℕ → ℤ
number_at numbers column = unwrap_or (slice_get numbers column) (pos 0)

-- what an addition adds to a key at a column
abbrev pub added_at : RowKey → ℕ → Addition → ℤ
added_at key column a =
    if is_eq (key_cmp a.key key) then number_at a.numbers column else pos 0

-- the sums of a key: per column the sum of what is added to it there
abbrev pub sums_at : ℕ → List Addition → RowKey → List ℤ
sums_at columns more key =
    map (λ j. sum_over (added_at key j) more) (range_with_len 0 columns)

-- the row of a key with these sums
abbrev pub row_with : (RowKey → List ℤ) → RowKey → UnitSums
row_with sums key = record { group = key.group; unit = key.unit; sums = sums key }

-- the distinct keys of additions, in order
abbrev pub keys_in : List Addition → List RowKey
keys_in more = in_order_once key_cmp (map (λ a. a.key) more)

-- the rows of additions: one for each key, in order
abbrev pub rows_over : ℕ → List Addition → List UnitSums
rows_over columns more = map (row_with (sums_at columns more)) (keys_in more)

-- a number no further from 0 than so many numbers of 64 bits can take it
abbrev pub IsInReach : ℕ → ℤ → Type 0
IsInReach count n = (neg_ℤ (pos (2 ^ 63 * count)) ≤ℤ n) × (n ≤ℤ pos (2 ^ 63 * count))

-- how far the sums of a column are from 0, together
abbrev pub size_at : ℕ → List UnitSums → ℕ
size_at column [] = 0
size_at column (row ∷ rows) = unsigned_abs (number_at row.sums column) + size_at column rows

-- the sums of each column are, together, no further from 0 than so many numbers can take them
abbrev pub AreInReach : ℕ → List UnitSums → Type 0
AreInReach count rows = (column : ℕ) → size_at column rows ≤ 2 ^ 63 * count

-- the new rows have these additions besides those that the old ones have
pub record Adds (columns : ℕ) (more : List Addition) (old new : List UnitSums) : Type 0 where
  pub sums : (before : List Addition) → old ≡ rows_over columns before
      → new ≡ rows_over columns (before ++ more)
  pub reach : (count : ℕ) → AreInReach count old → AreInReach (count + length more) new
