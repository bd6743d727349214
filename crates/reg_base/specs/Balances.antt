-- Balances: the sums over the records that are asked for and lie inside a cut.
use Rattle.std.specs.Prelude.{ℕ, ℤ, pos, ◌+ℤ◌, Bool, not, Option, Some, None, if◌then◌else◌, List}
use Rattle.std.specs.Prelude.{[], ◌∷◌, map, filter, slice_get}
use Rattle.std.specs.List.{list_any, filter_map, range_with_len}
use Rattle.std.specs.Ordering.{is_eq, int_eq}
use Rattle.reg_base.specs.declared.value.Value.{Value}
use Rattle.reg_base.specs.declared.records.Filter.{Filter}
use Rattle.reg_base.specs.declared.records.SumRow.{SumRow}
use Rattle.reg_base.specs.declared.cut.Cut.{Cut}
use Rattle.reg_base.specs.Records.{Booked, values_cmp, put_once, amount_at, chosen_records}
use Rattle.reg_base.specs.Records.{records_within}

-- the values that a record is grouped by: those of the dimensions named, or all
abbrev pub group_values : Option (List ℕ) → List Value → List Value
group_values None values = values
group_values (Some dimensions) values = filter_map (λ d. slice_get values d) dimensions

-- the group of a record
abbrev pub group_of : Option (List ℕ) → Booked → List Value
group_of by b = group_values by b.rec.values

-- the distinct groups of the records, in order
abbrev pub groups_of : Option (List ℕ) → List Booked → List (List Value)
groups_of by [] = []
groups_of by (b ∷ bs) = put_once values_cmp (group_of by b) (groups_of by bs)

-- what a record adds to a group: its signed amount where it belongs there
abbrev pub contribution : Option (List ℕ) → List Value → ℕ → Booked → ℤ
contribution by group resource b =
    if is_eq (values_cmp (group_of by b) group) then amount_at resource b.rec else pos 0

-- the sum of a group at a resource
abbrev pub total : Option (List ℕ) → List Value → List Booked → ℕ → ℤ
total by group [] resource = pos 0
total by group (b ∷ bs) resource = contribution by group resource b +ℤ total by group bs resource

-- the row of a group, with its sum at each of so many resources
abbrev pub row_of : ℕ → Option (List ℕ) → List Booked → List Value → SumRow
row_of resources by records group =
    record { group = group; sums = map (total by group records) (range_with_len 0 resources) }

-- whether a row is shown: not all of its sums are zero
abbrev pub is_shown : SumRow → Bool
is_shown row = list_any (λ s. not (int_eq s (pos 0))) row.sums

-- the rows of the groups that are shown, in order
unfoldable pub sum_rows : ℕ → Option (List ℕ) → List Booked → List SumRow
sum_rows resources by records =
    filter is_shown (map (row_of resources by records) (groups_of by records))

-- the balance: the sums over the records that are asked for and lie inside the cut
abbrev pub balance_of : ℕ → List Booked → Filter → Option (List ℕ) → Cut → List SumRow
balance_of resources records asked by cut =
    sum_rows resources by (records_within cut (chosen_records asked records))
