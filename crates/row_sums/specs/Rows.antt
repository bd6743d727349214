-- Private: the entries of a map, seen as rows.
use Rattle.std.specs.Prelude.{ℤ, if◌then◌else◌, List, [], ◌∷◌, map}
use Rattle.std.specs.Ordering.{is_eq, match_ordering}
use Rattle.std.specs.declared.vec.Vec.{Vec}
use Rattle.reg_base.specs.declared.value.Value.{Value}
use Rattle.reg_base.specs.declared.records.SumRow.{SumRow}
use Rattle.reg_base.specs.Records.{values_cmp}

-- the rows of groups with their sums
abbrev pub rows_of : {A B : Type 0} → List (Vec Value A × Vec ℤ B) → List SumRow
rows_of es = map (λ e. record { group = e.0.items; sums = e.1.items }) es

-- the sums of the row of a group, and none where no row is its
abbrev pub sums_at : List Value → List SumRow → List ℤ
sums_at group [] = []
sums_at group (row ∷ rows) =
    if is_eq (values_cmp group row.group) then row.sums else sums_at group rows

-- a row put into its place among rows: an equal group takes its sums
abbrev pub with_row : SumRow → List SumRow → List SumRow
with_row row [] = row ∷ []
with_row row (r ∷ rs) = match_ordering (values_cmp row.group r.group) (row ∷ r ∷ rs)
    (record { group = r.group; sums = row.sums } ∷ rs) (r ∷ with_row row rs)
