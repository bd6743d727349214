-- Private: how a document's records before and after a change are set against each other, and which
-- other records count.
use Rattle.std.specs.Prelude.{◌≡◌, ℕ, pos, Bool, if◌then◌else◌, ◌==◌, Option, Some, None, List}
use Rattle.std.specs.Prelude.{true, false, int_lt, [], ◌∷◌, ◌++◌, map, slice_get, unwrap_or}
use Rattle.std.specs.List.{All}
use Rattle.reg_base.specs.declared.records.Mark.{Mark}
use Rattle.reg_base.specs.declared.records.Mark.TheVariants.{Receipt, Expense, Turn}
use Rattle.reg_base.specs.declared.records.Rec.{Rec}
use Rattle.reg_base.specs.declared.records.Document.{Document}
use Rattle.reg_base.specs.declared.records.SumRow.{SumRow}
use Rattle.reg_base.specs.Records.{Booked, booked_by}
use Rattle.row_sums.specs.Sums.{booked, sum_at}
use Rattle.desk_model.specs.Controls.{has_fallen}

-- the mark that counts the other way
abbrev pub opposite : Mark → Mark
opposite Receipt = Expense
opposite Turn = Expense
opposite Expense = Receipt

-- a record of one resource: it counts what this record counts there, or takes that back
abbrev pub change_of : Bool → ℕ → Rec → Rec
change_of back resource r = record {
  line = r.line;
  period = r.period;
  mark = if back then opposite r.mark else r.mark;
  values = r.values;
  sums = unwrap_or (slice_get r.sums resource) (pos 0) ∷ [];
}

-- what takes the records before back, and counts those after
abbrev pub changes_of : ℕ → List Rec → List Rec → List Booked
changes_of resource before after = map (booked 0)
    (map (change_of true resource) before ++ map (change_of false resource) after)

-- the records that a document has in a register, whether they count or not
abbrev pub own_set : ℕ → Option Document → List Rec
own_set register None = []
own_set register (Some d) = unwrap_or (slice_get d.sets.registers register) []

-- the records of a document in a register that count, and none of the document of this number
abbrev pub booked_by_other : ℕ → ℕ → Document → List Booked
booked_by_other number register d = if d.doc.number == number then [] else booked_by register d

-- the first sum of each row tells whether the sum of its group fell
abbrev pub AreChanges : ℕ → List Booked → List Booked → List SumRow → Type 0
AreChanges place before after rows =
    All (λ row. int_lt (sum_at row.sums 0) (pos 0) ≡ has_fallen place before after row.group) rows
