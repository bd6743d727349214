-- Private: the records that a balance counts, and what is added to rows of them.
use Rattle.std.specs.Prelude.{ℕ, Bool, true, not, ◌&&◌, ◌==◌, Option, Some, None, List, filter}
use Rattle.std.specs.Option.{option_copied}
use Rattle.reg_base.specs.declared.records.SumRow.{SumRow}
use Rattle.reg_base.specs.Cuts.{inside}
use Rattle.reg_base.specs.Records.{Booked, point_of, matches, chosen_records, records_within}
use Rattle.row_sums.specs.Sums.{Adds}
use Rattle.virt_tables.specs.declared.cuts.Query.{Query}

-- whether a document is not the one that is left out
abbrev pub is_other : Option ℕ → ℕ → Bool
is_other None number = true
is_other (Some skip) number = not (number == skip)

-- whether a balance counts a record
abbrev pub counts : Query → Booked → Bool
counts q b = is_other q.skip b.recorder
    && matches q.filter.now b.rec.values
    && inside q.cut.now (point_of b)

-- the records that a balance counts
abbrev pub counted : Query → List Booked → List Booked
counted q records =
    records_within q.cut.now
    (chosen_records q.filter.now (filter (λ b. is_other q.skip b.recorder) records))

-- the new rows have those of these records added that a balance counts
abbrev pub AddsFor : Query → List Booked → List SumRow → List SumRow → Type 0
AddsFor q more old new = Adds (option_copied q.by) q.resources (counted q more) old new
