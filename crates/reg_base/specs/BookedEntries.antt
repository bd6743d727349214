-- Entries of ledgers: their points, and which of them count.
use Rattle.std.specs.Prelude.{ℕ, ◌&&◌, unwrap_or, if◌then◌else◌, List, [], map, filter, nat_le}
use Rattle.std.specs.Prelude.{slice_get}
use Rattle.std.specs.List.{flat_map}
use Rattle.std.specs.Ordering.{nat_cmp, ordering_then}
use Rattle.std.specs.declared.cmp.Ordering.{Ordering}
use Rattle.reg_base.specs.declared.point.Point.{Point}
use Rattle.reg_base.specs.declared.records.Posting.{Posting}
use Rattle.reg_base.specs.declared.records.Document.{Document}
use Rattle.reg_base.specs.declared.tables.Range.{Range}
use Rattle.reg_base.specs.declared.cut.Cut.{Cut}
use Rattle.reg_base.specs.Points.{point_cmp}
use Rattle.reg_base.specs.Cuts.{inside}
use Rattle.reg_base.specs.Records.{in_order, is_posted}

-- an entry with the number of the document that made it
pub record BookedEntry : Type 0 where
  pub recorder : ℕ
  pub entry : Posting

-- the point of an entry: its period with its recorder
abbrev pub entry_point : BookedEntry → Point
entry_point b = record { date = b.entry.period; doc = b.recorder }

-- entries are in order of point, then line
abbrev pub entry_cmp : BookedEntry → BookedEntry → Ordering
entry_cmp a b =
    ordering_then (point_cmp (entry_point a) (entry_point b)) (nat_cmp a.entry.line b.entry.line)

-- the entries of a document in a ledger, where it is posted and active
abbrev pub entered_by : ℕ → Document → List BookedEntry
entered_by ledger d =
    if is_posted d.doc.state && d.doc.active
    then map (λ e. record { recorder = d.doc.number; entry = e })
    (unwrap_or (slice_get d.sets.ledgers ledger) [])
    else []

-- the entries of a ledger in all documents, in order of point, then line
abbrev pub entries_of : ℕ → List Document → List BookedEntry
entries_of ledger documents = in_order entry_cmp (flat_map (entered_by ledger) documents)

-- the entries whose points lie inside the cut
abbrev pub entries_within : Cut → List BookedEntry → List BookedEntry
entries_within cut entries = filter (λ b. inside cut (entry_point b)) entries

-- the entries whose dates are in the range, both ends included
abbrev pub entries_in : Range → List BookedEntry → List BookedEntry
entries_in range entries =
    filter (λ b. nat_le range.from b.entry.period && nat_le b.entry.period range.to) entries
