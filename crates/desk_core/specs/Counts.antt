-- How many documents, records and entries a desk has.
use Rattle.std.specs.Prelude.{ℕ, Bool, ◌&&◌, if◌then◌else◌, List, length}
use Rattle.std.specs.List.{sum_by}
use Rattle.reg_base.specs.declared.records.Doc.{Doc}
use Rattle.reg_base.specs.declared.records.Document.{Document}
use Rattle.reg_base.specs.Records.{is_posted}
use Rattle.desk_core.specs.declared.counts.Counts.{Counts}

-- whether what a document has counts: it is posted and active
abbrev pub is_active : Doc → Bool
is_active doc = is_posted doc.state && doc.active

-- how many records of a document count, those of all registers together
abbrev pub active_records : Document → ℕ
active_records d = if is_active d.doc then sum_by length d.sets.registers else 0

-- how many entries of a document count, those of all ledgers together
abbrev pub active_postings : Document → ℕ
active_postings d = if is_active d.doc then sum_by length d.sets.ledgers else 0

-- how many documents there are, and how many records and entries of theirs count
abbrev pub counts_of : List Document → Counts
counts_of documents = record {
  documents = length documents;
  records = sum_by active_records documents;
  postings = sum_by active_postings documents;
}
