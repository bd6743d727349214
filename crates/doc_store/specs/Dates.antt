-- Private: whether a document's date lies in a range.
use Rattle.std.specs.Prelude.{ℕ, Bool, ◌&&◌, nat_le}
use Rattle.reg_base.specs.declared.records.Document.{Document}

-- whether a document's date lies in a range, both ends included
abbrev pub is_between : ℕ → ℕ → Document → Bool
is_between from to d = nat_le from d.doc.date && nat_le d.doc.date to
