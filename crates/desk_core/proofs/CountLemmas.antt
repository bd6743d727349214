-- What counts of documents is no more than their records and entries.
use Rattle.std.proofs.Common.{ℕ, ◌+◌, ◌≤◌, Bool, true, false, cond, List, [], ◌∷◌, length, arith}
use Rattle.std.specs.List.{sum_by}
use Rattle.std.proofs.lemmas.List.Sums.{sum_by-cons}
use Rattle.reg_base.specs.declared.records.Document.{Document}
use Rattle.desk_model.specs.Limits.{record_count, records_in}
use Rattle.desk_core.specs.Counts.{active_postings, active_records, is_active}

one-few : (b : Bool) (registers ledgers : ℕ) →
    cond b registers 0 + cond b ledgers 0 ≤ registers + ledgers
one-few true registers ledgers = omega arith
one-few false registers ledgers = omega arith

pub active-few : (ds : List Document) →
    sum_by active_records ds + sum_by active_postings ds ≤ records_in ds
active-few [] = omega arith
active-few (d ∷ ds) = omega (
  arith,
  one-few (is_active d.doc) (sum_by length d.sets.registers) (sum_by length d.sets.ledgers),
  active-few ds,
  sum_by-cons active_records d ds,
  sum_by-cons active_postings d ds,
  sum_by-cons record_count d ds,
)
