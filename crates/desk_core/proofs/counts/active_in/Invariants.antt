-- What counts of the documents so far is added, and it is not too much.
use Rattle.std.proofs.Common.{◌≡◌, ◌≤◌, ◌*◌, length, take}
use Rattle.std.specs.List.{sum_by}
use Rattle.desk_core.specs.Counts.{active_postings, active_records}
use Rattle.desk_core.proofs.counts.active_in.Given as goal

abbrev pub invariant-loop-document : goal.invariant-loop-document
invariant-loop-document l = record {
  records : l.active.records ≡ sum_by active_records (take (length l.yielded) l.fn.documents);
  postings : l.active.postings ≡ sum_by active_postings (take (length l.yielded) l.fn.documents);
  few : l.active.records ≤ 160_000 * length l.yielded;
  small : l.active.postings ≤ 40_000 * length l.yielded;
}
