-- The total so far is that of the lists so far, which are short.
use Rattle.std.proofs.Common.{◌≡◌, ◌≤◌, ◌*◌, length, take}
use Rattle.std.specs.List.{sum_by}
use Rattle.desk_plans.proofs.counts.total_len.Given as goal

abbrev pub invariant-loop-list : goal.invariant-loop-list
invariant-loop-list g l = record {
  value : l.total ≡ sum_by length (take l.list-index l.lists);
  few : l.total ≤ 5_000 * l.list-index;
}
