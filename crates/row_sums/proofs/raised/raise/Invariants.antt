use Rattle.std.proofs.Common.{◌≡◌, ℕ, ◌<◌, ◌+ℤ◌, ◌++◌, map, drop}
use Rattle.std.specs.List.{range_with_len}
use Rattle.reg_base.specs.Records.{amount_at}
use Rattle.row_sums.specs.Sums.{sum_at, IsInReach}
use Rattle.row_sums.proofs.raised.raise.Given as goal

abbrev pub invariant-loop-j : goal.invariant-loop-j
invariant-loop-j l = record {
  value : l.sums ≡ map (λ j. amount_at j l.rec +ℤ sum_at l.initial.sums j)
      (range_with_len 0 l.j) ++ drop l.j l.initial.sums;
  small : (j : ℕ) → j < l.j → IsInReach 1 (amount_at j l.rec);
}
