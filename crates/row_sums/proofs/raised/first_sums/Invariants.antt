use Rattle.std.proofs.Common.{◌≡◌, ℕ, ◌<◌, map}
use Rattle.std.specs.List.{range_with_len}
use Rattle.reg_base.specs.Records.{amount_at}
use Rattle.row_sums.specs.Sums.{IsInReach}
use Rattle.row_sums.proofs.raised.first_sums.Given as goal

abbrev pub invariant-loop-j : goal.invariant-loop-j
invariant-loop-j l = record {
  value : l.sums.items ≡ map (λ j. amount_at j l.rec) (range_with_len 0 l.j);
  small : (j : ℕ) → j < l.j → IsInReach 1 (amount_at j l.rec);
}
