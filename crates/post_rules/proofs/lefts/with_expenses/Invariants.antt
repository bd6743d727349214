use Rattle.std.proofs.Common.{ℕ, Some, take}
use Rattle.row_sums.specs.Sums.{Adds}
use Rattle.post_rules.specs.Bounds.{own_expenses}
use Rattle.post_rules.proofs.lefts.with_expenses.Given as goal

-- the expenses so far are added to the rows that were given
abbrev pub invariant-own : goal.invariant-own
invariant-own l = (number : ℕ)
    → Adds (Some l.by) l.resources (own_expenses l.filter number (take l.rec-index l.own))
    l.initial.sums l.sums
