use Rattle.std.proofs.Common.{◌≡◌, ◌++◌, drop, map}
use Rattle.text_reports.specs.TrialBalances.{leaf_rows}
use Rattle.text_reports.proofs.totals.leaf_rows.Given as goal

abbrev pub invariant-rows : goal.invariant-rows
invariant-rows l =
    map (λ row. row.now) l.leaves.items ++ leaf_rows l.chart (drop l.row-index l.rows)
    ≡ leaf_rows l.chart l.rows
