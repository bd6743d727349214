use Rattle.std.proofs.Common.{◌≡◌, ◌++◌, map, drop}
use Rattle.text_reports.specs.TrialBalances.{trial_line}
use Rattle.text_reports.proofs.trial.push_rows.Given as goal

abbrev pub invariant-rows : goal.invariant-rows
invariant-rows l =
    l.lines ++ map (trial_line l.chart) (drop l.row-index l.rows)
    ≡ l.initial.lines ++ map (trial_line l.chart) l.rows
