use Rattle.std.proofs.Common.{drop}
use Rattle.std.specs.List.{All}
use Rattle.text_reports.specs.TrialBalances.{HasModerateNumbers}
use Rattle.report_tests.proofs.balance_tests.are_moderate.Given as goal

abbrev pub invariant-rows : goal.invariant-rows
invariant-rows l =
    All HasModerateNumbers (drop l.row-index l.rows) → All HasModerateNumbers l.rows
