use Rattle.std.proofs.Common.{rules}
use Rattle.desk_core.proofs.ForAbove.{is_fault}
use Rattle.desk_run.proofs.RunEnds.{Runs-none, Runs-first}
use Rattle.desk_run.proofs.run.run_lines.Goals as goal

pub returns-in_err-lines-clause-runs : goal.returns-in_err-lines-clause-runs
returns-in_err-lines-clause-runs g c =
    rw (is_fault c.from_residual.result _ c.from_residual.ensures)
    (Runs-none _ _ _ _ _ _ _ _ c.args.journal.now _ 0 0 c.requires.holds)

pub returns-clause-runs : goal.returns-clause-runs
returns-clause-runs g c =
    let runs = Runs-first _ _ (g.S.Device.left c.args.input.now) _ _ _ _ _ _ _ _ _
    (rw c.in_ok-lines.ensures at c.answer_lines-ran.ensures.runs) in
    search (rules, runs)
