use Rattle.std.proofs.Common.{ap, ◌∙◌, map}
use Rattle.text_reports.proofs.TotalLemmas.{few-leaves, moderate-leaves, pointed}
use Rattle.text_reports.proofs.trial.trial_lines.Goals as goal

pub total_line-requires-clause-few : goal.total_line-requires-clause-few
total_line-requires-clause-few c =
    few-leaves c.as_slice.result.now c.args.chart.now c.args.rows.now
    (ap (map pointed) c.as_slice.ensures.value ∙ c.in_ok-leaves.ensures) c.requires.few

pub total_line-requires-clause-moderate : goal.total_line-requires-clause-moderate
total_line-requires-clause-moderate c =
    moderate-leaves c.as_slice.result.now c.args.chart.now c.args.rows.now
    (ap (map pointed) c.as_slice.ensures.value ∙ c.in_ok-leaves.ensures) c.requires.moderate
