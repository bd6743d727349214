use Rattle.desk_run.proofs.ReportLemmas.{refused_words}
use Rattle.desk_run.proofs.report.report_at.Goals as goal

pub returns-in-Err-clause-printed : goal.returns-in-Err-clause-printed
returns-in-Err-clause-printed c = refused_words _ _ c.in-Err.refusal c.in-Err.ensures.value
