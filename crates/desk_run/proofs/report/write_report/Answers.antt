use Rattle.desk_reports.specs.Reports.{report_of}
use Rattle.desk_run.proofs.ReportLemmas.{TellsReport-memory, TellsReport-refused}
use Rattle.desk_run.proofs.report.write_report.Goals as goal

pub returns-in_ok-refusal_line-in-Err-Refused : goal.returns-in_ok-refusal_line-in-Err-Refused
returns-in_ok-refusal_line-in-Err-Refused g c = TellsReport-refused
    (report_of c.args.desk.now.desk
    (record { name = c.args.name.now; from = c.args.from.now; to = c.args.to.now })) _ _ _
    c.in-Err-Refused.refusal c.in_ok-refusal_line-in-Err-Refused.field-0
    (rw c.in-Err-Refused.field-0-is at c.in-Err-Refused.ensures.value) c.in_ok-refusal_line-in-Err-Refused.ensures

pub returns-in-Err-Memory : goal.returns-in-Err-Memory
returns-in-Err-Memory g c = TellsReport-memory _ _ _ _
