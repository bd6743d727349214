use Rattle.desk_reports.proofs.PrintableLemmas.{step-printable}
use Rattle.desk_reports.proofs.laws.reports_can_be_printed.Goals as goal

pub returns : goal.returns
returns c = step-printable c.yields_are_within_limits.ensures
    c.what_is_read_is_in_range.ensures.numbers
