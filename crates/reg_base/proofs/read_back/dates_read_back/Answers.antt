use Rattle.reg_base.proofs.DateTextLemmas.{parse_date-text, parse_date_end-text}
use Rattle.reg_base.proofs.read_back.dates_read_back.Goals as goal

pub returns-clause-dates : goal.returns-clause-dates
returns-clause-dates c = parse_date-text

pub returns-clause-ends : goal.returns-clause-ends
returns-clause-ends c = parse_date_end-text
