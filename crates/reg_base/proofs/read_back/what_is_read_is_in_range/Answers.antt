use Rattle.reg_base.proofs.RangeLemmas.{parse_num-within, parse_date-within, parse_date_end-within}
use Rattle.reg_base.proofs.RangeLemmas.{parse_point-IsPoint, parse_cut-IsCut}
use Rattle.reg_base.proofs.read_back.what_is_read_is_in_range.Goals as goal

pub returns-clause-numbers : goal.returns-clause-numbers
returns-clause-numbers c = parse_num-within

pub returns-clause-dates : goal.returns-clause-dates
returns-clause-dates c = parse_date-within

pub returns-clause-ends : goal.returns-clause-ends
returns-clause-ends c = parse_date_end-within

pub returns-clause-points : goal.returns-clause-points
returns-clause-points c = parse_point-IsPoint

pub returns-clause-cuts : goal.returns-clause-cuts
returns-clause-cuts c = parse_cut-IsCut
