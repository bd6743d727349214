use Rattle.reg_base.proofs.PointTextLemmas.{parse_point-text}
use Rattle.reg_base.proofs.read_back.points_read_back.Goals as goal

pub returns : goal.returns
returns c = parse_point-text
