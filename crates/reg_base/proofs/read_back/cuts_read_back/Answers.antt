use Rattle.reg_base.proofs.PointTextLemmas.{parse_cut-text}
use Rattle.reg_base.proofs.read_back.cuts_read_back.Goals as goal

pub returns : goal.returns
returns c = parse_cut-text
