use Rattle.reg_base.proofs.SumTextLemmas.{parse_num-sum_text}
use Rattle.reg_base.proofs.read_back.numbers_read_back.Goals as goal

pub returns : goal.returns
returns c = parse_num-sum_text
