use Rattle.text_reports.proofs.AlignLemmas.{lines-align}
use Rattle.text_reports.proofs.laws.lines_align.Goals as goal

pub returns : goal.returns
returns c = lines-align
