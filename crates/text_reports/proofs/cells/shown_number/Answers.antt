use Rattle.std.proofs.Common.{arith, ◌∙◌}
use Rattle.reg_base.proofs.ForAbove.{decimal-number_text}
use Rattle.text_reports.proofs.cells.shown_number.Goals as goal

pub returns : goal.returns
returns c = c.in_ok-text.ensures.ok ∙ decimal-number_text c.args.number (omega arith)
