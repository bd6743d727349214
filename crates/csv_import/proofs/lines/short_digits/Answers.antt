use Rattle.std.proofs.Common.{arith, ◌∙◌}
use Rattle.reg_base.proofs.ForAbove.{decimal-number_text}
use Rattle.csv_import.proofs.lines.short_digits.Goals as goal

pub returns : goal.returns
returns c = (
  c.format.ensures.text ∙ decimal-number_text c.args.number (omega arith),
  c.format.ensures.fits,
)
