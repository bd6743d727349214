use Rattle.std.proofs.Common.{arith, ap, ◌++◌, ◌∷◌, ◌∙◌}
use Rattle.reg_base.proofs.ForAbove.{decimal-number_text}
use Rattle.text_reports.proofs.cells.line_text.Goals as goal

pub returns : goal.returns
returns c =
    c.in_ok-text.ensures.ok
    ∙ ap (λ digits. c.args.point.now ++ (47 ∷ digits))
    (decimal-number_text c.args.line (omega arith))
