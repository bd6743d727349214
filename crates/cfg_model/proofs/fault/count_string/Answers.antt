use Rattle.std.proofs.Common.{codes, ◌++◌, ◌∙◌, ap, arith}
use Rattle.reg_base.proofs.ForAbove.{decimal-number_text}
use Rattle.cfg_model.proofs.fault.count_string.Goals as goal

pub returns : goal.returns
returns c =
    c.in_ok-format.ensures.ok
    ∙ ap (λ digits. codes "5 Count " ++ (c.args.what.now ++ (codes " " ++ digits)))
    (decimal-number_text c.args.number (omega (arith, c.ranges.number.fits)))
