use Rattle.std.proofs.Common.{arith, ap, ◌++◌, ◌∙◌}
use Rattle.reg_base.proofs.NumberLemmas.{decimal-number_text}
use Rattle.reg_base.proofs.sums.number_string.Goals as goal

pub returns : goal.returns
returns c =
    c.in_ok-text.ensures.ok
    ∙ ap (λ digits. c.args.front.now ++ digits) (decimal-number_text c.args.number (omega arith))
