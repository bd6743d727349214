use Rattle.std.proofs.Common.{◌∙◌}
use Rattle.reg_base.proofs.NumberLemmas.{min-units}
use Rattle.reg_base.proofs.num.capped_units.Goals as goal

pub returns : goal.returns
returns c =
    let power = c.power_of_ten.ensures in
    c.saturating_mul.ensures
    ∙ min-units _ _ _ _ c.args.zeros c.args.whole.now c.args.decimals.now c.read_on.ensures
    c.read_on-value.ensures power.value power.positive
