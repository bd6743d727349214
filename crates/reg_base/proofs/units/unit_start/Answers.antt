use Rattle.std.proofs.Common.{◌/◌, arith}
use Rattle.reg_base.proofs.UnitLemmas.{start_day-le}
use Rattle.reg_base.proofs.units.unit_start.Goals as goal

pub midnight-requires : goal.midnight-requires
midnight-requires c =
    omega (arith, start_day-le c.args.by (c.seconds.result / 86_400), c.start_day.ensures)
