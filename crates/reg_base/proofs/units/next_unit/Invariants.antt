use Rattle.std.proofs.Common.{◌≡◌, ◌/◌}
use Rattle.reg_base.specs.Units.{next_day}
use Rattle.reg_base.proofs.UnitLemmas.{find_to}
use Rattle.reg_base.proofs.units.next_unit.Given as goal

abbrev pub invariant-loop-day : goal.invariant-loop-day
invariant-loop-day l = find_to l.by 36_525 l.day ≡ next_day l.by (l.fn.date / 86_400)
