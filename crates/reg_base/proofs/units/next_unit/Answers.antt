use Rattle.std.proofs.Common.{◌≡◌, ◌<◌, true, false, Some, rules, refl, ap, sym, ◌∙◌, option_map}
use Rattle.std.proofs.Common.{arith}
use Rattle.reg_base.specs.Units.{midnight, starts_unit, next_day, next_unit}
use Rattle.reg_base.proofs.UnitLemmas.{find_to-here, find_to-skip, find_to-end}
use Rattle.reg_base.proofs.units.next_unit.Goals as goal

pub loop-day-init : goal.loop-day-init
unfolding next_day
loop-day-init c = rw c.seconds.ensures.value refl

pub returns-then-starts_unit : goal.returns-then-starts_unit
unfolding next_unit
returns-then-starts_unit c =
    let below : c.loop-day.day < 36_525 = omega arith in
    let starts : starts_unit c.args.by c.loop-day.day ≡ true = search rules in
    ap Some c.midnight.ensures
    ∙ ap (option_map midnight)
    (sym (find_to-here c.args.by 36_525 c.loop-day.day below starts) ∙ c.loop-day.invariant)

pub loop-day-preserved : goal.loop-day-preserved
loop-day-preserved c =
    let below : c.loop-day.day < 36_525 = omega arith in
    let none : starts_unit c.args.by c.loop-day.day ≡ false = search rules in
    sym (find_to-skip c.args.by 36_525 c.loop-day.day below none) ∙ c.loop-day.invariant

pub returns : goal.returns
unfolding next_unit
returns c =
    ap (option_map midnight)
    (sym (find_to-end c.args.by 36_525 c.loop-day.day (omega arith)) ∙ c.loop-day.invariant)
