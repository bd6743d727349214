use Rattle.reg_base.proofs.DayLemmas.{found_bounds}
use Rattle.reg_base.proofs.UnitParts.{part_number}
use Rattle.reg_base.specs.Days.{part_start}
use Rattle.reg_base.proofs.units.part_start.Goals as goal

pub overflow_sub-result : goal.overflow_sub-result
overflow_sub-result c =
    let d = c.calendar_day-c.ensures in
    (found_bounds (part_start c.args.months c.calendar_day-c.result) _ _ c.day_number.ensures.some
    c.unwrap.ensures d.century.first d.century.last).0

pub returns : goal.returns
returns c =
    let d = c.calendar_day-c.ensures in
    part_number c.args.months c.calendar_day-c.result _ _ _ c.day_number.ensures.some
    c.unwrap.ensures d.value
    (found_bounds (part_start c.args.months c.calendar_day-c.result) _ _ c.day_number.ensures.some
    c.unwrap.ensures d.century.first d.century.last).0
