use Rattle.std.proofs.Common.{refl, sym, arith, pos}
use Rattle.jiff_core.proofs.CalendarLemmas.{days_in_month_bounds}
use Rattle.reg_base.proofs.DayLemmas.{day_from_year-number, civil-has_day}
use Rattle.reg_base.proofs.day.calendar_day.Goals as goal

pub returns-clause-value : goal.returns-clause-value
returns-clause-value c =
    let day = c.day_at.ensures in
    sym (day_from_year-number c.day_at.result c.args.day _ day.number day.century refl)

pub returns-clause-month : goal.returns-clause-month
returns-clause-month c =
    let day = c.day_at.ensures in
    (civil-has_day c.day_at.result (omega (arith, day.century.last)) day.number.real).1

pub returns-clause-day : goal.returns-clause-day
returns-clause-day c =
    let day = c.day_at.ensures in
    let d = c.day_at.result in
    let civil = civil-has_day d (omega (arith, day.century.last)) day.number.real in
    omega (arith, civil.2, days_in_month_bounds (pos d.year) d.month)
