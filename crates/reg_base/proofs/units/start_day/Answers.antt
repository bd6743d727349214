use Rattle.std.proofs.Common.{◌≡◌, ap, sym, ◌∙◌, inl, inr, arith}
use Rattle.reg_base.specs.declared.day.Day.{Day as CalendarDay}
use Rattle.reg_base.specs.Units.{calendar_day, are_dates}
use Rattle.reg_base.proofs.UnitDays.{calendar_day-back, into_ten-lt, start_day-none, start_day-day}
use Rattle.reg_base.proofs.UnitDays.{start_day-week, start_day-ten, start_day-month}
use Rattle.reg_base.proofs.UnitParts.{start_day-quarter, start_day-half_year, start_day-year}
use Rattle.reg_base.proofs.units.start_day.Goals as goal

pub overflow_sub-result : goal.overflow_sub-result
overflow_sub-result c =
    let d = c.calendar_day.ensures in
    let day : c.calendar_day.result.day ≡ (calendar_day c.args.day).day =
    ap (λ (x : CalendarDay). x.day) d.value in
    calendar_day-back c.from.result c.args.day
    (omega (arith, into_ten-lt c.calendar_day.result.day d.day.0))

pub overflow_sub-result-in-Month : goal.overflow_sub-result-in-Month
overflow_sub-result-in-Month c =
    let d = c.calendar_day-in-Month.ensures in
    let day : c.calendar_day-in-Month.result.day ≡ (calendar_day c.args.day).day =
    ap (λ (x : CalendarDay). x.day) d.value in
    calendar_day-back c.from-in-Month.result c.args.day (omega (arith, d.day.0))

pub returns-in-Period : goal.returns-in-Period
returns-in-Period c =
    elim c.in-Period.is [
      | inl is ↦ sym (start_day-none c.args.by (ap are_dates is) c.args.day)
      | inr (inl is) ↦ sym (start_day-none c.args.by (ap are_dates is) c.args.day)
      | inr (inr is) ↦ sym (start_day-none c.args.by (ap are_dates is) c.args.day)
    ]

pub returns-in-Day : goal.returns-in-Day
returns-in-Day c = start_day-day c.args.by c.args.day c.in-Day.is

pub returns-in-Week : goal.returns-in-Week
returns-in-Week c =
    c.saturating_sub.ensures ∙ start_day-week c.args.by c.args.day c.in-Week.is

pub returns-in-TenDays : goal.returns-in-TenDays
returns-in-TenDays c =
    let d = c.calendar_day.ensures in
    start_day-ten c.args.by c.args.day c.from.result c.calendar_day.result.day c.in-TenDays.is
    (ap (λ (x : CalendarDay). x.day) d.value) d.day.0 d.day.1 (omega arith)

pub returns-in-Month : goal.returns-in-Month
returns-in-Month c =
    let d = c.calendar_day-in-Month.ensures in
    let day : c.calendar_day-in-Month.result.day ≡ (calendar_day c.args.day).day =
    ap (λ (x : CalendarDay). x.day) d.value in
    start_day-month c.args.by c.args.day c.from-in-Month.result c.in-Month.is
    (omega (arith, d.day.0))

pub returns-in-Quarter : goal.returns-in-Quarter
returns-in-Quarter c =
    start_day-quarter c.args.by c.args.day c.part_start.result c.requires c.in-Quarter.is
    c.part_start.ensures

pub returns-in-HalfYear : goal.returns-in-HalfYear
returns-in-HalfYear c =
    start_day-half_year c.args.by c.args.day c.part_start-in-HalfYear.result c.requires
    c.in-HalfYear.is c.part_start-in-HalfYear.ensures

pub returns-in-Year : goal.returns-in-Year
returns-in-Year c =
    start_day-year c.args.by c.args.day c.part_start-in-Year.result c.requires c.in-Year.is
    c.part_start-in-Year.ensures
