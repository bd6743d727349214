use Rattle.std.proofs.Common.{◌≡◌, refl, arith, pos, w16, FitsSigned}
use Rattle.std.proofs.lemmas.Int.{ints, to_z-of_z}
use Rattle.reg_base.proofs.DayLemmas.{IsDayNumber-from_ymd, counted-from_civil, year_bounds}
use Rattle.reg_base.proofs.day.day_at.Goals as goal

pub returns-clause-number : goal.returns-clause-number
returns-clause-number c =
    let told = c.from_days_since_min-date.ensures in
    let d = c.from_days_since_min-date.result in
    let bounds = year_bounds d.year d.month d.day c.args.number (d.year_in, d.month_in, d.day_in)
    (counted-from_civil d.year d.month d.day c.args.number told) c.requires.first c.requires.last in
    let fits : FitsSigned w16 d.year = omega (arith, ints) in
    let size = simp to_z-of_z at c.unsigned_abs.ensures.value in
    let year : d.year ≡ pos c.unsigned_abs.result = omega (arith, ints) in
    IsDayNumber-from_ymd _ d.year d.month d.day c.args.number year refl refl d.month_in d.day_in
    told

pub returns-clause-century : goal.returns-clause-century
returns-clause-century c =
    let told = c.from_days_since_min-date.ensures in
    let d = c.from_days_since_min-date.result in
    let bounds = year_bounds d.year d.month d.day c.args.number (d.year_in, d.month_in, d.day_in)
    (counted-from_civil d.year d.month d.day c.args.number told) c.requires.first c.requires.last in
    let fits : FitsSigned w16 d.year = omega (arith, ints) in
    let size = simp to_z-of_z at c.unsigned_abs.ensures.value in
    record { first = omega (arith, ints); last = omega (arith, ints) }
