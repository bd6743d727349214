use Rattle.std.proofs.Common.{◌≡◌, arith, pos}
use Rattle.std.proofs.lemmas.Int.{ints}
use Rattle.reg_base.proofs.DayLemmas.{IsDayNumber-from_ymd}
use Rattle.reg_base.proofs.day.day_number.Goals as goal

pub returns-in-Ok-clause-some : goal.returns-in-Ok-clause-some
returns-in-Ok-clause-some c =
    let d = c.in-Ok.date in
    let same = c.in-Ok.ensures.value in
    let year : d.year ≡ pos c.args.day.year = omega (arith, ints) in
    IsDayNumber-from_ymd c.args.day d.year d.month d.day c.days_since_min.result year
    (omega (arith, ints)) (omega (arith, ints)) d.month_in d.day_in c.days_since_min.ensures.value
