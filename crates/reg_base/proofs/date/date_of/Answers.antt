use Rattle.std.proofs.Common.{arith}
use Rattle.reg_base.proofs.DayLemmas.{found_bounds, date_of-number}
use Rattle.reg_base.proofs.date.date_of.Goals as goal

pub overflow_sub-days : goal.overflow_sub-days
overflow_sub-days c =
    (found_bounds c.args.day _ _ c.day_number.ensures.some c.in_ok-number.ensures.ok_part
    c.if-day-lt2000.false c.if-day-gt2099.false).0

pub overflow_mul-result : goal.overflow_mul-result
overflow_mul-result c =
    omega (
      arith,
      found_bounds c.args.day _ _ c.day_number.ensures.some
          c.in_ok-number.ensures.ok_part c.if-day-lt2000.false c.if-day-gt2099.false,
    )

pub overflow_add-result : goal.overflow_add-result
overflow_add-result c =
    omega (
      arith,
      found_bounds c.args.day _ _ c.day_number.ensures.some
          c.in_ok-number.ensures.ok_part c.if-day-lt2000.false c.if-day-gt2099.false,
    )

pub invariant_of-result : goal.invariant_of-result
invariant_of-result c =
    omega (
      arith,
      found_bounds c.args.day _ _ c.day_number.ensures.some
          c.in_ok-number.ensures.ok_part c.if-day-lt2000.false c.if-day-gt2099.false,
    )

pub returns : goal.returns
returns c =
    date_of-number c.args.day c.args.second _ _ c.day_number.ensures.some
    c.in_ok-number.ensures.ok_part c.if-day-lt2000.false c.if-day-gt2099.false
