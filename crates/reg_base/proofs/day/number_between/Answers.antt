use Rattle.std.proofs.Common.{arith, ◌<◌, ℕ}
use Rattle.std.proofs.lemmas.List.{length-take}
use Rattle.std.proofs.lemmas.Grind.{common_steps}
use Rattle.reg_base.proofs.NumberLemmas.{power_of_ten-le}
use Rattle.reg_base.proofs.day.number_between.Goals as goal

pub overflow_mul-number : goal.overflow_mul-number
overflow_mul-number c =
    let few : c.loop-digit.digit-index < 4 = omega (arith, length-take {A = ℕ}) in
    omega (arith, power_of_ten-le _ few)

pub overflow_add-number : goal.overflow_add-number
overflow_add-number c =
    let few : c.loop-digit.digit-index < 4 = omega (arith, length-take {A = ℕ}) in
    let small = power_of_ten-le c.loop-digit.digit-index few in
    let digit = c.if-not-is_ascii_digit.ensures.cases in
    grind (arith, common_steps)
