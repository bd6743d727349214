use Rattle.std.proofs.Common.{refl}
use Rattle.report_tests.proofs.balance_tests.has_moderate_numbers.Goals as goal

pub returns-then-is_moderate : goal.returns-then-is_moderate
returns-then-is_moderate c = λ last. record {
  open_dr = c.if-not-is_moderate.ensures refl;
  open_cr = c.if-not-is_moderate-2.ensures refl;
  turn_dr = c.if-not-is_moderate-3.ensures refl;
  turn_cr = c.if-not-is_moderate-4.ensures refl;
  close_dr = c.if-is_moderate.ensures refl;
  close_cr = c.is_moderate-then-is_moderate.ensures last;
}
