use Rattle.std.proofs.Common.{◌∙◌, arith}
use Rattle.reg_io.proofs.Pieces.{Appends-take_more, LeavesSide-trans, within_more}
use Rattle.reg_io.proofs.sink.write_all.Goals as goal

pub loop-done-preserved : goal.loop-done-preserved
loop-done-preserved g c = let e = c.in-Ok.ensures in let h = c.loop-done.invariant in record {
  within = within_more _ _ _ h.within e.bound;
  front = Appends-take_more _ _ _ _ _ _ h.front e.bytes;
  later = omega (arith, e.cause.later);
  others = LeavesSide-trans _ _ _ _ _ _ h.others e.others;
  same = e.same ∙ h.same;
}
