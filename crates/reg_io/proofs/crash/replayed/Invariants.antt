use Rattle.std.proofs.Common.{take}
use Rattle.reg_io.specs.Crashes.{Follows}
use Rattle.reg_io.specs.DiskCalls.{history_of}
use Rattle.reg_io.proofs.crash.replayed.Given as goal

abbrev pub invariant-loop-call : goal.invariant-loop-call
invariant-loop-call l = record {
  follows : Follows l.replay (history_of l.first (take l.call-index l.calls));
}
