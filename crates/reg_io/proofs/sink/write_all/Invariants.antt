use Rattle.std.proofs.Common.{length, take, ◌-◌, ◌≡◌, ◌≤◌}
use Rattle.std.specs.Io.KnownBytes.{Appends}
use Rattle.reg_io.specs.Counts.{LeavesSide}
use Rattle.reg_io.proofs.sink.write_all.Given as goal

abbrev pub invariant-loop-done : goal.invariant-loop-done
invariant-loop-done g l = record {
  within : l.done ≤ length l.bytes;
  front : Appends (g.K.Device.taken l.fn.sink) (g.K.Device.taken l.sink) (take l.done l.bytes);
  later : g.K.Device.write_faults l.fn.sink ≤ g.K.Device.write_faults l.sink;
  others : LeavesSide (g.K.Device.left l.fn.sink) (g.K.Device.left l.sink)
      (g.K.Device.read_faults l.fn.sink) (g.K.Device.read_faults l.sink);
  same : g.K.Device.borrow_name l.sink ≡ g.K.Device.borrow_name l.fn.sink;
}

abbrev pub decreases-loop-done : goal.decreases-loop-done
decreases-loop-done g l = length l.bytes - l.done
