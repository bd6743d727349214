use Rattle.std.proofs.Common.{◌≡◌, ◌≤◌, None, false}
use Rattle.reg_io.specs.LineStates.{ahead}
use Rattle.desk_core.specs.Histories.{Holds}
use Rattle.desk_run.specs.AnsweredLines.{IsRunning}
use Rattle.desk_run.proofs.run.answer_lines.Given as goal

abbrev pub invariant-answered : goal.invariant-answered
invariant-answered g l = record {
  running : IsRunning l.fn.desk.desk l.desk.desk (ahead g.S.Device.left l.fn.lines)
      (ahead g.S.Device.left l.lines)
      l.lines.room l.lines.ended (g.O.Device.taken l.fn.out) (g.O.Device.taken l.out)
      (g.D.Disk.state l.fn.disk) (g.D.Disk.state l.disk);
  going : l.desk.stopped ≡ false;
  holds : Holds l.desk.desk l.journal (g.D.Disk.state l.disk);
  fault : l.lines.fault ≡ None;
  read_later : g.S.Device.read_faults l.fn.lines.source ≤ g.S.Device.read_faults l.lines.source;
  write_later : g.O.Device.write_faults l.fn.out ≤ g.O.Device.write_faults l.out;
  disk_later : g.D.Disk.faults l.fn.disk ≤ g.D.Disk.faults l.disk;
  same : g.S.Device.borrow_name l.lines.source ≡ g.S.Device.borrow_name l.fn.lines.source;
  disk_same : g.D.Disk.borrow_name l.disk ≡ g.D.Disk.borrow_name l.fn.disk;
}

abbrev pub decreases-answered : goal.decreases-answered
decreases-answered g l = l.lines.room
