use Rattle.std.proofs.Common.{◌≡◌, ◌<◌, ◌≤◌, ◌-◌, IfSome}
use Rattle.reg_io.specs.Disks.{Stays}
use Rattle.post_journal.specs.Openings.{RunIsLong}
use Rattle.post_journal.proofs.ReadRuns.{IsRead}
use Rattle.post_journal.proofs.entries.read_run.Given as goal

abbrev pub invariant-entries : goal.invariant-entries
invariant-entries g l = record {
  within : l.place < l.len;
  long : RunIsLong l.entries l.place;
  read : IfSome (g.D.Disk.state l.fn.disk).content (IsRead l.entries l.place);
  stays : Stays (g.D.Disk.state l.fn.disk) (g.D.Disk.state l.disk);
  later : g.D.Disk.faults l.fn.disk ≤ g.D.Disk.faults l.disk;
  same : g.D.Disk.borrow_name l.disk ≡ g.D.Disk.borrow_name l.fn.disk;
}

abbrev pub decreases-entries : goal.decreases-entries
decreases-entries g l = l.len - l.place
