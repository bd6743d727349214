use Rattle.std.proofs.Common.{◌+◌, ◌-◌, ◌≤◌, length, take, if◌then◌else◌}
use Rattle.reg_io.specs.LineReaders.{HasNoLineFeed}
use Rattle.reg_io.specs.LineReaders.{LeavesRest, ReadsOn}
use Rattle.reg_io.specs.declared.window.TheConstants.{WINDOW_BYTES}
use Rattle.reg_io.proofs.line_reader.LineReader.find_line.Given as goal

abbrev pub invariant-reads : goal.invariant-reads
invariant-reads g l = record {
  within : l.scanned ≤ length l.self.window;
  in_room : l.scanned ≤ l.self.room;
  scanned : HasNoLineFeed (take l.scanned l.self.window);
  on : ReadsOn g.S.Device.left l.fn.self l.self;
  rest : LeavesRest g.S.Device.taken g.S.Device.read_faults g.S.Device.write_faults
      g.S.Device.borrow_name
      l.fn.self.source l.self.source;
}

abbrev pub decreases-reads : goal.decreases-reads
decreases-reads g l =
    WINDOW_BYTES - length l.self.window + (if l.self.ended then 0 else 1)
