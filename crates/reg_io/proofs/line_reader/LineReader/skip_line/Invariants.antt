use Rattle.std.proofs.Common.{◌≡◌, ◌+◌, ◌-◌, ◌<◌, ◌≤◌, false, length}
use Rattle.reg_io.specs.LineReaders.{IsPart, LeavesRest, Skips}
use Rattle.reg_io.specs.declared.line.TheConstants.{MOST_LINE_BYTES}
use Rattle.reg_io.proofs.line_reader.LineReader.skip_line.Given as goal

abbrev pub invariant-parts : goal.invariant-parts
invariant-parts g l = record {
  skips : Skips g.S.Device.left l.fn.self l.self (l.start - l.self.room);
  start : l.start ≡ l.fn.self.room;
  within : l.self.room ≤ l.start;
  part : IsPart l.self;
  some : 0 < length l.self.window;
  long : MOST_LINE_BYTES < l.start - l.self.room + length l.self.window;
  not_ended : l.self.ended ≡ false;
  rest : LeavesRest g.S.Device.taken g.S.Device.read_faults g.S.Device.write_faults
      g.S.Device.borrow_name
      l.fn.self.source l.self.source;
}

abbrev pub decreases-parts : goal.decreases-parts
decreases-parts g l = l.self.room
