use Rattle.std.proofs.Common.{Err}
use Rattle.reg_io.specs.LineReaders.{state_of}
use Rattle.reg_io.specs.declared.line.LineFault.TheVariants.{Read}
use Rattle.reg_io.proofs.GivesLines.{NextRaw-after, Skips-on, StopsInPart-part}
use Rattle.reg_io.proofs.NextLines.{NextLine-raw}
use Rattle.reg_io.proofs.line_reader.LineReader.next_line.Goals as goal

pub returns-in-Ok-clause-next : goal.returns-in-Ok-clause-next
returns-in-Ok-clause-next g c = let e = c.in-Ok.ensures in
    NextLine-raw g.S.Device.left g.S.Device.read_faults (state_of c.args.self.now)
    (state_of c.answer.new.self) c.answer.result
    (NextRaw-after g.S.Device.left g.S.Device.read_faults c.args.self.now c.find_line.new.self
    c.answer.new.self c.answer.result e.on e.rest.later c.answer.ensures.next)

pub returns-in-Err-clause-next : goal.returns-in-Err-clause-next
returns-in-Err-clause-next g c = let e = c.in-Err.ensures in
    NextLine-raw g.S.Device.left g.S.Device.read_faults (state_of c.args.self.now)
    (state_of c.find_line.new.self) (Err Read)
    (StopsInPart-part g.S.Device.left c.args.self.now c.find_line.new.self 0 _ _
    (Skips-on g.S.Device.left c.args.self.now c.find_line.new.self e.on) e.err.0
    (e.on.ended e.err.1) e.cause)
