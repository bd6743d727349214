use Rattle.std.proofs.Common.{take}
use Rattle.reg_io.specs.LineReaders.{HasNoLineFeed}
use Rattle.reg_io.proofs.line_reader.find_line_feed.Given as goal

abbrev pub invariant-loop-place : goal.invariant-loop-place
invariant-loop-place l = HasNoLineFeed (take l.place l.bytes)
