use Rattle.reg_io.proofs.FirstLineFeeds.{found_line, found_part, found_past}
use Rattle.reg_io.proofs.line_reader.LineReader.look.Goals as goal

pub returns-in-Some : goal.returns-in-Some
returns-in-Some g c = found_line _ _ _ _ _ c.as_slice-bytes.ensures.value c.min-limit.ensures
    c.requires.within c.requires.room c.requires.scanned _ c.in-Some.ensures

pub returns-then-self-bytes : goal.returns-then-self-bytes
returns-then-self-bytes g c = found_past _ _ _ _ _ c.as_slice-bytes.ensures.value
    c.min-limit.ensures
    c.requires.within c.requires.room c.requires.scanned c.in_default.ensures c.if-self-bytes.true

pub returns-then-self : goal.returns-then-self
returns-then-self g c = let part = found_part _ _ _ _ _ c.as_slice-bytes.ensures.value
    c.min-limit.ensures
    c.requires.within c.requires.room c.requires.scanned c.in_default.ensures
    c.if-self-bytes.false in
    (record { one_line = part.0; within = part.1 }, c.if-self.true)

pub returns-else-self : goal.returns-else-self
returns-else-self g c = let part = found_part _ _ _ _ _ c.as_slice-bytes.ensures.value
    c.min-limit.ensures
    c.requires.within c.requires.room c.requires.scanned c.in_default.ensures
    c.if-self-bytes.false in
    (record { one_line = part.0; within = part.1 }, c.if-self.false)
