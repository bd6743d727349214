use Rattle.std.proofs.Common.{true, take, ap, ◌∙◌}
use Rattle.reg_io.specs.Lines.{line_of}
use Rattle.reg_io.proofs.GivesLines.{GivesRaw-raw}
use Rattle.reg_io.proofs.line_reader.LineReader.give_whole.Goals as goal

pub returns-clause-next : goal.returns-clause-next
returns-clause-next g c =
    GivesRaw-raw g.S.Device.left _ _ (record {
      content = take c.args.len c.args.self.now.window;
      ended = true;
    }) _
    (c.in_ok-line.ensures
    ∙ ap (λ w. line_of (record { content = take c.args.len w; ended = true }))
    c.as_slice.ensures.value)
    c.take_whole.ensures.taken (λ e. absurd cc)
