use Rattle.std.proofs.Common.{false, length, ap, ◌∙◌, eq-eqb}
use Rattle.reg_io.specs.Lines.{line_of}
use Rattle.reg_io.proofs.GivesLines.{GivesRaw-raw}
use Rattle.reg_io.proofs.line_reader.LineReader.give_rest.Goals as goal

pub returns-clause-next : goal.returns-clause-next
returns-clause-next g c =
    GivesRaw-raw g.S.Device.left _ _ (record { content = c.args.self.now.window; ended = false }) _
    (c.in_ok-line.ensures
    ∙ ap (λ w. line_of (record { content = w; ended = false })) c.as_slice-content.ensures.value)
    c.take_rest.ensures.taken
    (λ _ none. let empty = eq-eqb (length c.as_slice-content.result.now) 0
    (ap length (c.as_slice-content.ensures.value ∙ none)) in
    let some = c.if-is_empty.ensures in cc)
