use Rattle.std.proofs.Common.{ap, ◌∙◌, drop}
use Rattle.reg_io.proofs.Ranges.{slice_range-later}
use Rattle.reg_io.proofs.window.Window.drop_front.Goals as goal

pub returns : goal.returns
returns c =
    slice_range-later c.self.inside.buffer.items c.self.inside.start c.args.count c.self.inside.end
    ∙ ap (drop c.args.count) c.self.view_is
