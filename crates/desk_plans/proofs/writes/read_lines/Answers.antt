use Rattle.std.proofs.Common.{Ok, sym, ap, ◌∙◌}
use Rattle.desk_model.specs.Fields.{cells_of}
use Rattle.desk_plans.proofs.ReadingLemmas.{drop_at, following-next, following-done}
use Rattle.desk_plans.proofs.writes.read_lines.Goals as goal

pub texts-preserved : goal.texts-preserved
texts-preserved c =
    following-next (cells_of c.args.fields.now) _ _ c.line-item.result c.texts.lines.items
    c.push.new.self.items c.in_ok-cells.cells _
    (drop_at c.args.texts.now c.texts.line-index c.line-item.result c.texts-test.true
    c.line-item.is)
    (sym (ap (cells_of c.args.fields.now) (sym c.as_slice.ensures) ∙ c.in_ok-cells.ensures))
    c.in_ok-push.ensures.items c.texts.invariant

pub returns : goal.returns
returns c =
    sym (ap Ok c.from_vec.ensures
    ∙ following-done (cells_of c.args.fields.now) c.args.texts.now c.texts.line-index
    c.texts.lines.items _
    c.texts-test.false c.texts.invariant)
