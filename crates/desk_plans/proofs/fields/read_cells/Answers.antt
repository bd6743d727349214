use Rattle.std.proofs.Common.{Ok, sym, ap, ◌∙◌}
use Rattle.desk_model.specs.Fields.{cell_of}
use Rattle.desk_plans.proofs.ReadingLemmas.{drop_at, following-next, following-done}
use Rattle.desk_plans.proofs.fields.read_cells.Goals as goal

pub fields-preserved : goal.fields-preserved
fields-preserved c =
    following-next (cell_of c.args.texts.now) _ _ c.field-item.result c.fields.cells.items
    c.push.new.self.items c.in_ok-cell.cell _
    (drop_at c.args.fields.now c.fields.field-index c.field-item.result c.fields-test.true
    c.field-item.is)
    (sym c.in_ok-cell.ensures) c.in_ok-push.ensures.items c.fields.invariant

pub returns : goal.returns
returns c =
    sym (ap Ok c.from_vec.ensures
    ∙ following-done (cell_of c.args.texts.now) c.args.fields.now c.fields.field-index
    c.fields.cells.items _
    c.fields-test.false c.fields.invariant)
