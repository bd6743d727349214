use Rattle.std.proofs.Common.{Ok, sym, ap, ◌∙◌}
use Rattle.desk_model.specs.RegisterQuestions.{asked_value}
use Rattle.desk_plans.proofs.ForAbove.{drop_at, following-next, following-done}
use Rattle.desk_tables.proofs.lists.asked_values.Goals as goal

pub texts-preserved : goal.texts-preserved
texts-preserved c =
    following-next (asked_value c.args.dimension.now) _ _ c.text-item.result c.texts.values.items
    c.push.new.self.items c.in_ok-value.value _
    (drop_at c.args.texts.now c.texts.text-index c.text-item.result c.texts-test.true
    c.text-item.is)
    (sym c.in_ok-value.ensures) c.in_ok-push.ensures.items c.texts.invariant

pub returns : goal.returns
returns c =
    sym (ap Ok c.from_vec.ensures
    ∙ following-done (asked_value c.args.dimension.now) c.args.texts.now c.texts.text-index
    c.texts.values.items _
    c.texts-test.false c.texts.invariant)
