use Rattle.std.proofs.Common.{Ok, sym, ap, ◌∙◌}
use Rattle.desk_model.specs.RegisterQuestions.{asked_list}
use Rattle.desk_plans.proofs.ForAbove.{drop_at, following-next, following-done}
use Rattle.desk_tables.proofs.lists.lists_of.Goals as goal

pub texts-preserved : goal.texts-preserved
texts-preserved c =
    following-next (asked_list c.args.register.now) _ _ c.text-item.result c.texts.lists.items
    c.push.new.self.items c.in_ok-list.list _
    (drop_at c.args.texts.now c.texts.text-index c.text-item.result c.texts-test.true
    c.text-item.is)
    (sym c.in_ok-list.ensures) c.in_ok-push.ensures.items c.texts.invariant

pub returns : goal.returns
returns c =
    sym (ap Ok c.from_vec.ensures
    ∙ following-done (asked_list c.args.register.now) c.args.texts.now c.texts.text-index
    c.texts.lists.items _
    c.texts-test.false c.texts.invariant)
