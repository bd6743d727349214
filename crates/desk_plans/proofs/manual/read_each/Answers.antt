use Rattle.std.proofs.Common.{Ok, sym, ap, ◌∙◌}
use Rattle.desk_plans.proofs.ReadingLemmas.{drop_at, following-next}
use Rattle.desk_plans.proofs.ReadingLemmas.{following-done}
use Rattle.desk_plans.proofs.manual.read_each.Goals as goal

pub texts-preserved : goal.texts-preserved
texts-preserved g c =
    following-next (g.S.ReadsRecord.reads c.args.space.now) _ _ c.text-item.result
    c.texts.records.items c.push.new.self.items c.in_ok-record.record _
    (drop_at c.args.texts.now c.texts.text-index c.text-item.result c.texts-test.true
    c.text-item.is)
    (sym c.in_ok-record.ensures) c.in_ok-push.ensures.items c.texts.invariant

pub returns : goal.returns
returns g c =
    sym (ap Ok c.from_vec.ensures
    ∙ following-done (g.S.ReadsRecord.reads c.args.space.now) c.args.texts.now c.texts.text-index
    c.texts.records.items _
    c.texts-test.false c.texts.invariant)
