use Rattle.std.proofs.Common.{◌≡◌, sym, subst}
use Rattle.reg_base.specs.Results.{none_or}
use Rattle.desk_core.specs.declared.way.Way.{Way}
use Rattle.desk_plans.specs.Sights.{sight_view}
use Rattle.desk_core.specs.Ways.{plan_limits}
use Rattle.desk_core.proofs.desk.Desk.plan_refused.Goals as goal

pub returns-in-Served : goal.returns-in-Served
returns-in-Served c = λ plan made lines records.
    subst (λ (way : Way). none_or c.plan_passes.result
    ≡ plan_limits way c.args.self.now.desk (sight_view c.args.sight.now) plan made)
    (sym c.in-Served.is) (c.plan_passes.ensures plan made lines records)
