use Rattle.std.proofs.Common.{Some, None, refl}
use Rattle.desk_model.specs.State.{Desk}
use Rattle.desk_model.specs.States.{plan_mark}
use Rattle.desk_core.specs.Ways.{tests_in}
use Rattle.desk_plans.specs.Sights.{sight_view}
use Rattle.desk_core.proofs.DeedLemmas.{change-comes}
use Rattle.desk_core.proofs.desk.Desk.mark_outcome.Goals as goal

pub returns : goal.returns
returns c = λ tested.
    let desk : Desk = c.args.self.now.desk in
    let way = c.args.way.now in
    let switch = c.args.switch.now in
    let sight = sight_view c.sight-sight.result in
    change-comes way desk (tests_in way desk tested) 0 (Some switch.doc) None
    (plan_mark switch) sight
    c.planned.result refl c.sight-sight.ensures
    (c.planned.ensures (plan_mark switch sight) tested
    c.plan_mark-plan.ensures.value)
