use Rattle.std.proofs.Common.{subst}
use Rattle.desk_words.specs.declared.request.Request.TheVariants.{Manual}
use Rattle.desk_model.specs.State.{Desk}
use Rattle.desk_model.specs.Manuals.{plan_manual}
use Rattle.desk_core.specs.Ways.{number_by, tests_in}
use Rattle.desk_core.specs.DeskViews.{DeskView}
use Rattle.desk_plans.specs.Sights.{sight_view}
use Rattle.reg_base.specs.Tries.{Tries}
use Rattle.desk_core.proofs.DeedLemmas.{drawn-new, change-comes}
use Rattle.desk_core.proofs.desk.Desk.manual_outcome.Goals as goal

pub returns : goal.returns
returns c = λ tested.
    let desk : Desk = c.args.self.now.desk in
    let way = c.args.way.now in
    let config = desk.setting.config in
    let manual = c.args.manual.now in
    let request = Manual manual in
    let number = number_by way desk request in
    let sight = sight_view c.sight-sight.result in
    let tries = subst (λ (v : DeskView). Tries c.plan_manual-plan.result
    (plan_manual v.desk.setting.config manual sight)) c.self.view_is
    c.plan_manual-plan.ensures.value in
    change-comes way desk (tests_in way desk tested) number manual.doc manual.key
    (plan_manual config manual) sight
    c.planned.result (drawn-new way desk.serial manual.doc) c.sight-sight.ensures
    (c.planned.ensures (plan_manual config manual sight) tested tries)
