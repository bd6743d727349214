use Rattle.std.proofs.Common.{subst}
use Rattle.desk_words.specs.declared.request.Request.TheVariants.{Post}
use Rattle.desk_words.specs.declared.request.Post.TheVariants.{Content}
use Rattle.desk_model.specs.State.{Desk}
use Rattle.desk_model.specs.Posts.{plan_post}
use Rattle.desk_core.specs.Ways.{number_by, tests_in}
use Rattle.desk_core.specs.DeskViews.{DeskView}
use Rattle.desk_plans.specs.Sights.{sight_view}
use Rattle.reg_base.specs.Tries.{Tries}
use Rattle.desk_core.proofs.DeedLemmas.{drawn-new, change-comes}
use Rattle.desk_core.proofs.desk.Desk.content_outcome.Goals as goal

pub returns : goal.returns
returns c = λ tested.
    let desk : Desk = c.args.self.now.desk in
    let way = c.args.way.now in
    let config = desk.setting.config in
    let write = c.args.write.now in
    let request = Post (Content write) in
    let number = number_by way desk request in
    let sight = sight_view c.sight-sight.result in
    let tries = subst (λ (v : DeskView). Tries c.plan_post-plan.result
    (plan_post v.desk.setting.config write sight)) c.self.view_is
    c.plan_post-plan.ensures.value in
    change-comes way desk (tests_in way desk tested) number write.doc write.key
    (plan_post config write) sight
    c.planned.result (drawn-new way desk.serial write.doc) c.sight-sight.ensures
    (c.planned.ensures (plan_post config write sight) tested tries)
