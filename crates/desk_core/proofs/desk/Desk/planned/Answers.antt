use Rattle.std.proofs.Common.{◌≡◌, Ok, IfOk, Result, sym, subst}
use Rattle.reg_base.specs.Tries.{Tries}
use Rattle.desk_words.specs.declared.reply.Refusal.{Refusal}
use Rattle.desk_model.specs.declared.plan.Plan.{Plan}
use Rattle.desk_model.specs.Stops.{or_stop}
use Rattle.desk_plans.specs.Sights.{sight_view}
use Rattle.desk_core.specs.Outcomes.{Comes, planned_effect}
use Rattle.desk_core.specs.Ways.{tests_in}
use Rattle.desk_core.proofs.desk.Desk.planned.Goals as goal

pub returns-in-Ok : goal.returns-in-Ok
returns-in-Ok c = λ planned tested tries.
    let desk = c.args.self.now.desk in
    let way = c.args.way.now in
    let same : planned ≡ Ok c.in-Ok.plan =
    subst (λ r. Tries r planned) c.in-Ok.is tries in
    subst (λ (p : Result Plan Refusal). IfOk c.plan_outcome.result (Comes way desk (or_stop
    (planned_effect desk (tests_in way desk tested) (sight_view c.args.sight.now) p)))) (sym same)
    (c.plan_outcome.ensures tested)
