use Rattle.std.proofs.Common.{Err, refl, sym, subst}
use Rattle.desk_model.specs.Stops.{or_stop}
use Rattle.desk_plans.specs.Sights.{sight_view}
use Rattle.desk_core.specs.Outcomes.{Comes, made_effect}
use Rattle.desk_core.proofs.PlanLemmas.{limit-comes, unmade-comes}
use Rattle.desk_core.proofs.desk.Desk.refused_outcome.Goals as goal

pub returns-in-Some : goal.returns-in-Some
returns-in-Some c = λ plan lines.
    subst (Comes c.args.way.now c.args.self.now.desk (or_stop (made_effect c.args.way.now
    c.args.self.now.desk (sight_view c.args.sight.now) plan (Err c.args.refusal))))
    (sym c.refusal_outcome.ensures)
    (limit-comes c.args.way.now c.args.self.now.desk (sight_view c.args.sight.now) plan
    (Err c.args.refusal) c.in-Some.passed
    (sym (c.in-Some.ensures plan (Err c.args.refusal) lines refl)))

pub returns-in-None : goal.returns-in-None
returns-in-None c = λ plan lines.
    subst (Comes c.args.way.now c.args.self.now.desk (or_stop (made_effect c.args.way.now
    c.args.self.now.desk (sight_view c.args.sight.now) plan (Err c.args.refusal))))
    (sym c.refusal_outcome-in-None.ensures)
    (unmade-comes c.args.way.now c.args.self.now.desk (sight_view c.args.sight.now) plan
    c.args.refusal (sym (c.in-None.ensures plan (Err c.args.refusal) lines refl)))
