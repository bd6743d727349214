use Rattle.std.proofs.Common.{IfOk, sym, subst}
use Rattle.desk_words.specs.declared.request.Post.{Post as PostRequest}
use Rattle.desk_words.specs.declared.request.Request.TheVariants.{Post}
use Rattle.desk_model.specs.Stops.{or_stop}
use Rattle.desk_core.specs.Outcomes.{Comes}
use Rattle.desk_core.specs.Ways.{deed_in}
use Rattle.desk_core.proofs.desk.Desk.post_outcome.Goals as goal

pub returns-in-Content : goal.returns-in-Content
returns-in-Content c = λ tested.
    subst (λ (p : PostRequest). IfOk c.content_outcome.result (Comes c.args.way.now
    c.args.self.now.desk (or_stop (deed_in c.args.way.now tested c.args.self.now.desk (Post p)))))
    (sym c.in-Content.is) (c.content_outcome.ensures tested)

pub returns-in-Standing : goal.returns-in-Standing
returns-in-Standing c = λ tested.
    subst (λ (p : PostRequest). IfOk c.standing_outcome.result (Comes c.args.way.now
    c.args.self.now.desk (or_stop (deed_in c.args.way.now tested c.args.self.now.desk (Post p)))))
    (sym c.in-Standing.is) (c.standing_outcome.ensures tested)
