use Rattle.std.proofs.Common.{Ok, ◌∙◌, sym, subst}
use Rattle.desk_model.specs.Stops.{or_stop}
use Rattle.desk_core.specs.declared.outcome.Outcome.{Outcome}
use Rattle.desk_core.specs.declared.way.Way.TheVariants.{Replayed}
use Rattle.desk_core.specs.Outcomes.{Comes}
use Rattle.desk_core.specs.Ways.{deed_in}
use Rattle.desk_core.proofs.ReplayingLemmas.{comes-short, replay-made, replay-refused}
use Rattle.desk_core.proofs.ReplayingLemmas.{replay-replied}
use Rattle.desk_core.proofs.desk.Desk.replay_command.Goals as goal

pub returns-then-not-may_replay : goal.returns-then-not-may_replay
returns-then-not-may_replay c = replay-refused c.args.self.now.desk c.args.command.number
    c.args.command.request (sym c.may_replay.ensures ∙ c.if-not-may_replay.true)

pub take_over-requires-clause-short : goal.take_over-requires-clause-short
take_over-requires-clause-short c =
    let desk = c.args.self.now.desk in
    let number = c.args.command.number in
    let request = c.args.command.request in
    let tried = or_stop (deed_in (Replayed number) (Ok tt) desk request) in
    comes-short desk number tried c.in-Changes.change c.in-Changes.acknowledgement
    (subst (λ (o : Outcome). Comes (Replayed number) desk tried o) c.in-Changes.is
    (c.in_ok-deed_outcome.ensures.comes (Ok tt)))

pub returns-in-Replies : goal.returns-in-Replies
returns-in-Replies c =
    let desk = c.args.self.now.desk in
    let number = c.args.command.number in
    let request = c.args.command.request in
    let tried = or_stop (deed_in (Replayed number) (Ok tt) desk request) in
    replay-replied desk number request c.in-Replies.field-0
    (sym c.may_replay.ensures ∙ c.if-not-may_replay.false)
    (subst (λ (o : Outcome). Comes (Replayed number) desk tried o) c.in-Replies.is
    (c.in_ok-deed_outcome.ensures.comes (Ok tt)))

pub returns-in-Changes : goal.returns-in-Changes
returns-in-Changes c =
    let desk = c.args.self.now.desk in
    let number = c.args.command.number in
    let request = c.args.command.request in
    let tried = or_stop (deed_in (Replayed number) (Ok tt) desk request) in
    replay-made desk number request c.in-Changes.change c.in-Changes.acknowledgement c.args.entry
    c.args.self.now.stopped c.take_over.new.self c.take_over.result
    (sym c.may_replay.ensures ∙ c.if-not-may_replay.false)
    (subst (λ (o : Outcome). Comes (Replayed number) desk tried o) c.in-Changes.is
    (c.in_ok-deed_outcome.ensures.comes (Ok tt))) c.take_over.ensures
