use Rattle.std.proofs.Common.{◌≡◌, Option, sym, subst}
use Rattle.std.specs.Option.{ForSome}
use Rattle.desk_words.specs.declared.request.Request.{Request}
use Rattle.desk_words.specs.WellFormed.{IsRequest}
use Rattle.desk_model.specs.State.{Desk}
use Rattle.desk_model.specs.Desk.{step}
use Rattle.desk_model.specs.Laws.{AreNumbered}
use Rattle.desk_model.proofs.ForAbove.{step-setting}
use Rattle.desk_history.specs.Histories.{AreFew, EventReplays, StepReplays}
use Rattle.desk_core.specs.declared.outcome.Entry.{Entry}
use Rattle.desk_core.specs.DeskViews.{MayEnter, desk_with}
use Rattle.desk_core.proofs.ServingLemmas.{few-entered, is_fault, ready-done, serve-failed}
use Rattle.desk_core.proofs.desk.Desk.serve.Goals as goal

-- what a request commits replays to the desk that it leaves
replays : (desk : Desk) (request : Request) (entry : Option Entry) → IsRequest request
    → AreNumbered desk.serial → AreFew desk.serial → ForSome entry (MayEnter desk)
    → (step desk request).desk ≡ desk_with desk request entry → StepReplays desk request
    → EventReplays desk (step desk request)
replays desk request entry read numbered few may desk_is so = so read numbered
    (subst (λ (d : Desk). AreFew d.serial) (sym desk_is) (few-entered desk request entry few may))

pub returns-in_err-enter-clause-ends : goal.returns-in_err-enter-clause-ends
returns-in_err-enter-clause-ends g c =
    let desk = c.args.self.now.desk in
    let request = c.args.request in
    let entry = c.in_ok-reply.field-0.entry in
    rw (is_fault c.from_residual-in_err-enter.result _ c.from_residual-in_err-enter.ensures)
    (serve-failed (step desk request) request entry c.args.self.now c.enter.new.self
    c.enter.new.journal (g.D.Disk.state c.args.disk.now) (g.D.Disk.state c.enter.new.disk)
    (g.D.Disk.faults c.args.disk.now) (g.D.Disk.faults c.enter.new.disk) c.in_err-enter.field-0.0
    c.requires.going c.in_ok-reply.ensures.entries_are (step-setting desk request)
    (replays desk request entry c.requires.read c.keeps_numbers.ensures c.keeps_few.ensures
    c.in_ok-reply.ensures.may c.in_ok-reply.ensures.desk_is
    (c.accepted_requests_are_replayed.ensures.steps desk request))
    c.requires.holds.replays c.in_err-enter.ensures.commits)

pub returns-clause-ready : goal.returns-clause-ready
returns-clause-ready g c =
    let desk = c.args.self.now.desk in
    let request = c.args.request in
    let entry = c.in_ok-reply.field-0.entry in
    ready-done (step desk request) request entry c.args.self.now c.enter.new.self
    c.enter.new.journal (g.D.Disk.state c.args.disk.now) (g.D.Disk.state c.enter.new.disk)
    (g.D.Disk.faults c.args.disk.now) (g.D.Disk.faults c.enter.new.disk)
    c.in_ok-reply.ensures.desk_is c.in_ok-reply.ensures.entries_are
    (step-setting desk request)
    (replays desk request entry c.requires.read c.keeps_numbers.ensures c.keeps_few.ensures
    c.in_ok-reply.ensures.may c.in_ok-reply.ensures.desk_is
    (c.accepted_requests_are_replayed.ensures.steps desk request))
    c.requires.holds.replays c.in_ok-enter.ensures.commits
