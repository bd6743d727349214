use Rattle.std.proofs.Common.{refl, IfOk, sym, subst}
use Rattle.desk_words.specs.declared.request.Request.{Request}
use Rattle.desk_words.specs.declared.request.Request.TheVariants.{Write, Post, Unpost, Mark, Manual}
use Rattle.desk_words.specs.declared.request.Request.TheVariants.{Activity, Sweep}
use Rattle.desk_model.specs.Stops.{or_stop}
use Rattle.desk_core.specs.Outcomes.{Comes, IsEntered}
use Rattle.desk_core.specs.Ways.{deed_in}
use Rattle.desk_core.proofs.RequestLemmas.{any-entered, close-entered, post-commits}
use Rattle.desk_core.proofs.RequestLemmas.{reply-comes, reply-entered}
use Rattle.desk_core.proofs.desk.Desk.deed_outcome.Goals as goal

pub returns-in-Write-clause-comes : goal.returns-in-Write-clause-comes
returns-in-Write-clause-comes c = λ tested.
    subst (λ (r : Request). IfOk c.write_outcome.result
    (Comes c.args.way.now c.args.self.now.desk (or_stop (deed_in c.args.way.now tested
    c.args.self.now.desk r)))) (sym c.in-Write.is) (c.write_outcome.ensures tested)

pub returns-in-Write-clause-entered : goal.returns-in-Write-clause-entered
returns-in-Write-clause-entered c =
    subst (λ (r : Request). IfOk c.write_outcome.result (IsEntered c.args.self.now.desk r))
    (sym c.in-Write.is) (any-entered c.args.self.now.desk (Write c.in-Write.write)
    c.write_outcome.result refl)

pub returns-in-Post-clause-comes : goal.returns-in-Post-clause-comes
returns-in-Post-clause-comes c = λ tested.
    subst (λ (r : Request). IfOk c.post_outcome.result
    (Comes c.args.way.now c.args.self.now.desk (or_stop (deed_in c.args.way.now tested
    c.args.self.now.desk r)))) (sym c.in-Post.is) (c.post_outcome.ensures tested)

pub returns-in-Post-clause-entered : goal.returns-in-Post-clause-entered
returns-in-Post-clause-entered c =
    subst (λ (r : Request). IfOk c.post_outcome.result (IsEntered c.args.self.now.desk r))
    (sym c.in-Post.is) (any-entered c.args.self.now.desk (Post c.in-Post.post)
    c.post_outcome.result (post-commits c.args.self.now.desk c.in-Post.post))

pub returns-in-Unpost-clause-comes : goal.returns-in-Unpost-clause-comes
returns-in-Unpost-clause-comes c = λ tested.
    subst (λ (r : Request). IfOk c.unpost_outcome.result
    (Comes c.args.way.now c.args.self.now.desk (or_stop (deed_in c.args.way.now tested
    c.args.self.now.desk r)))) (sym c.in-Unpost.is) (c.unpost_outcome.ensures tested)

pub returns-in-Unpost-clause-entered : goal.returns-in-Unpost-clause-entered
returns-in-Unpost-clause-entered c =
    subst (λ (r : Request). IfOk c.unpost_outcome.result (IsEntered c.args.self.now.desk r))
    (sym c.in-Unpost.is) (any-entered c.args.self.now.desk (Unpost c.in-Unpost.document)
    c.unpost_outcome.result refl)

pub returns-in-Mark-clause-comes : goal.returns-in-Mark-clause-comes
returns-in-Mark-clause-comes c = λ tested.
    subst (λ (r : Request). IfOk c.mark_outcome.result
    (Comes c.args.way.now c.args.self.now.desk (or_stop (deed_in c.args.way.now tested
    c.args.self.now.desk r)))) (sym c.in-Mark.is) (c.mark_outcome.ensures tested)

pub returns-in-Mark-clause-entered : goal.returns-in-Mark-clause-entered
returns-in-Mark-clause-entered c =
    subst (λ (r : Request). IfOk c.mark_outcome.result (IsEntered c.args.self.now.desk r))
    (sym c.in-Mark.is) (any-entered c.args.self.now.desk (Mark c.in-Mark.switch)
    c.mark_outcome.result refl)

pub returns-in-Manual-clause-comes : goal.returns-in-Manual-clause-comes
returns-in-Manual-clause-comes c = λ tested.
    subst (λ (r : Request). IfOk c.manual_outcome.result
    (Comes c.args.way.now c.args.self.now.desk (or_stop (deed_in c.args.way.now tested
    c.args.self.now.desk r)))) (sym c.in-Manual.is) (c.manual_outcome.ensures tested)

pub returns-in-Manual-clause-entered : goal.returns-in-Manual-clause-entered
returns-in-Manual-clause-entered c =
    subst (λ (r : Request). IfOk c.manual_outcome.result (IsEntered c.args.self.now.desk r))
    (sym c.in-Manual.is) (any-entered c.args.self.now.desk (Manual c.in-Manual.manual)
    c.manual_outcome.result refl)

pub returns-in-Activity-clause-comes : goal.returns-in-Activity-clause-comes
returns-in-Activity-clause-comes c = λ tested.
    subst (λ (r : Request). IfOk c.activity_outcome.result
    (Comes c.args.way.now c.args.self.now.desk (or_stop (deed_in c.args.way.now tested
    c.args.self.now.desk r)))) (sym c.in-Activity.is) (c.activity_outcome.ensures tested)

pub returns-in-Activity-clause-entered : goal.returns-in-Activity-clause-entered
returns-in-Activity-clause-entered c =
    subst (λ (r : Request). IfOk c.activity_outcome.result (IsEntered c.args.self.now.desk r))
    (sym c.in-Activity.is) (any-entered c.args.self.now.desk (Activity c.in-Activity.switch)
    c.activity_outcome.result refl)

pub returns-in-Sweep-clause-comes : goal.returns-in-Sweep-clause-comes
returns-in-Sweep-clause-comes c = λ tested.
    subst (λ (r : Request). IfOk c.sweep_outcome.result
    (Comes c.args.way.now c.args.self.now.desk (or_stop (deed_in c.args.way.now tested
    c.args.self.now.desk r)))) (sym c.in-Sweep.is) (c.sweep_outcome.ensures tested)

pub returns-in-Sweep-clause-entered : goal.returns-in-Sweep-clause-entered
returns-in-Sweep-clause-entered c =
    subst (λ (r : Request). IfOk c.sweep_outcome.result (IsEntered c.args.self.now.desk r))
    (sym c.in-Sweep.is) (any-entered c.args.self.now.desk (Sweep c.in-Sweep.sweep)
    c.sweep_outcome.result refl)

pub returns-in-Close-clause-comes : goal.returns-in-Close-clause-comes
returns-in-Close-clause-comes c = λ tested.
    subst (λ (r : Request). Comes c.args.way.now c.args.self.now.desk
    (or_stop (deed_in c.args.way.now tested c.args.self.now.desk r)) c.closing_outcome.result)
    (sym c.in-Close.is) c.closing_outcome.ensures

pub returns-in-Close-clause-entered : goal.returns-in-Close-clause-entered
returns-in-Close-clause-entered c =
    subst (λ (r : Request). IsEntered c.args.self.now.desk r c.closing_outcome.result)
    (sym c.in-Close.is) (close-entered c.args.self.now.desk c.in-Close.close
    c.closing_outcome.result)

pub returns-in-Balance-clause-comes : goal.returns-in-Balance-clause-comes
returns-in-Balance-clause-comes c = λ tested.
    subst (λ (r : Request). IfOk c.replied.result
    (Comes c.args.way.now c.args.self.now.desk (or_stop (deed_in c.args.way.now tested
    c.args.self.now.desk r)))) (sym c.in-Balance.is)
    (reply-comes c.args.way.now c.args.self.now.desk _ c.balance_reply.result c.replied.result
    c.replied.ensures (c.balance_reply.ensures c.args.way.now tested))

pub returns-in-Balance-clause-entered : goal.returns-in-Balance-clause-entered
returns-in-Balance-clause-entered c =
    reply-entered c.args.self.now.desk c.args.request.now c.balance_reply.result c.replied.result
    c.replied.ensures

pub returns-in-Turnovers-clause-comes : goal.returns-in-Turnovers-clause-comes
returns-in-Turnovers-clause-comes c = λ tested.
    subst (λ (r : Request). IfOk c.replied-in-Turnovers.result
    (Comes c.args.way.now c.args.self.now.desk (or_stop (deed_in c.args.way.now tested
    c.args.self.now.desk r)))) (sym c.in-Turnovers.is)
    (reply-comes c.args.way.now c.args.self.now.desk _ c.turnovers_reply.result
    c.replied-in-Turnovers.result
    c.replied-in-Turnovers.ensures (c.turnovers_reply.ensures c.args.way.now tested))

pub returns-in-Turnovers-clause-entered : goal.returns-in-Turnovers-clause-entered
returns-in-Turnovers-clause-entered c =
    reply-entered c.args.self.now.desk c.args.request.now c.turnovers_reply.result
    c.replied-in-Turnovers.result
    c.replied-in-Turnovers.ensures

pub returns-in-Both-clause-comes : goal.returns-in-Both-clause-comes
returns-in-Both-clause-comes c = λ tested.
    subst (λ (r : Request). IfOk c.replied-in-Both.result
    (Comes c.args.way.now c.args.self.now.desk (or_stop (deed_in c.args.way.now tested
    c.args.self.now.desk r)))) (sym c.in-Both.is)
    (reply-comes c.args.way.now c.args.self.now.desk _ c.both_reply.result c.replied-in-Both.result
    c.replied-in-Both.ensures (c.both_reply.ensures c.args.way.now tested))

pub returns-in-Both-clause-entered : goal.returns-in-Both-clause-entered
returns-in-Both-clause-entered c =
    reply-entered c.args.self.now.desk c.args.request.now c.both_reply.result
    c.replied-in-Both.result
    c.replied-in-Both.ensures

pub returns-in-AccountBalance-clause-comes : goal.returns-in-AccountBalance-clause-comes
returns-in-AccountBalance-clause-comes c = λ tested.
    subst (λ (r : Request). IfOk c.replied-in-AccountBalance.result
    (Comes c.args.way.now c.args.self.now.desk (or_stop (deed_in c.args.way.now tested
    c.args.self.now.desk r)))) (sym c.in-AccountBalance.is)
    (reply-comes c.args.way.now c.args.self.now.desk _ c.account_balance_reply.result
    c.replied-in-AccountBalance.result
    c.replied-in-AccountBalance.ensures (c.account_balance_reply.ensures c.args.way.now tested))

pub returns-in-AccountBalance-clause-entered : goal.returns-in-AccountBalance-clause-entered
returns-in-AccountBalance-clause-entered c =
    reply-entered c.args.self.now.desk c.args.request.now c.account_balance_reply.result
    c.replied-in-AccountBalance.result
    c.replied-in-AccountBalance.ensures

pub returns-in-AccountTurnovers-clause-comes : goal.returns-in-AccountTurnovers-clause-comes
returns-in-AccountTurnovers-clause-comes c = λ tested.
    subst (λ (r : Request). IfOk c.replied-in-AccountTurnovers.result
    (Comes c.args.way.now c.args.self.now.desk (or_stop (deed_in c.args.way.now tested
    c.args.self.now.desk r)))) (sym c.in-AccountTurnovers.is)
    (reply-comes c.args.way.now c.args.self.now.desk _ c.account_turnovers_reply.result
    c.replied-in-AccountTurnovers.result
    c.replied-in-AccountTurnovers.ensures (c.account_turnovers_reply.ensures c.args.way.now tested))

pub returns-in-AccountTurnovers-clause-entered : goal.returns-in-AccountTurnovers-clause-entered
returns-in-AccountTurnovers-clause-entered c =
    reply-entered c.args.self.now.desk c.args.request.now c.account_turnovers_reply.result
    c.replied-in-AccountTurnovers.result
    c.replied-in-AccountTurnovers.ensures

pub returns-in-AccountBoth-clause-comes : goal.returns-in-AccountBoth-clause-comes
returns-in-AccountBoth-clause-comes c = λ tested.
    subst (λ (r : Request). IfOk c.replied-in-AccountBoth.result
    (Comes c.args.way.now c.args.self.now.desk (or_stop (deed_in c.args.way.now tested
    c.args.self.now.desk r)))) (sym c.in-AccountBoth.is)
    (reply-comes c.args.way.now c.args.self.now.desk _ c.account_both_reply.result
    c.replied-in-AccountBoth.result
    c.replied-in-AccountBoth.ensures (c.account_both_reply.ensures c.args.way.now tested))

pub returns-in-AccountBoth-clause-entered : goal.returns-in-AccountBoth-clause-entered
returns-in-AccountBoth-clause-entered c =
    reply-entered c.args.self.now.desk c.args.request.now c.account_both_reply.result
    c.replied-in-AccountBoth.result
    c.replied-in-AccountBoth.ensures

pub returns-in-DrCr-clause-comes : goal.returns-in-DrCr-clause-comes
returns-in-DrCr-clause-comes c = λ tested.
    subst (λ (r : Request). IfOk c.replied-in-DrCr.result
    (Comes c.args.way.now c.args.self.now.desk (or_stop (deed_in c.args.way.now tested
    c.args.self.now.desk r)))) (sym c.in-DrCr.is)
    (reply-comes c.args.way.now c.args.self.now.desk _ c.pairs_reply.result c.replied-in-DrCr.result
    c.replied-in-DrCr.ensures (c.pairs_reply.ensures c.args.way.now tested))

pub returns-in-DrCr-clause-entered : goal.returns-in-DrCr-clause-entered
returns-in-DrCr-clause-entered c =
    reply-entered c.args.self.now.desk c.args.request.now c.pairs_reply.result
    c.replied-in-DrCr.result
    c.replied-in-DrCr.ensures

pub returns-in-Documents-clause-comes : goal.returns-in-Documents-clause-comes
returns-in-Documents-clause-comes c = λ tested.
    subst (λ (r : Request). IfOk c.replied-in-Documents.result
    (Comes c.args.way.now c.args.self.now.desk (or_stop (deed_in c.args.way.now tested
    c.args.self.now.desk r)))) (sym c.in-Documents.is)
    (reply-comes c.args.way.now c.args.self.now.desk _ c.documents_reply.result
    c.replied-in-Documents.result
    c.replied-in-Documents.ensures (c.documents_reply.ensures c.args.way.now tested))

pub returns-in-Documents-clause-entered : goal.returns-in-Documents-clause-entered
returns-in-Documents-clause-entered c =
    reply-entered c.args.self.now.desk c.args.request.now c.documents_reply.result
    c.replied-in-Documents.result
    c.replied-in-Documents.ensures

pub returns-in-Doc-clause-comes : goal.returns-in-Doc-clause-comes
returns-in-Doc-clause-comes c = λ tested.
    subst (λ (r : Request). IfOk c.replied-in-Doc.result
    (Comes c.args.way.now c.args.self.now.desk (or_stop (deed_in c.args.way.now tested
    c.args.self.now.desk r)))) (sym c.in-Doc.is)
    (reply-comes c.args.way.now c.args.self.now.desk _ c.show_reply.result c.replied-in-Doc.result
    c.replied-in-Doc.ensures (c.show_reply.ensures c.args.way.now tested))

pub returns-in-Doc-clause-entered : goal.returns-in-Doc-clause-entered
returns-in-Doc-clause-entered c =
    reply-entered c.args.self.now.desk c.args.request.now c.show_reply.result
    c.replied-in-Doc.result
    c.replied-in-Doc.ensures
