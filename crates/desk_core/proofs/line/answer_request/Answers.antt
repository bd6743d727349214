use Rattle.std.proofs.Common.{◌≡◌, true, cond, ap, ◌∙◌, sym, subst}
use Rattle.desk_words.specs.declared.reply.Refusal.TheVariants.{UnknownClerk}
use Rattle.desk_model.specs.Desk.{Event, meaning_at, step}
use Rattle.desk_model.specs.Clerks.{is_batch}
use Rattle.desk_model.specs.Answers.{refusal_event}
use Rattle.desk_core.specs.Lines.{TextEnds}
use Rattle.desk_core.proofs.LineLemmas.{refused-ends}
use Rattle.desk_core.proofs.line.answer_request.Goals as goal

pub returns-then-is_batch-clause-ends : goal.returns-then-is_batch-clause-ends
returns-then-is_batch-clause-ends g c =
    let desk = c.args.desk.now.desk in
    let batch : is_batch (meaning_at desk c.args.request).clerk ≡ true =
    ap is_batch (sym (c.clerk_of.ensures desk.setting.config)) ∙ sym c.is_batch.ensures
    ∙ c.if-is_batch.true in
    let disk = g.D.Disk.state c.args.disk.now in
    let faults = g.D.Disk.faults c.args.disk.now in
    subst (λ (event : Event). TextEnds event c.args.desk.now c.args.desk.now disk disk faults faults
    c.refused_text.result)
    (ap (λ b. cond b (refusal_event desk UnknownClerk) (step desk c.args.request)) (sym batch))
    (refused-ends UnknownClerk c.args.desk.now c.args.journal.now disk faults c.refused_text.result
    c.requires.going c.requires.holds c.refused_text.ensures)
