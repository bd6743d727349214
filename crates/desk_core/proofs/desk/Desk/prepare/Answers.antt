use Rattle.std.proofs.Common.{◌≡◌, ◌++◌, ◌∷◌, [], ◌∙◌, None, Some, ap, length, subst}
use Rattle.desk_words.specs.ReplyTexts.{HasScales, reply_text}
use Rattle.desk_words.specs.declared.reply.Reply.TheVariants.{Done}
use Rattle.desk_words.specs.declared.reply.Answer.TheVariants.{Acknowledged}
use Rattle.desk_model.specs.Desk.{effect_at, step}
use Rattle.desk_core.specs.declared.outcome.Outcome.{Outcome}
use Rattle.desk_core.specs.declared.outcome.Outcome.TheVariants.{Changes}
use Rattle.desk_core.specs.declared.outcome.Prepared.{Prepared}
use Rattle.desk_core.specs.declared.way.Way.TheVariants.{Served}
use Rattle.desk_core.specs.Outcomes.{Comes, IsEntered, Prepares}
use Rattle.desk_core.proofs.StepLemmas.{IfOk-three, step-reply, step-replies, step-changes}
use Rattle.desk_core.proofs.desk.Desk.prepare.Goals as goal

pub outcome-requires-clause-entry : goal.outcome-requires-clause-entry
outcome-requires-clause-entry c = c.len.ensures ∙ ap length c.in_ok-entry.ensures

pub prepare_reply-requires : goal.prepare_reply-requires
prepare_reply-requires c =
    let desk = c.args.self.now.desk in
    let r = c.args.request.now in
    subst HasScales (step-reply (Served c.len.result) desk r c.in-Replies.reply
    (subst (λ (o : Outcome). Comes (Served c.len.result) desk (effect_at desk r) o)
    c.in-Replies.is c.in_ok-reply.ensures.comes))
    (c.replies_have_scales.ensures desk r)

pub returns-in-Replies : goal.returns-in-Replies
returns-in-Replies c =
    let desk = c.args.self.now.desk in
    let r = c.args.request.now in
    let reply = c.in-Replies.reply in
    let comes = subst (λ (o : Outcome). Comes (Served c.len.result) desk (effect_at desk r) o)
    c.in-Replies.is c.in_ok-reply.ensures.comes in
    IfOk-three (λ (p : Prepared). p.reply ≡ reply)
    (λ (p : Prepared). p.text.items ≡ reply_text reply ++ 10 ∷ [])
    (λ (p : Prepared). p.entry ≡ None) (Prepares desk r (step desk r)) c.prepare_reply.result
    c.prepare_reply.ensures.reply c.prepare_reply.ensures.text c.prepare_reply.ensures.entry
    (λ p replied printed none.
    step-replies (Served c.len.result) desk r reply p comes replied printed none)

pub returns-in-Changes : goal.returns-in-Changes
returns-in-Changes c =
    let desk = c.args.self.now.desk in
    let r = c.args.request.now in
    let change = c.in-Changes.change in
    let acknowledgement = c.in-Changes.acknowledgement in
    let entry = c.in_ok-entry.entry in
    let comes = subst (λ (o : Outcome). Comes (Served c.len.result) desk (effect_at desk r) o)
    c.in-Changes.is c.in_ok-reply.ensures.comes in
    let served = subst (λ n. Comes (Served n) desk (effect_at desk r)
    (Changes change acknowledgement)) c.len.ensures comes in
    let entered = subst (λ (o : Outcome). IsEntered desk r o) c.in-Changes.is
    c.in_ok-reply.ensures.entered in
    IfOk-three (λ (p : Prepared). p.reply ≡ Done (Acknowledged acknowledgement))
    (λ (p : Prepared). p.text.items ≡ reply_text p.reply ++ 10 ∷ [])
    (λ (p : Prepared). p.entry ≡ Some (record {
      change = change;
      acknowledgement = acknowledgement;
      text = entry;
    })) (Prepares desk r (step desk r)) c.prepare_change.result
    c.prepare_change.ensures.reply c.prepare_change.ensures.text
    c.prepare_change.ensures.entry
    (λ p replied printed has_entry. step-changes desk r change acknowledgement entry p
    c.in_ok-entry.ensures served entered replied printed has_entry)
