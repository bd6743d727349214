use Rattle.std.proofs.Common.{◌+◌, Option, Some, ap, ◌∙◌, sym, drop}
use Rattle.std.specs.Option.{option_copied}
use Rattle.desk_words.specs.declared.reply.Refusal.{Refusal}
use Rattle.reg_base.specs.Documents.{with_document}
use Rattle.post_model.specs.Makes.{option_or}
use Rattle.desk_model.specs.Controls.{first_control}
use Rattle.desk_core.proofs.ControlLemmas.{first-control}
use Rattle.desk_core.proofs.controls.failed_control.Goals as goal

pub loop-control-preserved : goal.loop-control-preserved
loop-control-preserved c =
    let documents = with_document c.args.after.now c.args.store.now.documents in
    let rest : Option Refusal = first_control c.args.config.now
    (drop (c.loop-control.control-index + 1) c.args.controls.now) documents
    (option_copied c.args.before) (Some c.args.after.now) in
    c.loop-control.invariant
    ∙ first-control c.args.config.now c.args.controls.now c.loop-control.control-index _ documents
    (option_copied c.args.before) (Some c.args.after.now) c.loop-control-test.true
    ∙ ap (λ o. option_or o rest) (sym c.in_ok-refusal.ensures ∙ c.in_default.is)

pub returns-in-Some : goal.returns-in-Some
returns-in-Some c =
    let documents = with_document c.args.after.now c.args.store.now.documents in
    let rest : Option Refusal = first_control c.args.config.now
    (drop (c.loop-control.control-index + 1) c.args.controls.now) documents
    (option_copied c.args.before) (Some c.args.after.now) in
    sym (c.loop-control.invariant
    ∙ first-control c.args.config.now c.args.controls.now c.loop-control.control-index _ documents
    (option_copied c.args.before) (Some c.args.after.now) c.loop-control-test.true
    ∙ ap (λ o. option_or o rest) (sym c.in_ok-refusal.ensures ∙ c.in-Some.is))
