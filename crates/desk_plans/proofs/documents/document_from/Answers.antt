use Rattle.std.proofs.Common.{subst, sym}
use Rattle.std.specs.Option.{option_copied, ForSome}
use Rattle.post_model.specs.Yields.{yield_of}
use Rattle.desk_model.specs.State.{Setting}
use Rattle.desk_model.specs.DocumentSets.{with_yield, document_from}
use Rattle.desk_plans.specs.Bounds.{IsWithinBounds, GivesNumbers}
use Rattle.reg_base.specs.Tries.{Tries}
use Rattle.desk_plans.proofs.BoundLemmas.{IfOk-Tries, by_hand-bounds, with_yield-bounds}
use Rattle.desk_plans.proofs.BoundLemmas.{kept-bounds, none-bounds}
use Rattle.desk_plans.proofs.documents.document_from.Goals as goal

pub returns-in-ByHand-clause-bounds : goal.returns-in-ByHand-clause-bounds
returns-in-ByHand-clause-bounds g c =
    IfOk-Tries (λ made. ForSome made IsWithinBounds) c.document_by_hand.result _
    c.document_by_hand.ensures
    (by_hand-bounds c.args.config.now c.args.plan.doc c.in-ByHand.given c.requires.limits
    (subst GivesNumbers c.in-ByHand.is c.requires.given))

pub returns-in-ByRules-clause-value : goal.returns-in-ByRules-clause-value
returns-in-ByRules-clause-value g c = λ documents same.
    let setting : Setting = record { config = c.args.config.now; rules = c.args.rules.now } in
    subst (λ source. Tries c.document_by_rules.result
    (document_from setting documents (option_copied c.args.before) c.args.plan.doc source))
    (sym c.in-ByRules.is)
    (subst (λ books. Tries c.document_by_rules.result (with_yield setting c.args.plan.doc
    (yield_of c.args.config.now c.args.rules.now c.args.plan.doc books))) same
    c.document_by_rules.ensures.value)

pub returns-in-ByRules-clause-bounds : goal.returns-in-ByRules-clause-bounds
returns-in-ByRules-clause-bounds g c =
    IfOk-Tries (λ made. ForSome made IsWithinBounds) c.document_by_rules.result _
    c.document_by_rules.ensures.value
    (with_yield-bounds _ c.args.plan.doc _ c.requires.limits c.document_by_rules.ensures.within)

pub returns-in-Kept-clause-bounds : goal.returns-in-Kept-clause-bounds
returns-in-Kept-clause-bounds g c =
    IfOk-Tries (λ made. ForSome made IsWithinBounds) c.document_kept.result _
    c.document_kept.ensures
    (kept-bounds c.args.config.now (option_copied c.args.before) c.args.plan.doc
    c.requires.limits c.requires.before)

pub returns-in-Nothing-clause-bounds : goal.returns-in-Nothing-clause-bounds
returns-in-Nothing-clause-bounds g c =
    IfOk-Tries (λ made. ForSome made IsWithinBounds) c.document_without_records.result _
    c.document_without_records.ensures
    (none-bounds c.args.config.now c.args.plan.doc c.requires.limits)
