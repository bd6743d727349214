use Rattle.std.proofs.Common.{◌-◌, ◌+◌, length, sym, ap, ◌∙◌}
use Rattle.cfg_model.specs.Accounts.{leads_to}
use Rattle.cfg_model.proofs.PlaceLemmas.{leads_to-next}
use Rattle.cfg_model.proofs.below.leads_to.Goals as goal

pub steps-preserved : goal.steps-preserved
steps-preserved c =
    let accounts = c.args.accounts.now in
    let code = c.args.top.now in
    let other = sym c.eq.ensures ∙ c.if-eq.false in
    let step = leads_to-next _ c.steps.counter accounts code c.in-Some.above c.steps-test.true other
    in
    ap (leads_to (length accounts - (c.steps.counter + 1)) accounts code)
    c.parent_of-next-in-steps.ensures
    ∙ sym step
    ∙ ap (leads_to (length accounts - c.steps.counter) accounts code) (sym c.in-Some.is)
    ∙ c.steps.invariant
