use Rattle.std.proofs.Common.{rules, sym, ap, Err, ◌∙◌}
use Rattle.cfg_model.specs.declared.fault.CfgFault.TheVariants.{Twice}
use Rattle.cfg_model.proofs.PlaceLemmas.{each_once-at, once-taken, once-free, LeadsToPlaces-next}
use Rattle.cfg_model.proofs.accounts.places_of.Goals as goal

pub returns-then-has_code-clause-once : goal.returns-then-has_code-clause-once
returns-then-has_code-clause-once c = λ told.
    let a = c.index-accounts-index.result in
    let taken = sym (c.has_code.ensures _ c.accounts.invariant.1) ∙ c.if-has_code.true in
    let step = each_once-at _ _ a c.accounts-test.true c.index-accounts-index.is in
    sym c.accounts.invariant.0 ∙ step ∙ once-taken _ a _ taken
    ∙ ap Err (ap Twice (sym c.as_str.ensures.value) ∙ c.twice.ensures told)

pub returns-in_err-distinct-clause-once : goal.returns-in_err-distinct-clause-once
returns-in_err-distinct-clause-once c =
    let a = c.index-accounts-index.result in
    let free = sym (c.has_code.ensures _ c.accounts.invariant.1) ∙ c.if-has_code.false in
    let step = each_once-at _ _ a c.accounts-test.true c.index-accounts-index.is in
    let extras = sym c.accounts.invariant.0 ∙ step ∙ once-free _ a _ free in
    search (rules, extras)

pub accounts-preserved : goal.accounts-preserved
accounts-preserved c =
    let a = c.index-accounts-index.result in
    let free = sym (c.has_code.ensures _ c.accounts.invariant.1) ∙ c.if-has_code.false in
    let step = each_once-at _ _ a c.accounts-test.true c.index-accounts-index.is in
    let extras = sym c.accounts.invariant.0 ∙ step ∙ once-free _ a _ free in (
      search (rules, extras),
      LeadsToPlaces-next _ _ _ _ a c.accounts-test.true c.index-accounts-index.is
          c.accounts.invariant.1 free c.in_ok-put_place.ensures,
    )
