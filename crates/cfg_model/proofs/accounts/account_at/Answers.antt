use Rattle.std.proofs.Common.{rules, ap, sym, ◌∙◌, option_and_then}
use Rattle.std.specs.Prelude.{slice_get}
use Rattle.cfg_model.proofs.PlaceLemmas.{account_at-place, slice_get-found}
use Rattle.cfg_model.proofs.accounts.account_at.Goals as goal

pub returns-in_err-place_of : goal.returns-in_err-place_of
returns-in_err-place_of c =
    let place = c.requires c.args.code.now in
    let found = account_at-place c.args.code.now c.args.accounts.now in
    search (rules, place, found)

pub returns : goal.returns
returns c =
    let place = c.requires c.args.code.now in
    slice_get-found c.args.accounts.now _ _ c.get.ensures.lookup.0 c.get.ensures.lookup.1
    ∙ ap (option_and_then (λ i. slice_get c.args.accounts.now i))
    (sym c.in_ok-place_of.was ∙ c.place_of.ensures ∙ place)
    ∙ account_at-place c.args.code.now c.args.accounts.now
