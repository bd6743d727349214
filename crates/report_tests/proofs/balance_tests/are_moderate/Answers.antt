use Rattle.std.proofs.Common.{◌+◌, ◌∷◌, ◌∙◌, ap, subst, sym, refl, drop, drop-cons}
use Rattle.std.proofs.Common.{suc, add-one}
use Rattle.std.specs.List.{All}
use Rattle.std.proofs.lemmas.List.{drop_all}
use Rattle.std.proofs.lemmas.List.Elements.{All-cons, All-nil}
use Rattle.text_reports.specs.TrialBalances.{HasModerateNumbers}
use Rattle.report_tests.proofs.balance_tests.are_moderate.Goals as goal

pub rows-preserved : goal.rows-preserved
rows-preserved c = λ left.
    let rows = c.args.rows.now in
    let i = c.rows.row-index in
    let row = c.row-item.result in
    let moderate = c.if-not-has_moderate_numbers.ensures refl in
    c.rows.invariant (subst (All HasModerateNumbers)
    (sym (drop-cons rows i row c.rows-test.true ∙ ap (λ r. r ∷ drop (suc i) rows)
    (sym c.row-item.is) ∙ ap (λ n. row ∷ drop n rows) (sym (add-one i))))
    (All-cons HasModerateNumbers row (drop (i + 1) rows) moderate left))

pub returns : goal.returns
returns c = λ _.
    c.rows.invariant (subst (All HasModerateNumbers)
    (sym (drop_all c.rows.row-index c.args.rows.now c.rows-test.false))
    (All-nil HasModerateNumbers))
