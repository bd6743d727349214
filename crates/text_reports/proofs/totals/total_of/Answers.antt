use Rattle.std.proofs.Common.{◌+ℤ◌, ◌+◌, ◌<◌, ◌*◌, ◌^◌, ◌≤ℤ◌, neg_ℤ, pos, ℤ, map, ap, ◌∙◌, sym}
use Rattle.std.proofs.Common.{subst, arith, to_z, drop, add-one}
use Rattle.std.specs.Int.{w128}
use Rattle.reg_base.specs.Sums.{sum_over}
use Rattle.text_reports.specs.Amounts.{amount_of}
use Rattle.text_reports.specs.TrialBalances.{IsModerate}
use Rattle.text_reports.proofs.TotalLemmas.{IsModerate-row, added-fits, added-value, total-low}
use Rattle.text_reports.proofs.TotalLemmas.{total-high, sum_over-drop, plus-assoc, pointed}
use Rattle.text_reports.proofs.totals.total_of.Goals as goal

pub overflow_add-total : goal.overflow_add-total
overflow_add-total c =
    let moderate : IsModerate c.of-total.result =
    subst IsModerate (sym c.of-total.ensures)
    (IsModerate-row c.args.amount c.args.rows.now c.rows.row-index c.row-item.result
    c.rows-test.true c.row-item.is c.requires.moderate) in
    added-fits c.rows.row-index (to_z w128 c.rows.total-bits) c.of-total.result
    (omega (arith, c.rows-test.true, c.requires.few)) c.rows.invariant.1 c.rows.invariant.2
    moderate

pub rows-preserved : goal.rows-preserved
rows-preserved c =
    let i = c.rows.row-index in
    let total = to_z w128 c.rows.total-bits in
    let part = c.of-total.result in
    let amount = c.args.amount in
    let moderate : IsModerate c.of-total.result =
    subst IsModerate (sym c.of-total.ensures)
    (IsModerate-row amount c.args.rows.now i c.row-item.result c.rows-test.true c.row-item.is
    c.requires.moderate) in
    let few : i < 100_000 = omega (arith, c.rows-test.true, c.requires.few) in
    let low = c.rows.invariant.1 in
    let high = c.rows.invariant.2 in
    let value = added-value i total part few low high moderate in
    let rest = sum_over (amount_of amount) (map pointed (drop (i + 1) c.args.rows.now)) in
    let Low : ℤ → Type 0 = λ n. neg_ℤ (pos ((i + 1) * 10 ^ 32)) ≤ℤ n in
    let High : ℤ → Type 0 = λ n. n ≤ℤ pos ((i + 1) * 10 ^ 32) in (
      ap (λ n. n +ℤ rest) value
          ∙ plus-assoc total part rest
          ∙ ap (λ n. total +ℤ n)
          ((λ j. c.of-total.ensures j
          +ℤ sum_over (amount_of amount) (map pointed (drop (add-one i j) c.args.rows.now)))
          ∙ sym (sum_over-drop amount c.args.rows.now i c.row-item.result c.rows-test.true
          c.row-item.is))
          ∙ c.rows.invariant.0,
      subst Low (sym value) (total-low i total part few low high moderate),
      subst High (sym value) (total-high i total part few low high moderate),
    )
