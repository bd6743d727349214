use Rattle.std.proofs.Common.{None, Some, true, false, ap, ◌∙◌, sym, rules, SFits, to_z, of_z}
use Rattle.std.specs.Int.{w128}
use Rattle.std.proofs.lemmas.Int.{to_z-of_z}
use Rattle.std.proofs.lemmas.List.{drop_all}
use Rattle.reg_base.specs.Balances.{total}
use Rattle.row_sums.specs.Sums.{groups_in}
use Rattle.desk_model.specs.Controls.{first_below}
use Rattle.desk_core.proofs.ControlLemmas.{first-row}
use Rattle.desk_core.proofs.controls.first_below.Goals as goal

pub loop-row-preserved : goal.loop-row-preserved
loop-row-preserved c = λ n before after all adds l changes.
    let balance = c.sum_of-balance.result in
    let fits : SFits w128 balance = search rules in
    c.loop-row.invariant n before after all adds l changes
    ∙ first-row c.args.register.now c.args.resource.now c.args.place before after all
    c.args.changes.now c.loop-row.row-index c.row-item.result changes c.loop-row-test.true
    c.row-item.is (to_z w128 (of_z w128 balance))
    (to_z-of_z w128 balance fits ∙ c.sum_of-balance.ensures None n all adds l
    ∙ ap (λ g. total None g all c.args.place) c.as_slice.ensures)
    false (sym c.if-is_failure.false ∙ c.is_failure.ensures)

pub returns : goal.returns
returns c = λ n before after all adds l changes.
    sym (c.loop-row.invariant n before after all adds l changes
    ∙ ap (λ rows. first_below c.args.register.now c.args.resource.now c.args.place before after all
    (groups_in rows)) (drop_all c.loop-row.row-index c.args.changes.now c.loop-row-test.false))

pub returns-then-is_failure : goal.returns-then-is_failure
returns-then-is_failure c = λ n before after all adds l changes.
    let balance = c.sum_of-balance.result in
    let fits : SFits w128 balance = search rules in
    ap Some c.in_ok-refusal.ensures
    ∙ sym (c.loop-row.invariant n before after all adds l changes
    ∙ first-row c.args.register.now c.args.resource.now c.args.place before after all
    c.args.changes.now c.loop-row.row-index c.row-item.result changes c.loop-row-test.true
    c.row-item.is (to_z w128 (of_z w128 balance))
    (to_z-of_z w128 balance fits ∙ c.sum_of-balance.ensures None n all adds l
    ∙ ap (λ g. total None g all c.args.place) c.as_slice.ensures)
    true (sym c.if-is_failure.true ∙ c.is_failure.ensures))
