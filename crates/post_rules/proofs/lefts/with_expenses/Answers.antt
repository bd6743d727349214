use Rattle.std.proofs.Common.{◌≡◌, Some, true, ◌&&◌, rules}
use Rattle.reg_base.specs.Records.{matches}
use Rattle.post_model.specs.Lefts.{is_expense}
use Rattle.post_rules.proofs.OwnLemmas.{own-reach, adds-one}
use Rattle.post_rules.proofs.lefts.with_expenses.Goals as goal

pub add-requires : goal.add-requires
add-requires c =
    own-reach c.args.filter.now 0 (Some c.args.by.now) c.args.resources c.args.rows
    c.in_ok-sums.sums c.own.sums c.args.own.now c.own.rec-index c.requires.rows
    (c.in_ok-sums.ensures.same (Some c.args.by.now) c.args.resources c.requires.rows.records
    c.requires.rows.same) c.requires.own (c.own.invariant 0)

pub own-preserved : goal.own-preserved
own-preserved c number =
    let one : (is_expense c.rec-item.result.mark
    && matches c.args.filter.now c.rec-item.result.values) ≡ true = search rules in
    adds-one c.args.filter.now number (Some c.args.by.now) c.args.resources c.in_ok-sums.sums
    c.own.sums _ c.args.own.now c.own.rec-index c.rec-item.result c.own-test.true c.rec-item.is
    one (c.own.invariant number) (c.in_ok-add.ensures number)
