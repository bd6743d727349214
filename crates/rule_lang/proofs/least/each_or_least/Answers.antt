-- One more check, which finds or speaks against.
use Rattle.std.proofs.Common.{◌≡◌, Err, sym, ◌∙◌, arith}
use Rattle.rule_lang.specs.Least.{each_or_least}
use Rattle.rule_lang.proofs.LeastLemmas.{each-found, each-against}
use Rattle.rule_lang.proofs.least.each_or_least.Goals as goal

pub items-preserved-in-Err-Wrong : goal.items-preserved-in-Err-Wrong
items-preserved-in-Err-Wrong g c =
    let checked : g.K.Check.checks c.args.context.now c.item-item.result
    ≡ Err c.in-Err-Wrong.why = rw c.in-Err-Wrong.field-0-is at c.in-Err-Wrong.ensures in
    let kept = each-against (g.K.Check.checks c.args.context.now) c.items.found.items
    c.items.against c.args.items.now c.items.item-index c.item-item.result c.in-Err-Wrong.why
    (omega (arith, c.items-test.true)) c.item-item.is checked in
    rw (c.with_one.ensures)
    (◌∙◌ {c = each_or_least (g.K.Check.checks c.args.context.now) c.args.items.now} (sym kept)
    c.items.invariant)

pub items-preserved : goal.items-preserved
items-preserved g c =
    let kept = each-found (g.K.Check.checks c.args.context.now) c.items.found.items c.items.against
    c.args.items.now c.items.item-index c.item-item.result c.in-Ok.y
    (omega (arith, c.items-test.true)) c.item-item.is c.in-Ok.ensures in
    rw c.in_ok-push.ensures.items
    (◌∙◌ {c = each_or_least (g.K.Check.checks c.args.context.now) c.args.items.now} (sym kept)
    c.items.invariant)
