use Rattle.std.proofs.Common.{◌≡◌, List, IfOk, rules}
use Rattle.post_model.specs.declared.holding.Holding.{Holding}
use Rattle.post_model.specs.Lefts.{left_of}
use Rattle.post_model.specs.Yields.{holdings_of}
use Rattle.post_rules.specs.Bounds.{AreSmallHoldings}
use Rattle.post_rules.proofs.LeftLemmas.{AreSmall-holdings_of, IsReadable-left_of}
use Rattle.post_rules.proofs.MadeLemmas.{IfOk-same}
use Rattle.post_rules.proofs.lefts.holdings_left.Goals as goal

pub returns-clause-small : goal.returns-clause-small
returns-clause-small g c =
    let left = left_of (g.B.Balances.books c.args.view.now) c.args.doc.now c.args.sets.now
    c.args.item.now in
    let holdings : List Holding = holdings_of c.args.config.now c.args.fifo c.args.item.now.space
    c.args.quantity c.args.amount left in
    let value : IfOk c.holdings_in.result (λ hs. hs ≡ holdings) = search rules in
    IfOk-same AreSmallHoldings c.holdings_in.result holdings value
    (AreSmall-holdings_of c.args.config.now c.args.fifo c.args.item.now.space c.args.quantity
    c.args.amount left (IsReadable-left_of (g.B.Balances.books c.args.view.now) c.args.doc.now
    c.args.sets.now c.args.item.now (c.requires.reads.sheets c.args.item.now.space)
    c.requires.sets))
