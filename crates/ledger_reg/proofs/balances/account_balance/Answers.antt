use Rattle.std.proofs.Common.{ap, ◌∙◌, subst}
use Rattle.reg_base.specs.Tries.{Tries}
use Rattle.reg_base.specs.Turnovers.{limited_rows}
use Rattle.ledger_reg.specs.Balances.{shown_balances}
use Rattle.ledger_reg.proofs.BalanceLemmas.{shown-account_balance}
use Rattle.ledger_reg.proofs.balances.account_balance.Goals as goal

pub returns : goal.returns
returns c =
    let chart = c.args.chart.now in
    let ask = c.args.ask.now in
    subst (Tries c.balance_rows.result)
    (ap limited_rows
    (ap (shown_balances chart ask.account ask.extras)
    (c.as_slice.ensures ∙ c.in_ok-sums.ensures.value)
    ∙ shown-account_balance chart ask.account ask.extras c.args.cut.now ask.ledger
    c.args.documents))
    c.balance_rows.ensures
