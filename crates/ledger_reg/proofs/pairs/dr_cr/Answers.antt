use Rattle.std.proofs.Common.{[], ap, ◌∙◌, subst}
use Rattle.std.specs.List.{flat_map}
use Rattle.reg_base.specs.Tries.{Tries}
use Rattle.reg_base.specs.Turnovers.{limited_rows}
use Rattle.ledger_reg.specs.Pairs.{pairs_in, shown_pair}
use Rattle.ledger_reg.proofs.RowLemmas.{table-limited}
use Rattle.ledger_reg.proofs.PairLemmas.{shown-dr_cr}
use Rattle.ledger_reg.proofs.pairs.dr_cr.Goals as goal

pub returns : goal.returns
returns c =
    let chart = c.args.chart.now in
    let asked = c.args.ask.now.account in
    let range = c.args.range.now in
    subst (Tries c.pair_rows.result)
    (ap (λ es. limited_rows (flat_map (shown_pair chart asked) es))
    (c.in_ok-add_documents.ensures.sums [] (ap pairs_in c.new-sums.ensures))
    ∙ ap limited_rows (shown-dr_cr chart asked range c.args.ask.now.ledger c.args.documents)
    ∙ table-limited range _ _ c.in_ok-check_range.ensures)
    c.pair_rows.ensures
