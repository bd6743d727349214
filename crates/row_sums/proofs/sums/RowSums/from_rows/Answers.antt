use Rattle.std.proofs.Common.{sym, subst}
use Rattle.row_sums.specs.Sums.{AddsUp}
use Rattle.row_sums.proofs.AddLemmas.{AddsUp-sum_rows}
use Rattle.row_sums.proofs.sums.RowSums.from_rows.Goals as goal

pub returns-clause-same : goal.returns-clause-same
returns-clause-same c = λ by n bs e.
    c.in_ok-sums.ensures (AddsUp-sum_rows by n bs c.args.rows e).rising

pub returns-clause-sums : goal.returns-clause-sums
returns-clause-sums c = λ by n bs e.
    let h = AddsUp-sum_rows by n bs c.args.rows e in
    subst (AddsUp by n bs) (sym (c.in_ok-sums.ensures h.rising)) h
