use Rattle.std.proofs.Common.{◌≡◌, ◌*◌, ◌^◌, List, IfOk, ap, ◌∙◌, sym, subst, filter}
use Rattle.reg_base.specs.declared.records.SumRow.{SumRow}
use Rattle.reg_base.specs.Balances.{is_shown}
use Rattle.row_sums.specs.Sums.{AreInReach}
use Rattle.row_sums.specs.Rows.{rows_of}
use Rattle.row_sums.proofs.AddLemmas.{shown-sum_rows}
use Rattle.row_sums.proofs.ReachLemmas.{within-filter, IfOk-is}
use Rattle.row_sums.proofs.sums.RowSums.into_shown.Goals as goal

pub returns-clause-reach : goal.returns-clause-reach
returns-clause-reach c = λ count h.
    let rows : List SumRow = rows_of c.self.inside.sums.entries in
    IfOk-is (AreInReach count) (filter is_shown rows) c.shown_rows.result c.shown_rows.ensures
    (within-filter (2 ^ 63 * count) is_shown rows
    (subst (AreInReach count) (sym c.self.view_is) h))

pub returns-clause-rows : goal.returns-clause-rows
returns-clause-rows c = λ by n bs h.
    let P : List SumRow → Type 0 = λ ys. IfOk c.shown_rows.result (λ rows. rows ≡ ys) in
    subst P (ap (filter is_shown) c.self.view_is ∙ shown-sum_rows by n bs c.args.self h)
    c.shown_rows.ensures
