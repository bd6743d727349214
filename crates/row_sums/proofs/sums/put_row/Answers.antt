use Rattle.std.proofs.Common.{ap, ◌∙◌}
use Rattle.row_sums.specs.Rows.{rows_of, with_row}
use Rattle.row_sums.proofs.RowLemmas.{rows_of-insert_entry, derived-values_cmp}
use Rattle.row_sums.proofs.sums.put_row.Goals as goal

pub returns : goal.returns
returns c =
    ap rows_of c.in_ok-insert.ensures.entries
    ∙ rows_of-insert_entry _ (λ x y. derived-values_cmp x.items y.items) c.args.sums.now.entries
    c.into_vec.result c.into_vec-2.result
    ∙ (λ i. with_row (record { group = c.into_vec.ensures i; sums = c.into_vec-2.ensures i })
    (rows_of c.args.sums.now.entries))
