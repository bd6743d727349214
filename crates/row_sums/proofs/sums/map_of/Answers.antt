use Rattle.std.proofs.Common.{◌≡◌, ◌∷◌, ◌++◌, ap, ◌∙◌, sym}
use Rattle.std.specs.Vec.Iter.{into_iter_items}
use Rattle.row_sums.specs.Rows.{rows_of}
use Rattle.row_sums.proofs.RowLemmas.{with_row-next}
use Rattle.row_sums.proofs.sums.map_of.Goals as goal

pub loop-row-preserved : goal.loop-row-preserved
loop-row-preserved c = λ rise.
    let left : into_iter_items c.loop-row.row-iterator ≡ c.in-Some.row
    ∷ into_iter_items c.next.new.self = c.in-Some.ensures.steps.0 in
    ap (λ t. t ++ into_iter_items c.next.new.self) c.in_ok-put_row.ensures
    ∙ with_row-next (rows_of c.loop-row.sums.entries) c.in-Some.row
    (into_iter_items c.next.new.self) c.args.rows rise
    (ap (λ t. rows_of c.loop-row.sums.entries ++ t) (sym left) ∙ c.loop-row.invariant rise)
