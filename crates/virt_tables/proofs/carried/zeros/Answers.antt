use Rattle.std.proofs.Common.{ℤ, pos, List, [], ◌∷◌, ◌++◌, ap, ◌∙◌, sym, arith}
use Rattle.std.proofs.lemmas.List.FromFn.{map-range_with_len_more}
use Rattle.virt_tables.proofs.carried.zeros.Goals as goal

pub loop-column-preserved : goal.loop-column-preserved
loop-column-preserved c =
    ◌∙◌ {A = List ℤ} c.in_ok-push.ensures.items
    (ap (λ (xs : List ℤ). xs ++ pos 0 ∷ []) c.loop-column.invariant
    ∙ sym (map-range_with_len_more (λ j. pos 0) 0 c.loop-column.column c.loop-column.column
    (omega arith)))
