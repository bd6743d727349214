use Rattle.std.proofs.Common.{ℕ, ℤ, ◌+ℤ◌, List, [], ◌∷◌, ◌++◌, ap, ◌∙◌, sym, arith, rules, SFits}
use Rattle.std.specs.Int.{w128}
use Rattle.std.proofs.lemmas.Int.{to_z-of_z}
use Rattle.std.proofs.lemmas.List.FromFn.{map-range_with_len_more}
use Rattle.table_sums.specs.Additions.{number_at}
use Rattle.table_sums.proofs.column_sums.added.Goals as goal

pub loop-column-preserved : goal.loop-column-preserved
loop-column-preserved c =
    let fits : SFits w128 c.total_in.result = search rules in
    let F : ℕ → ℤ = λ j. number_at c.args.numbers.now j +ℤ number_at c.args.sums.now j in
    ◌∙◌ {A = List ℤ} c.in_ok-push.ensures.items
    (ap (λ (x : ℤ). c.loop-column.totals.items ++ x ∷ [])
    (to_z-of_z w128 c.total_in.result fits ∙ c.total_in.ensures)
    ∙ ap (λ (xs : List ℤ). xs ++ F c.loop-column.column ∷ []) c.loop-column.invariant
    ∙ sym (map-range_with_len_more F 0 c.loop-column.column c.loop-column.column (omega arith)))
