use Rattle.std.proofs.Common.{◌≡◌, ℕ, ℤ, List, [], ◌∷◌, ◌++◌, map, ap}
use Rattle.std.proofs.Common.{◌∙◌, sym, subst, arith, rules}
use Rattle.std.proofs.Common.{SFits, append_assoc}
use Rattle.std.specs.Int.{w128}
use Rattle.std.specs.List.{range_with_len}
use Rattle.std.proofs.lemmas.Int.{to_z-of_z}
use Rattle.std.proofs.lemmas.List.FromFn.{map-range_with_len_more}
use Rattle.table_sums.specs.Additions.{IsInReach}
use Rattle.table_sums.proofs.ForAbove.{zero-reach}
use Rattle.virt_tables.specs.Columns.{column_at, AreSmall}
use Rattle.virt_tables.proofs.ListLemmas.{numbers-push}
use Rattle.virt_tables.proofs.columns.push_column.Goals as goal

pub loop-resource-preserved : goal.loop-resource-preserved
loop-resource-preserved c =
    let fits : SFits w128 c.column_at.result = search rules in
    let F : ℕ → ℤ = λ j. column_at c.args.column.now j c.args.rec.now in
    let j = c.loop-resource.resource in
    let xs = c.loop-resource.numbers.items in
    let items : c.push.new.self.items ≡ xs ++ c.column_at.result ∷ [] =
    ◌∙◌ {A = List ℤ} c.in_ok-push.ensures.items
    (ap (λ (x : ℤ). xs ++ x ∷ []) (to_z-of_z w128 c.column_at.result fits)) in
    record {
      value =
          items
          ∙ ap (λ (x : ℤ). xs ++ x ∷ []) c.column_at.ensures.value
          ∙ ap (λ (ys : List ℤ). ys ++ F j ∷ []) c.loop-resource.invariant.value
          ∙ append_assoc c.args.numbers.now.items (map F (range_with_len 0 j)) (F j ∷ [])
          ∙ ap (λ (ys : List ℤ). c.args.numbers.now.items ++ ys)
          (sym (map-range_with_len_more F 0 j j (omega arith)));
      small = subst AreSmall (sym items)
          (numbers-push (IsInReach 1) (zero-reach 1) xs c.column_at.result
          c.loop-resource.invariant.small c.column_at.ensures.small);
    }
