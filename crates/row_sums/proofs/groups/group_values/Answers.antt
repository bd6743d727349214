use Rattle.std.proofs.Common.{ℕ, Option, List, [], ◌∷◌, ◌++◌, ap, ◌∙◌, sym, take}
use Rattle.std.specs.Prelude.{slice_get}
use Rattle.std.specs.List.{filter_map, cons_option}
use Rattle.std.proofs.lemmas.List.{append-nil}
use Rattle.reg_base.specs.declared.value.Value.{Value}
use Rattle.row_sums.proofs.ListLemmas.{filter_map-more}
use Rattle.row_sums.proofs.groups.group_values.Goals as goal
use Rattle.row_sums.proofs.groups.group_values.Goals.{in-Some+in_ok-push, in_default}

pub loop-dimension-preserved : goal.loop-dimension-preserved
loop-dimension-preserved c =
    let h : ℕ → Option Value = λ d. slice_get c.args.values.now d in
    let front : List Value = filter_map h (take c.loop-dimension.dimension-index
    c.args.dimensions.now) in
    let more = sym (filter_map-more h c.args.dimensions.now c.loop-dimension.dimension-index 0
    c.loop-dimension-test.true) in
    elim c.match-value_at.branch [
      | in-Some+in_ok-push w ↦
          ap (λ g. g.items) w.group-is ∙ w.in_ok-push.ensures.items
          ∙ ap (λ xs. xs ++ w.in-Some.value.now ∷ []) c.loop-dimension.invariant
          ∙ ap (λ o. front ++ cons_option o []) w.in-Some.ensures ∙ more
      | in_default w ↦
          ap (λ g. g.items) w.group-is ∙ c.loop-dimension.invariant ∙ sym (append-nil front)
          ∙ ap (λ o. front ++ cons_option o []) w.in_default.ensures ∙ more
    ]
