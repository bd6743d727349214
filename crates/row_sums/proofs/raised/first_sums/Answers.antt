use Rattle.std.proofs.Common.{ℕ, List, [], ◌∷◌, ◌++◌, ℤ, ap}
use Rattle.std.proofs.Common.{◌∙◌, sym, subst, arith, rules, below_more}
use Rattle.std.proofs.Common.{SFits}
use Rattle.std.specs.Int.{w128}
use Rattle.std.proofs.lemmas.Int.{to_z-of_z}
use Rattle.std.proofs.lemmas.List.FromFn.{map-range_with_len_more}
use Rattle.reg_base.specs.Records.{amount_at}
use Rattle.row_sums.specs.Sums.{IsInReach}
use Rattle.row_sums.proofs.raised.first_sums.Goals as goal

pub loop-j-preserved : goal.loop-j-preserved
loop-j-preserved c = record {
  value =
      let fits : SFits w128 c.amount_at.result = search rules in
      let F : ℕ → ℤ = λ j. amount_at j c.args.rec.now in
      ◌∙◌ {A = List ℤ} c.in_ok-push.ensures.items
      (ap (λ (x : ℤ). c.loop-j.sums.items ++ x ∷ [])
      (to_z-of_z w128 c.amount_at.result fits ∙ c.amount_at.ensures.value)
      ∙ ap (λ (xs : List ℤ). xs ++ F c.loop-j.j ∷ []) c.loop-j.invariant.value
      ∙ sym (map-range_with_len_more F 0 c.loop-j.j c.loop-j.j (omega arith)));
  small = below_more _ _ c.loop-j.invariant.small
      (subst (IsInReach 1) c.amount_at.ensures.value c.amount_at.ensures.small);
}
