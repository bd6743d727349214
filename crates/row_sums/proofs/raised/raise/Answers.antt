use Rattle.std.proofs.Common.{ℕ, ℤ, ◌+ℤ◌, ap, ◌∙◌, rules, below_more, SFits}
use Rattle.std.specs.Int.{w128}
use Rattle.std.proofs.lemmas.Int.{to_z-of_z}
use Rattle.std.specs.Prelude.{slice_set}
use Rattle.reg_base.specs.Records.{amount_at}
use Rattle.row_sums.specs.Sums.{sum_at}
use Rattle.row_sums.proofs.RaiseLemmas.{raise-at, raise-step}
use Rattle.row_sums.proofs.raised.raise.Goals as goal

pub loop-j-preserved : goal.loop-j-preserved
loop-j-preserved c = record {
  value =
      let fits : SFits w128 c.raised_sum.result = search rules in
      let F : ℕ → ℤ = λ j. amount_at j c.args.rec.now +ℤ sum_at c.args.sums.now j in
      ap (slice_set c.loop-j.sums c.loop-j.j) (to_z-of_z w128 c.raised_sum.result fits)
      ∙ raise-step F c.args.sums.now c.loop-j.sums c.loop-j.j c.loop-j-test.true
      c.loop-j.invariant.value c.raised_sum.result
      (c.raised_sum.ensures.value
      ∙ ap (λ s. amount_at c.loop-j.j c.args.rec.now +ℤ s)
      (raise-at F c.args.sums.now c.loop-j.sums c.loop-j.j c.loop-j-test.true
      c.loop-j.invariant.value));
  small = below_more _ _ c.loop-j.invariant.small c.raised_sum.ensures.small;
}
