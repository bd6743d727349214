use Rattle.std.proofs.Common.{◌≡◌, ◌∙◌, ap, ◌-ℤ◌, ◌++◌, ◌∷◌, [], int_lt, pos, true}
use Rattle.std.proofs.Common.{false, rules, arith, to_z, of_z, w64, SFits}
use Rattle.std.specs.Int.{w128}
use Rattle.std.proofs.lemmas.Int.{to_z-of_z}
use Rattle.post_model.specs.WriteOffs.{taken_from, in_stock}
use Rattle.post_rules.proofs.TakeLemmas.{loop-step, some-step, none-step}
use Rattle.post_rules.proofs.write_offs.taken.Goals as goal
use Rattle.post_rules.proofs.write_offs.taken.Goals.{then-part-gt0+in_ok-push, else-part-gt0}

pub holdings-preserved : goal.holdings-preserved
holdings-preserved c =
    let rest = to_z w64 c.holdings.rest-bits in
    let part = c.part_of-part.result in
    let next-fits : SFits w64 c.less-rest.result = search rules in
    let part-fits : SFits w64 part = search rules in
    let stock-fits : SFits w128 c.in_stock.result = search rules in
    let next-is : to_z w64 (of_z w64 c.less-rest.result) ≡ rest -ℤ part =
    to_z-of_z w64 c.less-rest.result next-fits ∙ c.less-rest.ensures.value
    ∙ ap (λ p. rest -ℤ p) (to_z-of_z w64 part part-fits) in
    let stock-is : to_z w128 (of_z w128 c.in_stock.result) ≡ in_stock c.holding-item.result =
    to_z-of_z w128 c.in_stock.result stock-fits ∙ c.in_stock.ensures in
    elim c.if-part-gt0.branch [
      | then-part-gt0+in_ok-push w ↦
          let above : int_lt (pos 0) part ≡ true = grind (arith, to_z-of_z) in
          let put : c.if-part-gt0.takes
          ≡ c.holdings.takes ++ taken_from part c.holding-item.result ∷ [] =
          w.takes-is ∙ w.in_ok-push.ensures.ok
          ∙ ap (λ h. c.holdings.takes ++ h ∷ []) (w.taken_from.ensures
          ∙ ap (λ p. taken_from p c.holding-item.result) (to_z-of_z w64 part part-fits)) in (
            loop-step c.args.holdings.now c.holdings.holding-index c.holding-item.result
                c.holdings.takes c.if-part-gt0.takes _ rest part _ _ c.holdings-test.true
                c.holding-item.is c.part_of-part.ensures.value stock-is next-is
                (some-step part _ _ _ above put) c.holdings.invariant.0,
            search rules,
            search rules,
          )
      | else-part-gt0 w ↦
          let above : int_lt (pos 0) part ≡ false = grind (arith, to_z-of_z) in (
            loop-step c.args.holdings.now c.holdings.holding-index c.holding-item.result
                c.holdings.takes c.if-part-gt0.takes _ rest part _ _ c.holdings-test.true
                c.holding-item.is c.part_of-part.ensures.value stock-is next-is
                (none-step part _ _ _ above w.takes-is) c.holdings.invariant.0,
            search rules,
            search rules,
          )
    ]
