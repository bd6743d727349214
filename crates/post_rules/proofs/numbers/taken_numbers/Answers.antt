use Rattle.std.proofs.Common.{ℕ, ◌==◌, pos, if◌then◌else◌, List, [], ◌∷◌, ◌++◌, ℤ, ap, ◌∙◌, sym}
use Rattle.std.proofs.Common.{arith, rules, SFits}
use Rattle.std.specs.Int.{w128}
use Rattle.std.proofs.lemmas.Int.{to_z-of_z}
use Rattle.std.proofs.lemmas.List.FromFn.{map-range_with_len_more}
use Rattle.post_rules.proofs.numbers.taken_numbers.Goals as goal

pub resources-preserved : goal.resources-preserved
resources-preserved c =
    let f : ℕ → ℤ = λ r. if r == c.args.quantity then c.args.take.now.quantity
    else (if r == c.args.amount then c.args.take.now.amount else pos 0) in
    let fits : SFits w128 c.taken_number.result = search rules in
    ◌∙◌ {A = List ℤ} c.in_ok-push.ensures.items
    (ap (λ (x : ℤ). c.resources.numbers.items ++ x ∷ [])
    (to_z-of_z w128 c.taken_number.result fits ∙ c.taken_number.ensures)
    ∙ ap (λ (xs : List ℤ). xs ++ f c.resources.resource ∷ []) c.resources.invariant
    ∙ sym (map-range_with_len_more f 0 c.resources.resource c.resources.resource (omega arith)))
