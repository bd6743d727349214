use Rattle.std.proofs.Common.{◌≡◌, ◌∷◌, [], map, take}
use Rattle.std.specs.Prelude.{option_map}
use Rattle.post_rules.proofs.reads.filter_of.Given as goal

abbrev pub invariant-fields : goal.invariant-fields
invariant-fields l =
    l.lists.items ≡ map (option_map (λ v. v ∷ [])) (take l.field-index l.field-items)
