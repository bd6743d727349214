use Rattle.std.proofs.Common.{◌≡◌}
use Rattle.post_model.specs.Makes.{taken_numbers}
use Rattle.post_rules.proofs.numbers.taken_numbers.Given as goal

abbrev pub invariant-resources : goal.invariant-resources
invariant-resources l =
    l.numbers.items ≡ taken_numbers l.quantity l.amount l.take l.resource
