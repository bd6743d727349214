use Rattle.std.proofs.Common.{◌≡◌, ◌≤ℤ◌, pos, ◌++◌, drop}
use Rattle.post_model.specs.WriteOffs.{taken as taken_from_all}
use Rattle.post_rules.proofs.write_offs.taken.Given as goal

-- what is taken so far and then for the rest is what is taken in all
abbrev pub invariant-holdings : goal.invariant-holdings
invariant-holdings l =
    (l.takes ++ taken_from_all l.rest (drop l.holding-index l.holdings)
    ≡ taken_from_all l.wanted l.holdings)
    × (pos 0 ≤ℤ l.rest) × (l.rest ≤ℤ l.wanted)
