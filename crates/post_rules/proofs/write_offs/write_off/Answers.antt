use Rattle.std.proofs.Common.{◌≡◌, ◌∙◌, ap, subst, sym, ℤ, pos, ◌≤ℤ◌, arith, rules, w64, SFits}
use Rattle.std.proofs.lemmas.Int.{ints, to_z-of_z}
use Rattle.post_model.specs.WriteOffs.{taken}
use Rattle.post_rules.specs.Bounds.{AreSmallHoldings}
use Rattle.post_rules.proofs.SmallTakes.{AreSmall-taken}
use Rattle.post_rules.proofs.write_offs.write_off.Goals as goal

pub returns-clause-small : goal.returns-clause-small
returns-clause-small c =
    let above : pos 0 ≤ℤ c.args.wanted = grind (arith, ints) in
    let fits : SFits w64 c.args.wanted = search rules in
    let takes : c.in_ok-taken.field-0 ≡ taken c.args.wanted c.args.holdings.now =
    c.in_ok-taken.ensures ∙ ap (λ (n : ℤ). taken n c.args.holdings.now)
    (to_z-of_z w64 c.args.wanted fits) in
    subst AreSmallHoldings (sym takes)
    (AreSmall-taken c.args.wanted c.args.holdings.now above c.requires.small)
