use Rattle.std.proofs.Common.{◌≡◌, ◌∙◌, rules, SFits, to_z, of_z}
use Rattle.std.specs.Int.{w128}
use Rattle.std.proofs.lemmas.Int.{to_z-of_z}
use Rattle.post_rules.specs.SceneViews.{scene_view}
use Rattle.post_rules.proofs.ReadLemmas.{require-run}
use Rattle.post_rules.proofs.acts.require.Goals as goal

pub returns : goal.returns
returns g c =
    let fits : SFits w128 c.in_ok-left.left = search rules in
    let left : to_z w128 (of_z w128 c.in_ok-left.left) ≡ c.in_ok-left.left =
    to_z-of_z w128 c.in_ok-left.left fits in
    require-run c.args.config.now (g.B.Balances.books c.args.view.now) (scene_view c.args.scene.now)
    c.args.register c.args.binds.now c.args.resource c.args.least.now c.args.code
    _ c.args.made c.in_ok-made.made c.in_ok-item.item c.required.result
    c.in_ok-item.ensures c.in_ok-made.ensures (left ∙ c.in_ok-left.ensures) c.required.ensures
