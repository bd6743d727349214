use Rattle.std.proofs.Common.{◌≡◌, drop}
use Rattle.post_model.specs.Makes.{number_for}
use Rattle.post_rules.specs.SceneViews.{scene_view}
use Rattle.post_rules.proofs.numbers.number_for.Given as goal

-- the resource is named in what is left, or nowhere
abbrev pub invariant-sums : goal.invariant-sums
invariant-sums l =
    number_for (scene_view l.scene) (drop l.named-index l.sums) l.resource
    ≡ number_for (scene_view l.scene) l.sums l.resource
