use Rattle.std.proofs.Common.{◌≡◌}
use Rattle.post_model.specs.Makes.{values_with}
use Rattle.post_rules.specs.SceneViews.{scene_view}
use Rattle.post_rules.proofs.scene.Scene.values_with.Given as goal

abbrev pub invariant-dimensions : goal.invariant-dimensions
invariant-dimensions l =
    l.values.items ≡ values_with (scene_view l.self) l.binds l.lot l.dimension
