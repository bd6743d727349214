use Rattle.std.proofs.Common.{◌≡◌, map}
use Rattle.std.specs.List.{range_with_len}
use Rattle.post_model.specs.Scenes.{bound_value}
use Rattle.post_rules.specs.SceneViews.{scene_view}
use Rattle.post_rules.proofs.scene.Scene.fields.Given as goal

abbrev pub invariant-dimensions : goal.invariant-dimensions
invariant-dimensions l =
    l.fields.items ≡ map (bound_value (scene_view l.self) l.binds)
    (range_with_len 0 l.dimension)
