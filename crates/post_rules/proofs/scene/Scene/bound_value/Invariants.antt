use Rattle.std.proofs.Common.{◌≡◌, drop}
use Rattle.post_model.specs.Scenes.{bound_value}
use Rattle.post_rules.specs.SceneViews.{scene_view}
use Rattle.post_rules.proofs.scene.Scene.bound_value.Given as goal

-- the dimension is bound by the binds that are left, or by none
abbrev pub invariant-binds : goal.invariant-binds
invariant-binds l =
    bound_value (scene_view l.self) (drop l.bind-index l.binds) l.dimension
    ≡ bound_value (scene_view l.self) l.binds l.dimension
