use Rattle.std.proofs.Common.{◌≡◌, ◌*◌, ◌≤◌, unsigned_abs, ◌+ℤ◌, drop}
use Rattle.post_model.specs.Scenes.{terms_value}
use Rattle.post_rules.specs.Bounds.{largest_part}
use Rattle.post_rules.specs.SceneViews.{scene_view}
use Rattle.post_rules.proofs.scene.Scene.terms.Given as goal

-- the terms so far and those that are left are all
abbrev pub invariant-terms : goal.invariant-terms
invariant-terms l =
    (l.sum +ℤ terms_value (scene_view l.self) (drop l.term-index l.terms)
    ≡ terms_value (scene_view l.self) l.terms)
    × (unsigned_abs l.sum ≤ l.term-index * largest_part)
