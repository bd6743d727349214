use Rattle.std.proofs.Common.{◌≡◌, map, take}
use Rattle.post_model.specs.Scenes.{code_value}
use Rattle.post_rules.specs.SceneViews.{scene_view}
use Rattle.post_rules.proofs.entries.codes_of.Given as goal

abbrev pub invariant-terms : goal.invariant-terms
invariant-terms l =
    l.codes.items ≡ map (code_value (scene_view l.scene)) (take l.term-index l.terms)
