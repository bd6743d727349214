use Rattle.std.proofs.Common.{◌≡◌, ◌-◌}
use Rattle.std.specs.List.{range_with_len}
use Rattle.cfg_model.proofs.ForAbove.{result_front}
use Rattle.post_model.specs.Makes.{numbers_for}
use Rattle.post_rules.specs.SceneViews.{scene_view}
use Rattle.post_rules.proofs.numbers.numbers_for.Given as goal

-- the numbers so far, in front of those of the resources that are left, are all
abbrev pub invariant-resources : goal.invariant-resources
invariant-resources l =
    result_front l.numbers.items (numbers_for (scene_view l.scene) l.sums
    (range_with_len l.resource (l.resources - l.resource)))
    ≡ numbers_for (scene_view l.scene) l.sums (range_with_len 0 l.resources)
