use Rattle.std.proofs.Common.{◌≡◌, drop}
use Rattle.post_rules.specs.ActParts.{expenses_for}
use Rattle.post_rules.specs.SceneViews.{scene_view}
use Rattle.post_rules.proofs.expenses.expenses_made.Given as goal

-- what those that are left make of what is made so far is what all make
abbrev pub invariant-takes : goal.invariant-takes
invariant-takes l =
    expenses_for l.config (scene_view l.scene) l.register l.binds l.quantity l.amount
    (drop l.take-index l.takes) l.made
    ≡ expenses_for l.config (scene_view l.scene) l.register l.binds l.quantity l.amount l.takes
    l.fn.begun
