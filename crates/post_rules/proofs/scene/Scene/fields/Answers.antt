use Rattle.std.proofs.Common.{ℕ, List, [], ◌∷◌, ◌++◌, Option, ap, ◌∙◌, sym, arith}
use Rattle.std.proofs.lemmas.List.FromFn.{map-range_with_len_more}
use Rattle.reg_base.specs.declared.value.Value.{Value}
use Rattle.post_model.specs.Scenes.{bound_value}
use Rattle.post_rules.specs.SceneViews.{scene_view}
use Rattle.post_rules.proofs.scene.Scene.fields.Goals as goal

pub dimensions-preserved : goal.dimensions-preserved
dimensions-preserved c =
    let f : ℕ → Option Value = bound_value (scene_view c.args.self.now) c.args.binds.now in
    let j = c.dimensions.dimension in
    ◌∙◌ {A = List (Option Value)} c.in_ok-push.ensures.items
    (ap (λ (x : Option Value). c.dimensions.fields.items ++ x ∷ []) c.bound_value.ensures
    ∙ ap (λ (xs : List (Option Value)). xs ++ f j ∷ []) c.dimensions.invariant
    ∙ sym (map-range_with_len_more f 0 j j (omega arith)))
