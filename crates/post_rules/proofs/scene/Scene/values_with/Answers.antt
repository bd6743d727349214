use Rattle.std.proofs.Common.{◌≡◌, ℕ, List, [], ◌∷◌, ◌++◌, Option, None, ap, ◌∙◌, sym, rules}
use Rattle.reg_base.specs.declared.value.Value.{Value}
use Rattle.post_model.specs.Scenes.{bound_value}
use Rattle.post_model.specs.Makes.{option_or}
use Rattle.post_rules.specs.SceneViews.{scene_view}
use Rattle.post_rules.proofs.RangeLemmas.{some-more, none-more}
use Rattle.post_rules.proofs.scene.Scene.values_with.Goals as goal

pub dimensions-preserved-in_default : goal.dimensions-preserved-in_default
dimensions-preserved-in_default c =
    let f : ℕ → Option Value =
    λ d. option_or (bound_value (scene_view c.args.self.now) c.args.binds.now d)
    c.args.lot.now in
    let none : c.value_or.result ≡ None = search rules in
    c.dimensions.invariant
    ∙ sym (none-more f c.dimensions.dimension (sym c.value_or.ensures ∙ none))

pub dimensions-preserved : goal.dimensions-preserved
dimensions-preserved c =
    let f : ℕ → Option Value =
    λ d. option_or (bound_value (scene_view c.args.self.now) c.args.binds.now d)
    c.args.lot.now in
    ◌∙◌ {A = List Value} c.in_ok-push.ensures.items
    (ap (λ (xs : List Value). xs ++ c.in-Some.value ∷ []) c.dimensions.invariant
    ∙ sym (some-more f c.dimensions.dimension c.in-Some.value
    (sym c.value_or.ensures ∙ c.in-Some.is)))
