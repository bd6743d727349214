use Rattle.std.proofs.Common.{◌≡◌, ℕ, ◌+◌, ◌-◌, Option, None, ap, ◌∙◌, sym, drop, arith}
use Rattle.std.specs.List.{filter_map, cons_option}
use Rattle.reg_base.specs.Records.{in_order}
use Rattle.desk_model.specs.Controls.{controlled_by, control_cmp, controls_in}
use Rattle.desk_core.proofs.ControlLemmas.{controls-more}
use Rattle.desk_core.proofs.controls.controls_of.Goals as goal

pub loop-place-preserved : goal.loop-place-preserved
loop-place-preserved c =
    let statements = c.args.statements.now in
    let i : ℕ = c.loop-place.place - 1 in
    let s = c.index-statements-place.result in
    let none : controlled_by s.act ≡ None =
    ap (λ x. controlled_by x.act) c.index-statements-place.is ∙ sym c.controlled_by.ensures
    ∙ c.in_default.is in
    let back : c.loop-place.place ≡ i + 1 = omega (arith, c.loop-place-test.true) in
    c.loop-place.invariant
    ∙ ap (λ n. controls_in (drop n statements)) back
    ∙ ap (λ (o : Option (ℕ × ℕ)). in_order control_cmp (cons_option o
    (filter_map (λ x. controlled_by x.act) (drop (i + 1) statements)))) (sym none)
    ∙ sym (controls-more statements i s
    (omega (arith, c.loop-place-test.true, c.loop-place.auto.place)) c.index-statements-place.is)
