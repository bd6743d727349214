use Rattle.std.proofs.Common.{Some, sym, ap, ◌∙◌, arith}
use Rattle.desk_plans.proofs.PartLemmas.{values_for-differs, behind-more, behind-unread}
use Rattle.desk_plans.proofs.PartLemmas.{behind-done}
use Rattle.desk_plans.proofs.part.values_for.Goals as goal

pub returns-then-parts-texts : goal.returns-then-parts-texts
returns-then-parts-texts g c = sym (values_for-differs _ _ _ c.if-parts-texts.true)

pub parts-preserved : goal.parts-preserved
parts-preserved g c =
    behind-more g.P.Part.reads c.args.parts.now c.args.texts.now c.parts.index
    c.index-parts-index.result c.index-texts-index.result c.parts.spelt.items
    c.push.new.self.items c.in-Some.x _
    c.parts-test.true (omega (arith, c.parts-test.true, c.if-parts-texts.false))
    c.index-parts-index.is c.index-texts-index.is
    (sym c.in-Some.is ∙ c.read.ensures
    ∙ ap (g.P.Part.reads c.index-parts-index.result) c.as_str.ensures)
    c.in_ok-push.ensures.items c.parts.invariant

pub returns-in_default : goal.returns-in_default
returns-in_default g c =
    behind-unread g.P.Part.reads c.args.parts.now c.args.texts.now c.parts.index
    c.index-parts-index.result c.index-texts-index.result c.parts.spelt.items _
    c.parts-test.true (omega (arith, c.parts-test.true, c.if-parts-texts.false))
    c.index-parts-index.is c.index-texts-index.is
    (sym c.in_default.is ∙ c.read.ensures
    ∙ ap (g.P.Part.reads c.index-parts-index.result) c.as_str.ensures)
    c.parts.invariant

pub returns : goal.returns
returns g c =
    ap Some c.from_vec.ensures
    ∙ behind-done g.P.Part.reads c.args.parts.now c.args.texts.now c.parts.index c.parts.spelt.items
    _
    c.parts-test.false (omega (arith, c.parts-test.false, c.if-parts-texts.false)) c.parts.invariant
