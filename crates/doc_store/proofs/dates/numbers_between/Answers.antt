use Rattle.std.proofs.Common.{◌≡◌, IfOk, map, ap, ◌∙◌, subst}
use Rattle.reg_base.specs.declared.point.Point.{Point}
use Rattle.doc_store.proofs.DateLemmas.{sorted-between}
use Rattle.doc_store.proofs.dates.numbers_between.Goals as goal

pub returns : goal.returns
returns c = subst (λ ns. IfOk c.numbers_of.result (λ numbers. numbers ≡ ns))
    (ap (map (λ (p : Point). p.doc)) c.deref.ensures.value
    ∙ sorted-between c.args.from c.args.to c.args.documents c.in_ok-points.points.items
    c.sort_unstable.new.self.items c.in_ok-points.ensures c.sort_unstable.ensures.permutation
    c.sort_unstable.ensures.sorted)
    c.numbers_of.ensures
