use Rattle.std.proofs.Common.{◌≡◌, ◌+◌, List, [], ◌∷◌, ◌++◌, length, map, ap, ◌∙◌, sym, subst, take}
use Rattle.std.proofs.Common.{arith}
use Rattle.std.specs.List.{filter}
use Rattle.std.proofs.lemmas.List.{take_all, take_more, length_push}
use Rattle.std.proofs.lemmas.Iterator.Consumers.{YieldsList-from_first, YieldsList-turn}
use Rattle.std.proofs.lemmas.Iterator.Consumers.{YieldsList-end}
use Rattle.reg_base.specs.declared.point.Point.{Point}
use Rattle.reg_base.specs.declared.records.Document.{Document}
use Rattle.reg_base.specs.Documents.{document_point}
use Rattle.doc_store.specs.Dates.{is_between}
use Rattle.doc_store.proofs.DateLemmas.{between-append}
use Rattle.doc_store.proofs.dates.points_between.Goals as goal

pub loop-document-preserved : goal.loop-document-preserved
loop-document-preserved c =
    let turn = YieldsList-turn (YieldsList-from_first (λ x. x.now) (λ ds. ds) c.args.documents
    c.into_iter-document-iterator.ensures.into_iter_gives)
    c.loop-document.yielded _ c.loop-document.yielded_by _ _ c.in-Some.document c.in-Some.is
    c.next.ensures.steps in
    let here : List Document → List Point =
    λ ds. map document_point (filter (is_between c.args.from c.args.to) ds) in
    c.in_ok-push_between.ensures
    ∙ ap (λ ps. ps ++ here (c.in-Some.document.now ∷ [])) c.loop-document.invariant
    ∙ sym (between-append c.args.from c.args.to
    (take (length c.loop-document.yielded) c.args.documents) (c.in-Some.document.now ∷ []))
    ∙ ap here (ap (λ d. take (length c.loop-document.yielded) c.args.documents ++ d ∷ []) turn.1
    ∙ sym (take_more c.args.documents (length c.loop-document.yielded) c.in-Some.document.now
    turn.0))
    ∙ ap (λ n. here (take n c.args.documents))
    (sym (length_push c.loop-document.yielded c.in-Some.document))

pub returns : goal.returns
returns c =
    let end = YieldsList-end (YieldsList-from_first (λ x. x.now) (λ ds. ds) c.args.documents
    c.into_iter-document-iterator.ensures.into_iter_gives)
    c.loop-document.yielded _ c.loop-document.yielded_by _ _ c.in-None.is c.next.ensures.steps in
    c.loop-document.invariant
    ∙ ap (λ ds. map document_point (filter (is_between c.args.from c.args.to) ds))
    (take_all (length c.loop-document.yielded) c.args.documents (omega (arith, end.1)))
