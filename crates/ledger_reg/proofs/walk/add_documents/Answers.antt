use Rattle.std.proofs.Common.{List, length, ap, ◌∙◌, sym, subst, take, arith}
use Rattle.std.specs.List.{filter, flat_map}
use Rattle.std.proofs.lemmas.List.{take_all, length_push}
use Rattle.std.proofs.lemmas.Iterator.Consumers.{YieldsList-from_first, YieldsList-turn}
use Rattle.std.proofs.lemmas.Iterator.Consumers.{YieldsList-end}
use Rattle.reg_base.specs.declared.records.Document.{Document}
use Rattle.reg_base.specs.BookedEntries.{BookedEntry, entered_by}
use Rattle.ledger_reg.specs.Walks.{Adds, counts, HasShortLedgers}
use Rattle.ledger_reg.proofs.WalkLemmas.{Adds-both, documents-few, documents-more}
use Rattle.ledger_reg.proofs.walk.add_documents.Goals as goal

pub entered_set-set-requires : goal.entered_set-set-requires
entered_set-set-requires g c =
    let turn = YieldsList-turn (YieldsList-from_first (λ x. x.now) (λ ds. ds) c.args.documents
    c.into_iter-document-iterator.ensures.into_iter_gives)
    c.loop-document.yielded _ c.loop-document.yielded_by _ _ c.in-Some.document c.in-Some.is
    c.next.ensures.steps in
    subst HasShortLedgers (sym turn.1)
    (c.requires.short (length c.loop-document.yielded) c.in-Some.document.now turn.0)

pub add_set-requires-clause-size : goal.add_set-requires-clause-size
add_set-requires-clause-size g c = omega (
  arith,
  c.requires.small,
  c.loop-document.invariant.growth,
  documents-few (counts c.args.span.now) c.args.ledger c.args.documents
      (length c.loop-document.yielded) c.requires.short c.requires.few,
)

pub loop-document-preserved : goal.loop-document-preserved
loop-document-preserved g c =
    let turn = YieldsList-turn (YieldsList-from_first (λ x. x.now) (λ ds. ds) c.args.documents
    c.into_iter-document-iterator.ensures.into_iter_gives)
    c.loop-document.yielded _ c.loop-document.yielded_by _ _ c.in-Some.document c.in-Some.is
    c.next.ensures.steps in
    let p = counts c.args.span.now in
    let f = entered_by c.args.ledger in
    let holds = g.S.Gathers.holds c.args.span.now in
    let size = g.S.Gathers.size in
    let added : Adds holds size (filter p (f c.in-Some.document.now)) c.loop-document.sums
    c.add_set.new.sums = subst (λ (xs : List BookedEntry). Adds holds size (filter p xs)
    c.loop-document.sums c.add_set.new.sums) c.entered_set-set.ensures.value
    c.in_ok-add_set.ensures in
    subst (λ (xs : List BookedEntry). Adds holds size xs c.args.sums.now c.add_set.new.sums)
    (documents-more p f c.args.documents (length c.loop-document.yielded)
    c.in-Some.document.now turn
    ∙ ap (λ n. filter p (flat_map f (take n c.args.documents)))
    (sym (length_push c.loop-document.yielded c.in-Some.document)))
    (Adds-both holds size _ _ c.args.sums.now c.loop-document.sums c.add_set.new.sums
    c.loop-document.invariant added)

pub returns : goal.returns
returns g c =
    let end = YieldsList-end (YieldsList-from_first (λ x. x.now) (λ ds. ds) c.args.documents
    c.into_iter-document-iterator.ensures.into_iter_gives)
    c.loop-document.yielded _ c.loop-document.yielded_by _ _ c.in-None.is c.next.ensures.steps in
    subst (λ (ds : List Document). Adds (g.S.Gathers.holds c.args.span.now) g.S.Gathers.size
    (filter (counts c.args.span.now) (flat_map (entered_by c.args.ledger) ds)) c.args.sums.now
    c.loop-document.sums)
    (take_all (length c.loop-document.yielded) c.args.documents (omega (arith, end.1)))
    c.loop-document.invariant
