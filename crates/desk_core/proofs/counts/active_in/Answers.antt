use Rattle.std.proofs.Common.{◌≡◌, ◌+◌, ◌∷◌, ◌++◌, ℕ, [], length, take, ap, ◌∙◌, sym}
use Rattle.std.proofs.Common.{arith}
use Rattle.std.specs.List.{sum_by}
use Rattle.std.proofs.lemmas.List.{take_all, length_push}
use Rattle.std.proofs.lemmas.List.Sums.{sum_by_more}
use Rattle.std.proofs.lemmas.Iterator.Consumers.{YieldsList-from_first, YieldsList-turn}
use Rattle.std.proofs.lemmas.Iterator.Consumers.{YieldsList-end}
use Rattle.reg_base.specs.declared.records.Document.{Document}
use Rattle.desk_core.specs.Counts.{active_postings, active_records}
use Rattle.desk_core.proofs.counts.active_in.Goals as goal

pub loop-document-preserved : goal.loop-document-preserved
loop-document-preserved c =
    let turn = YieldsList-turn (YieldsList-from_first (λ x. x.now) (λ ds. ds) c.args.documents
    c.into_iter-document-iterator.ensures.into_iter_gives)
    c.loop-document.yielded _ c.loop-document.yielded_by _ _ c.in-Some.document c.in-Some.is
    c.next.ensures.steps in
    let count = length c.loop-document.yielded in
    let longer = length_push c.loop-document.yielded c.in-Some.document in
    let more : (f : Document → ℕ) → sum_by f (take count c.args.documents)
    + f c.in-Some.document.now ≡ sum_by f
    (take (length (c.loop-document.yielded ++ c.in-Some.document ∷ [])) c.args.documents) =
    λ f. ap (λ d. sum_by f (take count c.args.documents) + f d) turn.1
    ∙ sym (sum_by_more f c.args.documents count c.in-Some.document.now turn.0)
    ∙ ap (λ n. sum_by f (take n c.args.documents)) (sym longer) in
    record {
      records = omega (
        arith,
        more active_records,
        c.loop-document.invariant.records,
        c.from.ensures,
        c.active_records.ensures.value,
      );
      postings = omega (
        arith,
        more active_postings,
        c.loop-document.invariant.postings,
        c.from-in-loop-document.ensures,
        c.active_postings.ensures.value,
      );
      few = omega (
        arith,
        longer,
        c.loop-document.invariant.few,
        c.from.ensures,
        c.active_records.ensures.few,
      );
      small = omega (
        arith,
        longer,
        c.loop-document.invariant.small,
        c.from-in-loop-document.ensures,
        c.active_postings.ensures.few,
      );
    }

pub returns-clause-records : goal.returns-clause-records
returns-clause-records c =
    let end = YieldsList-end (YieldsList-from_first (λ x. x.now) (λ ds. ds) c.args.documents
    c.into_iter-document-iterator.ensures.into_iter_gives)
    c.loop-document.yielded _ c.loop-document.yielded_by _ _ c.in-None.is c.next.ensures.steps in
    c.loop-document.invariant.records ∙ ap (sum_by active_records)
    (take_all (length c.loop-document.yielded) c.args.documents (omega (arith, end.1)))

pub returns-clause-postings : goal.returns-clause-postings
returns-clause-postings c =
    let end = YieldsList-end (YieldsList-from_first (λ x. x.now) (λ ds. ds) c.args.documents
    c.into_iter-document-iterator.ensures.into_iter_gives)
    c.loop-document.yielded _ c.loop-document.yielded_by _ _ c.in-None.is c.next.ensures.steps in
    c.loop-document.invariant.postings ∙ ap (sum_by active_postings)
    (take_all (length c.loop-document.yielded) c.args.documents (omega (arith, end.1)))
