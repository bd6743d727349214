use Rattle.std.proofs.Common.{◌≡◌, ◌+◌, ◌^◌, ◌++◌, ◌∷◌, None, List, [], length, ap, ◌∙◌, sym}
use Rattle.std.proofs.Common.{subst, take, arith, length-append}
use Rattle.std.specs.List.{flat_map}
use Rattle.std.proofs.lemmas.List.{take_all, length_push, length-map}
use Rattle.std.proofs.lemmas.Iterator.Consumers.{YieldsList-from_first, YieldsList-turn}
use Rattle.std.proofs.lemmas.Iterator.Consumers.{YieldsList-end}
use Rattle.reg_base.specs.declared.records.Document.{Document}
use Rattle.reg_base.specs.Records.{Booked}
use Rattle.row_sums.specs.Sums.{booked, Adds, AddsUp}
use Rattle.row_sums.proofs.ForAbove.{AddsUp-nil, Adds-both, reach-more}
use Rattle.desk_plans.specs.Bounds.{IsWithinBounds}
use Rattle.desk_core.specs.Controls.{booked_by_other}
use Rattle.desk_core.proofs.ControlSums.{documents-more}
use Rattle.desk_core.proofs.controls.sums_of_others.Goals as goal

pub set_of_other-set-requires : goal.set_of_other-set-requires
set_of_other-set-requires c =
    let turn = YieldsList-turn (YieldsList-from_first (λ x. x.now) (λ ds. ds) c.args.documents
    c.into_iter-document-iterator.ensures.into_iter_gives)
    c.loop-document.yielded _ c.loop-document.yielded_by _ _ c.in-Some.document c.in-Some.is
    c.next.ensures.steps in
    subst IsWithinBounds (sym turn.1)
    (c.requires.short (length c.loop-document.yielded) c.in-Some.document.now turn.0)

pub add_records-requires-clause-reach : goal.add_records-requires-clause-reach
add_records-requires-clause-reach c =
    let turn = YieldsList-turn (YieldsList-from_first (λ x. x.now) (λ ds. ds) c.args.documents
    c.into_iter-document-iterator.ensures.into_iter_gives)
    c.loop-document.yielded _ c.loop-document.yielded_by _ _ c.in-Some.document c.in-Some.is
    c.next.ensures.steps in
    reach-more (0 + length (flat_map (booked_by_other c.args.number c.args.register)
    (take (length c.loop-document.yielded) c.args.documents))) (2 ^ 45)
    (omega (arith, c.loop-document.invariant.few, c.requires.few, turn.0))
    c.loop-document.sums (c.loop-document.invariant.adds.reach 0 tt)

pub loop-document-preserved : goal.loop-document-preserved
loop-document-preserved c =
    let turn = YieldsList-turn (YieldsList-from_first (λ x. x.now) (λ ds. ds) c.args.documents
    c.into_iter-document-iterator.ensures.into_iter_gives)
    c.loop-document.yielded _ c.loop-document.yielded_by _ _ c.in-Some.document c.in-Some.is
    c.next.ensures.steps in
    let f : Document → List Booked = booked_by_other c.args.number c.args.register in
    let so_far : List Booked = flat_map f
    (take (length c.loop-document.yielded) c.args.documents) in
    let added : Adds None c.args.resources (f c.in-Some.document.now) c.loop-document.sums
    c.add_records.new.sums = subst
    (λ xs. Adds None c.args.resources xs c.loop-document.sums c.add_records.new.sums)
    c.set_of_other-set.ensures.value
    (c.in_ok-add_records.ensures c.in-Some.document.now.doc.number) in
    let more : so_far ++ f c.in-Some.document.now ≡ flat_map f
    (take (length (c.loop-document.yielded ++ c.in-Some.document ∷ [])) c.args.documents) =
    documents-more f c.args.documents (length c.loop-document.yielded) c.in-Some.document.now turn
    ∙ ap (λ n. flat_map f (take n c.args.documents))
    (sym (length_push c.loop-document.yielded c.in-Some.document)) in
    record {
      adds = subst (λ xs. Adds None c.args.resources xs [] c.add_records.new.sums) more
          (Adds-both None c.args.resources _ _ [] c.loop-document.sums c.add_records.new.sums
          c.loop-document.invariant.adds added);
      few = omega (
        arith,
        ap length (sym more),
        length-append so_far (f c.in-Some.document.now),
        ap length (sym c.set_of_other-set.ensures.value),
        length-map c.set_of_other-set.result.now (booked c.in-Some.document.now.doc.number),
        c.set_of_other-set.ensures.short,
        c.loop-document.invariant.few,
        length_push c.loop-document.yielded c.in-Some.document,
      );
    }

pub returns-clause-sums : goal.returns-clause-sums
returns-clause-sums c =
    let end = YieldsList-end (YieldsList-from_first (λ x. x.now) (λ ds. ds) c.args.documents
    c.into_iter-document-iterator.ensures.into_iter_gives)
    c.loop-document.yielded _ c.loop-document.yielded_by _ _ c.in-None.is c.next.ensures.steps in
    let P : List Document → Type 0 = λ ds. AddsUp None c.args.resources
    (flat_map (booked_by_other c.args.number c.args.register) ds) c.loop-document.sums in
    subst P (take_all (length c.loop-document.yielded) c.args.documents (omega (arith, end.1)))
    (c.loop-document.invariant.adds.sums [] (AddsUp-nil None c.args.resources))

pub returns-clause-reach : goal.returns-clause-reach
returns-clause-reach c =
    let end = YieldsList-end (YieldsList-from_first (λ x. x.now) (λ ds. ds) c.args.documents
    c.into_iter-document-iterator.ensures.into_iter_gives)
    c.loop-document.yielded _ c.loop-document.yielded_by _ _ c.in-None.is c.next.ensures.steps in
    reach-more (0 + length (flat_map (booked_by_other c.args.number c.args.register)
    (take (length c.loop-document.yielded) c.args.documents))) (2 ^ 45)
    (omega (arith, c.loop-document.invariant.few, c.requires.few, end.1))
    c.loop-document.sums (c.loop-document.invariant.adds.reach 0 tt)
