use Rattle.std.proofs.Common.{◌≡◌, ◌+◌, ◌^◌, IfOk, List, [], length, ap, ◌∙◌, sym, subst, take}
use Rattle.std.proofs.Common.{arith}
use Rattle.std.specs.Option.{option_copied}
use Rattle.std.specs.List.{flat_map}
use Rattle.std.proofs.lemmas.List.{take_all, length_push}
use Rattle.std.proofs.lemmas.Iterator.Consumers.{YieldsList-from_first, YieldsList-turn}
use Rattle.std.proofs.lemmas.Iterator.Consumers.{YieldsList-end}
use Rattle.reg_base.specs.declared.records.Document.{Document}
use Rattle.reg_base.specs.Records.{Booked, booked_by}
use Rattle.reg_base.specs.Balances.{sum_rows}
use Rattle.row_sums.specs.Sums.{Adds}
use Rattle.row_sums.proofs.ForAbove.{AddsUp-nil, Adds-both, reach-more}
use Rattle.virt_tables.specs.Bounds.{HasShortRecords}
use Rattle.virt_tables.specs.Cuts.{counted, AddsFor}
use Rattle.virt_tables.proofs.CutLemmas.{documents-few, documents-more}
use Rattle.virt_tables.proofs.cuts.balance_rows.Goals as goal

pub counted_set-set-requires : goal.counted_set-set-requires
counted_set-set-requires c =
    let turn = YieldsList-turn (YieldsList-from_first (λ x. x.now) (λ ds. ds) c.args.documents
    c.into_iter-document-iterator.ensures.into_iter_gives)
    c.loop-document.yielded _ c.loop-document.yielded_by _ _ c.in-Some.document c.in-Some.is
    c.next.ensures.steps in
    subst HasShortRecords (sym turn.1)
    (c.requires.short (length c.loop-document.yielded) c.in-Some.document.now turn.0)

pub add_set-requires-clause-reach : goal.add_set-requires-clause-reach
add_set-requires-clause-reach c =
    let q = c.args.query.now in
    let so_far = counted q (flat_map (booked_by q.register)
    (take (length c.loop-document.yielded) c.args.documents)) in
    reach-more (0 + length so_far) (2 ^ 45)
    (omega (
      arith,
      documents-few q q.register c.args.documents (length c.loop-document.yielded)
          c.requires.short c.requires.few,
    ))
    c.loop-document.sums (c.loop-document.invariant.reach 0 tt)

pub loop-document-preserved : goal.loop-document-preserved
loop-document-preserved c =
    let turn = YieldsList-turn (YieldsList-from_first (λ x. x.now) (λ ds. ds) c.args.documents
    c.into_iter-document-iterator.ensures.into_iter_gives)
    c.loop-document.yielded _ c.loop-document.yielded_by _ _ c.in-Some.document c.in-Some.is
    c.next.ensures.steps in
    let q = c.args.query.now in
    let added : AddsFor q (booked_by q.register c.in-Some.document.now) c.loop-document.sums
    c.add_set.new.sums = subst (λ xs. AddsFor q xs c.loop-document.sums c.add_set.new.sums)
    c.counted_set-set.ensures.value c.in_ok-add_set.ensures in
    let P : List Booked → Type 0 = λ xs. Adds (option_copied q.by) q.resources xs []
    c.add_set.new.sums in
    subst P
    (documents-more q (booked_by q.register) c.args.documents (length c.loop-document.yielded)
    c.in-Some.document.now turn
    ∙ ap (λ n. counted q (flat_map (booked_by q.register) (take n c.args.documents)))
    (sym (length_push c.loop-document.yielded c.in-Some.document)))
    (Adds-both (option_copied q.by) q.resources _ _ [] c.loop-document.sums
    c.add_set.new.sums c.loop-document.invariant added)

pub returns : goal.returns
returns c =
    let end = YieldsList-end (YieldsList-from_first (λ x. x.now) (λ ds. ds) c.args.documents
    c.into_iter-document-iterator.ensures.into_iter_gives)
    c.loop-document.yielded _ c.loop-document.yielded_by _ _ c.in-None.is c.next.ensures.steps in
    let q = c.args.query.now in
    let P : List Document → Type 0 = λ ds. IfOk c.into_shown.result (λ rows. rows
    ≡ sum_rows q.resources (option_copied q.by) (counted q (flat_map (booked_by q.register) ds))) in
    subst P (take_all (length c.loop-document.yielded) c.args.documents (omega (arith, end.1)))
    (c.into_shown.ensures.rows (option_copied q.by) q.resources _
    (c.loop-document.invariant.sums [] (AddsUp-nil (option_copied q.by) q.resources)))
