use Rattle.std.proofs.Common.{◌≡◌, ◌+◌, ◌^◌, List, [], length, ap, ◌∙◌, sym, subst, take}
use Rattle.std.proofs.Common.{arith, refl}
use Rattle.std.specs.List.{flat_map}
use Rattle.std.proofs.lemmas.List.{take_all, length_push}
use Rattle.std.proofs.lemmas.Iterator.Consumers.{YieldsList-from_first, YieldsList-turn}
use Rattle.std.proofs.lemmas.Iterator.Consumers.{YieldsList-end}
use Rattle.reg_base.specs.declared.records.Document.{Document}
use Rattle.reg_base.specs.Records.{booked_by}
use Rattle.table_sums.specs.Additions.{Addition, Adds, rows_over}
use Rattle.table_sums.proofs.ForAbove.{Adds-none, Adds-both, reach-more}
use Rattle.virt_tables.specs.Bounds.{HasShortRecords}
use Rattle.virt_tables.specs.Both.{both_width, most_brought, both_moves, AddsBoth}
use Rattle.virt_tables.proofs.BroughtLemmas.{documents-few-both, documents-both}
use Rattle.virt_tables.proofs.both_sums.both_sums.Goals as goal

pub loop-document-init : goal.loop-document-init
loop-document-init c =
    let width = both_width c.args.moves.now.resources in
    subst (λ sums. Adds width [] [] sums) (sym c.new-sums.ensures) (Adds-none width [])

pub counted_set-set-requires : goal.counted_set-set-requires
counted_set-set-requires c =
    let turn = YieldsList-turn (YieldsList-from_first (λ x. x.now) (λ ds. ds) c.args.documents
    c.into_iter-document-iterator.ensures.into_iter_gives)
    c.loop-document.yielded _ c.loop-document.yielded_by _ _ c.in-Some.document c.in-Some.is
    c.next.ensures.steps in
    subst HasShortRecords (sym turn.1)
    (c.requires.short (length c.loop-document.yielded) c.in-Some.document.now turn.0)

pub add_set-requires-clause-reach : goal.add_set-requires-clause-reach
add_set-requires-clause-reach c =
    let m = c.args.moves.now in
    let so_far = both_moves m c.args.ends.now (flat_map (booked_by m.ask.now.register)
    (take (length c.loop-document.yielded) c.args.documents)) in
    reach-more (0 + length so_far) most_brought
    (omega (
      arith,
      documents-few-both m c.args.ends.now m.ask.now.register c.args.documents
          (length c.loop-document.yielded) c.requires.ends c.requires.short c.requires.few,
    ))
    c.loop-document.sums (c.loop-document.invariant.reach 0 (λ j. omega arith))

pub loop-document-preserved : goal.loop-document-preserved
loop-document-preserved c =
    let turn = YieldsList-turn (YieldsList-from_first (λ x. x.now) (λ ds. ds) c.args.documents
    c.into_iter-document-iterator.ensures.into_iter_gives)
    c.loop-document.yielded _ c.loop-document.yielded_by _ _ c.in-Some.document c.in-Some.is
    c.next.ensures.steps in
    let m = c.args.moves.now in
    let width = both_width m.resources in
    let added : AddsBoth m c.args.ends.now (booked_by m.ask.now.register c.in-Some.document.now)
    c.loop-document.sums c.add_set.new.sums =
    subst (λ xs. AddsBoth m c.args.ends.now xs c.loop-document.sums c.add_set.new.sums)
    c.counted_set-set.ensures.value c.in_ok-add_set.ensures in
    let P : List Addition → Type 0 = λ xs. Adds width xs [] c.add_set.new.sums in
    subst P
    (documents-both m c.args.ends.now (booked_by m.ask.now.register) c.args.documents
    (length c.loop-document.yielded) c.in-Some.document.now turn
    ∙ ap (λ n. both_moves m c.args.ends.now
    (flat_map (booked_by m.ask.now.register) (take n c.args.documents)))
    (sym (length_push c.loop-document.yielded c.in-Some.document)))
    (Adds-both width _ _ [] c.loop-document.sums
    c.add_set.new.sums c.loop-document.invariant added)

pub returns-clause-value : goal.returns-clause-value
returns-clause-value c =
    let end = YieldsList-end (YieldsList-from_first (λ x. x.now) (λ ds. ds) c.args.documents
    c.into_iter-document-iterator.ensures.into_iter_gives)
    c.loop-document.yielded _ c.loop-document.yielded_by _ _ c.in-None.is c.next.ensures.steps in
    let m = c.args.moves.now in
    let P : List Document → Type 0 = λ ds. c.loop-document.sums
    ≡ rows_over (both_width m.resources)
    (both_moves m c.args.ends.now (flat_map (booked_by m.ask.now.register) ds)) in
    subst P (take_all (length c.loop-document.yielded) c.args.documents (omega (arith, end.1)))
    (c.loop-document.invariant.sums [] refl)

pub returns-clause-reach : goal.returns-clause-reach
returns-clause-reach c =
    let m = c.args.moves.now in
    let so_far = both_moves m c.args.ends.now (flat_map (booked_by m.ask.now.register)
    (take (length c.loop-document.yielded) c.args.documents)) in
    reach-more (0 + length so_far) (2 ^ 46)
    (omega (
      arith,
      documents-few-both m c.args.ends.now m.ask.now.register c.args.documents
          (length c.loop-document.yielded) c.requires.ends c.requires.short c.requires.few,
    ))
    c.loop-document.sums (c.loop-document.invariant.reach 0 (λ j. omega arith))
