use Rattle.std.proofs.Common.{◌^◌, ◌+◌, List, length, map, take, subst}
use Rattle.std.specs.Option.{option_copied}
use Rattle.std.proofs.lemmas.List.{take_all}
use Rattle.reg_base.specs.declared.records.Rec.{Rec}
use Rattle.reg_base.specs.Records.{Booked}
use Rattle.row_sums.specs.Sums.{booked, Adds}
use Rattle.row_sums.proofs.ForAbove.{Adds-both, reach-more}
use Rattle.virt_tables.specs.Cuts.{counted, AddsFor}
use Rattle.virt_tables.proofs.CutLemmas.{set-more, set-few}
use Rattle.virt_tables.proofs.cuts.add_set.Goals as goal

pub add_counted-requires : goal.add_counted-requires
add_counted-requires c =
    reach-more (2 ^ 45 + length (counted c.args.query.now
    (map (booked c.args.number) (take c.loop-rec.rec-index c.args.set.now)))) (2 ^ 46)
    (set-few c.args.query.now c.args.number c.args.set.now c.loop-rec.rec-index c.requires.short)
    c.loop-rec.sums (c.loop-rec.invariant.reach (2 ^ 45) c.requires.reach)

pub loop-rec-preserved : goal.loop-rec-preserved
loop-rec-preserved c =
    let q = c.args.query.now in
    let P : List Booked → Type 0 = λ xs. Adds (option_copied q.by) q.resources xs
    c.args.sums.now c.add_counted.new.sums in
    subst P
    (set-more q c.args.number c.args.set.now c.loop-rec.rec-index c.rec-item.result
    c.loop-rec-test.true c.rec-item.is)
    (Adds-both (option_copied q.by) q.resources _ _ c.args.sums.now c.loop-rec.sums
    c.add_counted.new.sums c.loop-rec.invariant c.in_ok-add_counted.ensures)

pub returns : goal.returns
returns c =
    let P : List Rec → Type 0 = λ set. AddsFor c.args.query.now (map (booked c.args.number) set)
    c.args.sums.now c.loop-rec.sums in
    subst P (take_all c.loop-rec.rec-index c.args.set.now c.loop-rec-test.false)
    c.loop-rec.invariant
