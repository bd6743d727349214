use Rattle.std.proofs.Common.{◌^◌, ◌+◌, None, List, length, map, take, subst}
use Rattle.std.proofs.lemmas.List.{take_all}
use Rattle.reg_base.specs.declared.records.Rec.{Rec}
use Rattle.reg_base.specs.Records.{Booked}
use Rattle.row_sums.specs.Sums.{booked, Adds}
use Rattle.row_sums.proofs.ForAbove.{Adds-both, reach-more}
use Rattle.desk_core.proofs.ControlSums.{set-more, set-few}
use Rattle.desk_core.proofs.controls.add_records.Goals as goal

pub add-requires : goal.add-requires
add-requires c =
    reach-more (2 ^ 45 + length (map (booked 0) (take c.loop-rec.rec-index c.args.set.now)))
    (2 ^ 46) (set-few 0 c.args.set.now c.loop-rec.rec-index c.requires.short)
    c.loop-rec.sums ((c.loop-rec.invariant 0).reach (2 ^ 45) c.requires.reach)

pub loop-rec-preserved : goal.loop-rec-preserved
loop-rec-preserved c = λ number.
    let P : List Booked → Type 0 = λ xs. Adds None c.args.resources xs c.args.sums.now
    c.add.new.self in
    subst P
    (set-more number c.args.set.now c.loop-rec.rec-index c.rec-item.result c.loop-rec-test.true
    c.rec-item.is)
    (Adds-both None c.args.resources _ _ c.args.sums.now c.loop-rec.sums c.add.new.self
    (c.loop-rec.invariant number) (c.in_ok-add.ensures number))

pub returns : goal.returns
returns c = λ number.
    let P : List Rec → Type 0 = λ set. Adds None c.args.resources (map (booked number) set)
    c.args.sums.now c.loop-rec.sums in
    subst P (take_all c.loop-rec.rec-index c.args.set.now c.loop-rec-test.false)
    (c.loop-rec.invariant number)
