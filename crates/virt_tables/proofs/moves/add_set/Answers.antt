use Rattle.std.proofs.Common.{◌^◌, ◌+◌, List, length, map, take, subst}
use Rattle.std.proofs.lemmas.List.{take_all}
use Rattle.reg_base.specs.declared.records.Rec.{Rec}
use Rattle.row_sums.specs.Sums.{booked}
use Rattle.table_sums.specs.Additions.{Addition, Adds}
use Rattle.table_sums.proofs.ForAbove.{Adds-none, Adds-both, reach-more}
use Rattle.virt_tables.specs.Columns.{width_of, moves_of, AddsMoves}
use Rattle.virt_tables.proofs.MoveLemmas.{set-moves, set-few-moves}
use Rattle.virt_tables.proofs.moves.add_set.Goals as goal

pub loop-rec-init : goal.loop-rec-init
loop-rec-init c =
    Adds-none (width_of c.args.moves.now.balances c.args.moves.now.resources) c.args.sums.now

pub add_moved-requires : goal.add_moved-requires
add_moved-requires c =
    reach-more (2 ^ 45 + length (moves_of c.args.moves.now
    (map (booked c.args.number) (take c.loop-rec.rec-index c.args.set.now)))) (2 ^ 46)
    (set-few-moves c.args.moves.now c.args.number c.args.set.now c.loop-rec.rec-index
    c.requires.short)
    c.loop-rec.sums (c.loop-rec.invariant.reach (2 ^ 45) c.requires.reach)

pub loop-rec-preserved : goal.loop-rec-preserved
loop-rec-preserved c =
    let m = c.args.moves.now in
    let width = width_of m.balances m.resources in
    let P : List Addition → Type 0 = λ xs. Adds width xs c.args.sums.now
    c.add_moved.new.sums in
    subst P
    (set-moves m c.args.number c.args.set.now c.loop-rec.rec-index c.rec-item.result
    c.loop-rec-test.true c.rec-item.is)
    (Adds-both width _ _ c.args.sums.now c.loop-rec.sums
    c.add_moved.new.sums c.loop-rec.invariant c.in_ok-add_moved.ensures)

pub returns : goal.returns
returns c =
    let P : List Rec → Type 0 = λ set. AddsMoves c.args.moves.now
    (map (booked c.args.number) set) c.args.sums.now c.loop-rec.sums in
    subst P (take_all c.loop-rec.rec-index c.args.set.now c.loop-rec-test.false)
    c.loop-rec.invariant
