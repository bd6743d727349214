use Rattle.std.proofs.Common.{◌+◌, List, length, map, take, subst}
use Rattle.std.proofs.lemmas.List.{take_all}
use Rattle.reg_base.specs.declared.records.Rec.{Rec}
use Rattle.row_sums.specs.Sums.{booked}
use Rattle.table_sums.specs.Additions.{Addition, Adds}
use Rattle.table_sums.proofs.ForAbove.{Adds-none, Adds-both, reach-more}
use Rattle.virt_tables.specs.Both.{both_width, most_brought, both_moves, AddsBoth}
use Rattle.virt_tables.proofs.BroughtLemmas.{set-both, set-few-both}
use Rattle.virt_tables.proofs.both_sums.add_set.Goals as goal

pub loop-rec-init : goal.loop-rec-init
loop-rec-init c = Adds-none (both_width c.args.moves.now.resources) c.args.sums.now

pub add_asked-requires-clause-reach : goal.add_asked-requires-clause-reach
add_asked-requires-clause-reach c =
    reach-more (most_brought + length (both_moves c.args.moves.now c.args.ends.now
    (map (booked c.args.number) (take c.loop-rec.rec-index c.args.set.now))))
    (most_brought + 15_000)
    (set-few-both c.args.moves.now c.args.ends.now c.args.number c.args.set.now
    c.loop-rec.rec-index c.requires.ends c.requires.short)
    c.loop-rec.sums (c.loop-rec.invariant.reach most_brought c.requires.reach)

pub loop-rec-preserved : goal.loop-rec-preserved
loop-rec-preserved c =
    let m = c.args.moves.now in
    let width = both_width m.resources in
    let P : List Addition → Type 0 = λ xs. Adds width xs c.args.sums.now
    c.add_asked.new.sums in
    subst P
    (set-both m c.args.ends.now c.args.number c.args.set.now c.loop-rec.rec-index
    c.rec-item.result c.loop-rec-test.true c.rec-item.is)
    (Adds-both width _ _ c.args.sums.now c.loop-rec.sums
    c.add_asked.new.sums c.loop-rec.invariant c.in_ok-add_asked.ensures)

pub returns : goal.returns
returns c =
    let P : List Rec → Type 0 = λ set. AddsBoth c.args.moves.now c.args.ends.now
    (map (booked c.args.number) set) c.args.sums.now c.loop-rec.sums in
    subst P (take_all c.loop-rec.rec-index c.args.set.now c.loop-rec-test.false)
    c.loop-rec.invariant
