use Rattle.std.proofs.Common.{◌+◌, ◌^◌, List, [], ◌∷◌, length, take, subst, arith}
use Rattle.std.proofs.lemmas.List.{take_all}
use Rattle.reg_base.specs.declared.tables.Unit.{Unit as TableUnit}
use Rattle.table_sums.specs.Additions.{Addition, Adds}
use Rattle.table_sums.proofs.ForAbove.{Adds-none, Adds-both, reach-more}
use Rattle.virt_tables.specs.Both.{both_width, most_brought, brought, ends_at}
use Rattle.virt_tables.proofs.BroughtLemmas.{ends-more, ends-short}
use Rattle.virt_tables.proofs.both_sums.add_ends.Goals as goal

pub loop-unit-init : goal.loop-unit-init
loop-unit-init c = Adds-none (both_width c.args.moves.now.resources) c.args.sums.now

pub add_columns-requires-clause-reach : goal.add_columns-requires-clause-reach
add_columns-requires-clause-reach c =
    let m = c.args.moves.now in
    reach-more (most_brought + 15_002 + length (ends_at m.resources m.ask.now.group
    (take c.loop-unit.unit-index c.args.ends.now) c.args.rec.now)) (2 ^ 46)
    (omega (
      arith,
      ends-short m.resources m.ask.now.group c.args.rec.now c.args.ends.now
          c.loop-unit.unit-index c.requires.ends,
    ))
    c.loop-unit.sums (c.loop-unit.invariant.reach (most_brought + 15_002) c.requires.reach)

pub loop-unit-preserved : goal.loop-unit-preserved
loop-unit-preserved c =
    let m = c.args.moves.now in
    let width = both_width m.resources in
    let P : List Addition → Type 0 = λ xs. Adds width xs c.args.sums.now
    c.add_columns.new.sums in
    subst P
    (ends-more m.resources m.ask.now.group c.args.rec.now c.args.ends.now
    c.loop-unit.unit-index c.unit-item.result c.loop-unit-test.true c.unit-item.is)
    (Adds-both width _ _ c.args.sums.now c.loop-unit.sums c.add_columns.new.sums
    c.loop-unit.invariant
    (subst (λ cs. Adds width (brought cs m.resources m.ask.now.group c.unit-item.result
    c.args.rec.now ∷ []) c.loop-unit.sums c.add_columns.new.sums)
    c.columns_none.ensures.value c.in_ok-add_columns.ensures))

pub returns : goal.returns
returns c =
    let m = c.args.moves.now in
    let P : List TableUnit → Type 0 = λ ends. Adds (both_width m.resources)
    (ends_at m.resources m.ask.now.group ends c.args.rec.now) c.args.sums.now
    c.loop-unit.sums in
    subst P (take_all c.loop-unit.unit-index c.args.ends.now c.loop-unit-test.false)
    c.loop-unit.invariant
